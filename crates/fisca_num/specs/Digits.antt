-- Digits and the numbers that they write.
use Rattle.std.proofs.Common.{lit<, ◌≡◌, ℕ, zero, suc, ◌+◌, ◌*◌, ◌/◌, ◌%◌, ◌^◌, ◌<◌, List, [], ◌∷◌, ◌++◌, length, arith, refl, ap, sym, ◌∙◌, length-append, inl, inr}
use Rattle.std.specs.Char.{digit_value}
use Rattle.std.specs.Str.Parse.{AllDigits, digits_value, digits_value_after}
use Rattle.std.proofs.lemmas.Bool.{cases_lt}
use Rattle.std.proofs.lemmas.Bool.Decides.{nat_tests}
use Rattle.std.proofs.lemmas.Str.{digit_value_digit}
use Rattle.std.proofs.lemmas.Str.Parse.{digit_from_value}
use Rattle.std.proofs.lemmas.Int.Digits.{digits_value-lt, digits_value_push, digits_push}
use Rattle.std.proofs.Math.Nat.{pow-suc, mul-le-mul_left}

pub ten_pos : (k : ℕ) → 0 < 10 ^ k
ten_pos zero = lit< tt
ten_pos (suc k) = omega (arith, pow-suc 10 k, ten_pos k)

pub value-digit : (d : ℕ) → d < 10 → digit_value (48 + d) ≡ d
value-digit d h = grind (arith, nat_tests)

pub same_digit : (c e : ℕ) → digit_value c < 10 → digit_value e < 10 → digit_value c ≡ digit_value e → c ≡ e
same_digit c e hc he h = omega (arith, digit_value_digit c (digit_from_value c hc), digit_value_digit e (digit_from_value e he))

pub value_after_is : (n : ℕ) (cs : List ℕ) → digits_value_after 10 n cs ≡ n * 10 ^ length cs + digits_value 10 cs
value_after_is n [] = omega arith
value_after_is n (c ∷ cs) = omega (arith, value_after_is (n * 10 + digit_value c) cs, value_after_is (0 * 10 + digit_value c) cs, pow-suc 10 (length cs), ap (λ x. n * x) (pow-suc 10 (length cs)))

-- a digit counts for its place
pub value-cons : (c : ℕ) (cs : List ℕ) → digits_value 10 (c ∷ cs) ≡ digit_value c * 10 ^ length cs + digits_value 10 cs
value-cons c cs = omega (arith, value_after_is (0 * 10 + digit_value c) cs)

-- the k digits of x, with zeros in front
pub padded : ℕ → ℕ → List ℕ
padded zero x = []
padded (suc k) x = padded k (x / 10) ++ ((48 + x % 10) ∷ [])

pub padded-zero : (x : ℕ) → padded zero x ≡ []
unfolding padded
padded-zero x = refl

pub padded-suc : (k x : ℕ) → padded (suc k) x ≡ padded k (x / 10) ++ ((48 + x % 10) ∷ [])
unfolding padded
padded-suc k x = refl

pub length-padded : (k x : ℕ) → length (padded k x) ≡ k
unfolding padded
length-padded zero x = refl
length-padded (suc k) x = omega (arith, length-append (padded k (x / 10)) ((48 + x % 10) ∷ []), length-padded k (x / 10))

pub digits-padded : (k x : ℕ) → AllDigits 10 (padded k x)
unfolding padded
digits-padded zero x = tt
digits-padded (suc k) x = digits_push 10 (padded k (x / 10)) (48 + x % 10) (digits-padded k (x / 10)) (rw (value-digit (x % 10) (omega arith)) (omega arith))

pub value-padded : (k x : ℕ) → x < 10 ^ k → digits_value 10 (padded k x) ≡ x
unfolding padded
value-padded zero x h = omega arith
value-padded (suc k) x h =
    let less : x / 10 < 10 ^ k = omega (arith, pow-suc 10 k) in
    digits_value_push 10 (padded k (x / 10)) (48 + x % 10) ∙ omega (arith, value-padded k (x / 10) less, value-digit (x % 10) (omega arith))

-- a number below p, after a multiple of p
pub place_same : (a b x y p : ℕ) → x < p → y < p → a * p + x ≡ b * p + y → (a ≡ b) × (x ≡ y)
place_same a b x y p hx hy h =
    elim (cases_lt a b) [
      | inl lt ↦ absurd (omega (arith, mul-le-mul_left p lt))
      | inr le ↦ elim (cases_lt b a) [
        | inl lt ↦ absurd (omega (arith, mul-le-mul_left p lt))
        | inr ge ↦ let e : a ≡ b = omega arith in (e, let f : b * p + x ≡ b * p + y = rw e at h in omega arith)
      ]
    ]

-- digits of one length that write one number are the same
pub same_digits : (xs ys : List ℕ) → length xs ≡ length ys → AllDigits 10 xs → AllDigits 10 ys → digits_value 10 xs ≡ digits_value 10 ys → xs ≡ ys
same_digits [] [] l p q e = refl
same_digits [] (y ∷ ys) l p q e = absurd (omega arith)
same_digits (x ∷ xs) [] l p q e = absurd (omega arith)
same_digits (x ∷ xs) (y ∷ ys) l p q e =
    let short : length xs ≡ length ys = omega arith in
    let same : digit_value x * 10 ^ length ys + digits_value 10 xs ≡ digit_value y * 10 ^ length ys + digits_value 10 ys = rw (← short) (sym (value-cons x xs)) ∙ e ∙ value-cons y ys in
    let parts = place_same (digit_value x) (digit_value y) (digits_value 10 xs) (digits_value 10 ys) (10 ^ length ys) (rw (← short) (digits_value-lt 10 xs p.1)) (digits_value-lt 10 ys q.1) same in
    let front : x ≡ y = same_digit x y p.0 q.0 parts.0 in
    let rest : xs ≡ ys = same_digits xs ys short p.1 q.1 parts.1 in
    cc

-- digits end in 0 where their number does
pub ends_in_zero : (xs : List ℕ) → 0 < length xs → AllDigits 10 xs → digits_value 10 xs % 10 ≡ 0 → (front : List ℕ) × (xs ≡ front ++ (48 ∷ []))
ends_in_zero [] some p e = absurd (omega arith)
ends_in_zero (x ∷ []) some p e = ([], ap (λ c. c ∷ []) (omega (arith, digit_value_digit x (digit_from_value x p.0))))
ends_in_zero (x ∷ y ∷ ys) some p e =
    let rest : digits_value 10 (y ∷ ys) % 10 ≡ 0 = omega (arith, value-cons x (y ∷ ys), ap (λ z. digit_value x * z) (pow-suc 10 (length ys))) in
    let t = ends_in_zero (y ∷ ys) (omega arith) p.1 rest in
    (x ∷ t.0, ap (λ l. x ∷ l) t.1)
