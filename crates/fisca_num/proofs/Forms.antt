-- What a literal's digits are worth.
use Rattle.std.proofs.Common.{◌≡◌, ℕ, ◌+◌, ◌*◌, ◌<◌, ◌≤◌, ◌^◌, min, unsigned_abs, Bool, true, false, ◌&&◌, not, List, [], ◌∷◌, ◌++◌, length, take, drop, arith, ap, sym, ◌∙◌, refl, Err, inl, inr, ◌⊎◌}
use Rattle.std.specs.Char.{digit_value}
use Rattle.std.specs.List.{list_all}
use Rattle.std.specs.Str.Parse.{digits_value, digits_value_after}
use Rattle.std.proofs.lemmas.Bool.{and_parts, eqb-true}
use Rattle.std.proofs.lemmas.Int.{ints}
use Rattle.std.proofs.lemmas.List.{take-append-drop, length-drop}
use Rattle.std.proofs.lemmas.Nat.{pow-add}
use Rattle.std.proofs.Math.Nat.{mul-le-mul_left}
use Rattle.fisca_num.specs.declared.faults.NumFault.TheVariants.{TooWide, NotANumber}
use Rattle.fisca_num.specs.Rational.{signed}
use Rattle.fisca_num.specs.Operations.{number_of}
use Rattle.fisca_num.specs.Digits.{ten_pos, value_after_is}
use Rattle.fisca_num.specs.Literal.{is_form, is_whole, is_empty, are_digits_or_none, digits_in, is_zero_digit, are_few, digits_ratio, number_of_parts, IsRead}
use Rattle.fisca_num.proofs.Places.{read_none}
use Rattle.fisca_num.proofs.Alike.{number_of_same, signed_same, wide_value}

after-append : (n : ℕ) (xs ys : List ℕ) → digits_value_after 10 n (xs ++ ys) ≡ digits_value_after 10 (digits_value_after 10 n xs) ys
after-append n [] ys = refl
after-append n (x ∷ xs) ys = after-append (n * 10 + digit_value x) xs ys

pub value-append : (xs ys : List ℕ) → digits_value 10 (xs ++ ys) ≡ digits_value 10 xs * 10 ^ length ys + digits_value 10 ys
value-append xs ys = after-append 0 xs ys ∙ value_after_is (digits_value 10 xs) ys

value-zeros : (ds : List ℕ) → list_all is_zero_digit ds ≡ true → digits_value 10 ds ≡ 0
value-zeros [] h = refl
value-zeros (d ∷ ds) h =
    let parts = and_parts (is_zero_digit d) (list_all is_zero_digit ds) h in
    let zeros : digits_value 10 (48 ∷ ds) ≡ 0 = value-zeros ds parts.1 in
    rw (eqb-true d 48 parts.0) zeros

-- zeros at the end change nothing
trimmed : (w p v r a b : ℕ) → r ≡ p * b → v ≡ w * (a * b) + r → (w * a + p) * (a * b) ≡ v * a
trimmed w p v r a b h e = omega (arith, ap (λ z. z * a) e, ap (λ z. z * a) h)

pub trimmed_same : (negative : Bool) (ws ds : List ℕ) (number count : ℕ) (few : Bool) → IsRead ds number count few → few ≡ true →
    number_of (record { numerator = signed negative (digits_value 10 ws * 10 ^ count + number); denominator = 10 ^ count }) ≡ number_of (digits_ratio negative ws ds)
trimmed_same negative ws ds number count few x h =
    let size : length ds ≡ count + length (drop 18 ds) = omega (arith, x.count_is, length-drop 18 ds) in
    let ten : 10 ^ length ds ≡ 10 ^ count * 10 ^ length (drop 18 ds) = ap (λ k. 10 ^ k) size ∙ pow-add 10 count (length (drop 18 ds)) in
    let zeros : digits_value 10 (drop 18 ds) ≡ 0 = value-zeros (drop 18 ds) (sym x.few_is ∙ h) in
    let places : digits_value 10 ds ≡ number * 10 ^ length (drop 18 ds) =
    ap (digits_value 10) (sym (take-append-drop 18 ds)) ∙ value-append (take 18 ds) (drop 18 ds) ∙ omega (arith, zeros, ap (λ z. z * 10 ^ length (drop 18 ds)) x.number_is) in
    let all : digits_value 10 (ws ++ ds) ≡ digits_value 10 ws * (10 ^ count * 10 ^ length (drop 18 ds)) + digits_value 10 ds = value-append ws ds ∙ omega (arith, ap (λ z. digits_value 10 ws * z) ten) in
    number_of_same _ (digits_ratio negative ws ds) (ten_pos count) (ten_pos (length ds))
    (signed_same negative (digits_value 10 ws * 10 ^ count + number) (digits_value 10 (ws ++ ds)) (10 ^ length ds) (10 ^ count)
    (rw ten (trimmed (digits_value 10 ws) number (digits_value 10 (ws ++ ds)) (digits_value 10 ds) (10 ^ count) (10 ^ length (drop 18 ds)) places all)))

size_signed : (b : Bool) (n : ℕ) → unsigned_abs (signed b n) ≡ n
size_signed true n = omega (arith, ints)
size_signed false n = refl

pub wide_digits : (negative : Bool) (ws ds : List ℕ) → 2 ^ 63 ≤ digits_value 10 ws → Err TooWide ≡ number_of (digits_ratio negative ws ds)
wide_digits negative ws ds h = wide_value (digits_ratio negative ws ds) (ten_pos (length ds))
    (rw (size_signed negative (digits_value 10 (ws ++ ds))) (omega (arith, value-append ws ds, mul-le-mul_left (10 ^ length ds) h)))

-- ---- the cases of a literal

refused : (b : Bool) (ws ps : List ℕ) → is_form ws ps ≡ false → Err NotANumber ≡ number_of_parts b ws ps
unfolding number_of_parts
refused b ws ps h = rw h refl

pub no_digit : (b : Bool) (ws ps : List ℕ) → length ws ≡ 0 → length ps ≡ 0 → Err NotANumber ≡ number_of_parts b ws ps
no_digit b [] [] h k = refused b [] [] refl
no_digit b [] (p ∷ ps) h k = absurd (omega arith)
no_digit b (w ∷ ws) ps h k = absurd (omega arith)

pub no_whole : (b : Bool) (ws ps : List ℕ) → is_whole ws ≡ false → Err NotANumber ≡ number_of_parts b ws ps
no_whole b ws ps h = refused b ws ps (rw h refl)

pub no_places : (b : Bool) (ws ps : List ℕ) → is_whole ws ≡ true → are_digits_or_none ps ≡ false → Err NotANumber ≡ number_of_parts b ws ps
no_places b ws ps h k = refused b ws ps (rw (h, k) refl)

-- the parts have the form
pub record AreParts (ws ps : List ℕ) : Type 0 where
  pub some : (length ws ≡ 0 → ⊥) ⊎ (length ps ≡ 0 → ⊥)
  pub whole : is_whole ws ≡ true
  pub places : are_digits_or_none ps ≡ true

not_empty : (ws ps : List ℕ) → (length ws ≡ 0 → ⊥) ⊎ (length ps ≡ 0 → ⊥) → not (is_empty ws && is_empty ps) ≡ true
not_empty [] [] (inl h) = absurd (h refl)
not_empty [] [] (inr h) = absurd (h refl)
not_empty [] (p ∷ ps) h = refl
not_empty (w ∷ ws) ps h = refl

form_of : (ws ps : List ℕ) → AreParts ws ps → is_form ws ps ≡ true
form_of ws ps x = rw (x.whole, x.places) (not_empty ws ps x.some)

pub too_long : (b : Bool) (ws ps : List ℕ) → AreParts ws ps → are_few (digits_in ps) ≡ false → Err TooWide ≡ number_of_parts b ws ps
unfolding number_of_parts
too_long b ws ps x e = rw (form_of ws ps x, e) refl

pub valued : (b : Bool) (ws ps : List ℕ) → AreParts ws ps → are_few (digits_in ps) ≡ true → number_of (digits_ratio b (digits_in ws) (digits_in ps)) ≡ number_of_parts b ws ps
unfolding number_of_parts
valued b ws ps x e = rw (form_of ws ps x, e) refl

few_or_not : (b : Bool) → (b ≡ true) ⊎ (b ≡ false)
few_or_not true = inl refl
few_or_not false = inr refl

pub too_wide : (b : Bool) (ws ps : List ℕ) → AreParts ws ps → 2 ^ 63 ≤ digits_value 10 (digits_in ws) → Err TooWide ≡ number_of_parts b ws ps
too_wide b ws ps x h = elim (few_or_not (are_few (digits_in ps))) [
  | inl few ↦ wide_digits b (digits_in ws) (digits_in ps) h ∙ valued b ws ps x few
  | inr many ↦ too_long b ws ps x many
]

pub value_read : (b : Bool) (ws ps : List ℕ) (whole number count : ℕ) (few : Bool) → AreParts ws ps → whole ≡ min (10 ^ 19) (digits_value 10 (digits_in ws)) → whole < 2 ^ 63 → IsRead (digits_in ps) number count few → few ≡ true →
    number_of (record { numerator = signed b (whole * 10 ^ count + number); denominator = 10 ^ count }) ≡ number_of_parts b ws ps
value_read b ws ps whole number count few x e h r f =
    let exact : whole ≡ digits_value 10 (digits_in ws) = omega arith in
    rw exact (trimmed_same b (digits_in ws) (digits_in ps) number count few r f) ∙ valued b ws ps x (sym r.few_is ∙ f)

-- with no places
pub value_whole : (b : Bool) (ws : List ℕ) (whole : ℕ) → AreParts ws [] → whole ≡ min (10 ^ 19) (digits_value 10 (digits_in ws)) → whole < 2 ^ 63 → number_of (record { numerator = signed b whole; denominator = 1 }) ≡ number_of_parts b ws []
value_whole b ws whole x e h =
    let same : whole ≡ whole * 10 ^ 0 + 0 = omega arith in
    ap (λ n. number_of (record { numerator = signed b n; denominator = 1 })) same ∙ value_read b ws [] whole 0 0 true x e h read_none refl

pub not_few : (b : Bool) → not b ≡ true → b ≡ false
not_few true h = sym h
not_few false h = refl

pub is_few : (b : Bool) → not b ≡ false → b ≡ true
is_few true h = refl
is_few false h = sym h
