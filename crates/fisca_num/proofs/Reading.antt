-- Digits read from the front, with `_` between them.
use Rattle.std.proofs.Common.{◌≡◌, ℕ, ◌+◌, ◌*◌, ◌-◌, ◌<◌, ◌≤◌, min, Bool, true, false, ◌&&◌, ◌||◌, ◌==◌, List, [], ◌∷◌, length, drop, get_or, arith, refl, ap, sym, ◌∙◌, add-one, drop-cons, inl, inr, ◌⊎◌}
use Rattle.std.specs.Char.{is_ascii_digit, digit_value}
use Rattle.std.specs.Str.Parse.{digits_value_after}
use Rattle.std.proofs.lemmas.Bool.{cases_lt, and_parts, eqb-true}
use Rattle.std.proofs.lemmas.Bool.Decides.{nat_tests}
use Rattle.fisca_num.specs.Literal.{are_digits, may_follow_digit, digits_in, has_no_leading_zero, is_whole}

-- what may follow a digit, and what may follow nothing or `_`
abbrev pub is_rest : Bool → List ℕ → Bool
is_rest true cs = may_follow_digit cs
is_rest false cs = are_digits cs

no_bar : (c : ℕ) → is_ascii_digit c ≡ true → (c == 95) ≡ false
no_bar c h = grind (arith, nat_tests)

pub value_of_digit : (c : ℕ) → is_ascii_digit c ≡ true → digit_value c ≡ c - 48
value_of_digit c h = grind (arith, nat_tests)

or_false : (a : Bool) → (a || false) ≡ a
or_false true = refl
or_false false = refl

rest_digit : (d : Bool) (c : ℕ) (cs : List ℕ) → is_ascii_digit c ≡ true → is_rest d (c ∷ cs) ≡ is_rest true cs
rest_digit true c cs h = rw (h, no_bar c h) (or_false (may_follow_digit cs))
rest_digit false c cs h = rw h refl

rest_other : (d : Bool) (c : ℕ) (cs : List ℕ) → is_ascii_digit c ≡ false → (d && (c == 95)) ≡ false → is_rest d (c ∷ cs) ≡ false
rest_other true c cs h e = rw (h, e) refl
rest_other false c cs h e = rw h refl

front : (xs : List ℕ) (i : ℕ) → i < length xs → drop i xs ≡ get_or xs i 0 ∷ drop (i + 1) xs
front xs i h = rw (add-one i, drop-cons xs i 0) refl

pub form_digit : (xs : List ℕ) (i : ℕ) (d s : Bool) → i < length xs → is_ascii_digit (get_or xs i 0) ≡ true → is_rest d (drop i xs) ≡ s → is_rest true (drop (i + 1) xs) ≡ s
form_digit xs i d s h is e = sym (rest_digit d (get_or xs i 0) (drop (i + 1) xs) is) ∙ rw (front xs i h) at e

pub form_bar : (xs : List ℕ) (i : ℕ) (s : Bool) → i < length xs → get_or xs i 0 ≡ 95 → is_rest true (drop i xs) ≡ s → is_rest false (drop (i + 1) xs) ≡ s
form_bar xs i s h is e = rw is at (rw (front xs i h) at e)

pub form_other : (xs : List ℕ) (i : ℕ) (d s : Bool) → i < length xs → is_ascii_digit (get_or xs i 0) ≡ false → (d && (get_or xs i 0 == 95)) ≡ false → is_rest d (drop i xs) ≡ s → s ≡ false
form_other xs i d s h is e f = sym (rw (front xs i h) at f) ∙ rest_other d (get_or xs i 0) (drop (i + 1) xs) is e

-- ---- the number so far, capped

grows : (n : ℕ) (cs : List ℕ) → n ≤ digits_value_after 10 n cs
grows n [] = omega arith
grows n (c ∷ cs) = omega (arith, grows (n * 10 + digit_value c) cs)

pub capped : (cap n : ℕ) (cs : List ℕ) → min cap (digits_value_after 10 (min cap n) cs) ≡ min cap (digits_value_after 10 n cs)
capped cap n cs =
    elim (cases_lt n cap) [
      | inl h ↦ let e : min cap n ≡ n = omega arith in rw e refl
      | inr h ↦ let e : min cap n ≡ cap = omega arith in rw e (omega (arith, grows cap cs, grows n cs))
    ]

pub in_digit : (c : ℕ) (cs : List ℕ) → is_ascii_digit c ≡ true → digits_in (c ∷ cs) ≡ c ∷ digits_in cs
in_digit c cs h = rw h refl

after_digit : (n c : ℕ) (cs : List ℕ) → is_ascii_digit c ≡ true → digits_value_after 10 n (c ∷ cs) ≡ digits_value_after 10 (10 * n + (c - 48)) cs
after_digit n c cs h = ap (λ z. digits_value_after 10 z cs) (omega (arith, value_of_digit c h))

digit_ahead : (n c : ℕ) (cs : List ℕ) → is_ascii_digit c ≡ true → digits_value_after 10 n (digits_in (c ∷ cs)) ≡ digits_value_after 10 (10 * n + (c - 48)) (digits_in cs)
digit_ahead n c cs h = ap (digits_value_after 10 n) (in_digit c cs h) ∙ after_digit n c (digits_in cs) h

pub value_digit : (xs : List ℕ) (i cap n m v : ℕ) → i < length xs → is_ascii_digit (get_or xs i 0) ≡ true → m ≡ min cap (10 * n + (get_or xs i 0 - 48)) → min cap (digits_value_after 10 n (digits_in (drop i xs))) ≡ v → min cap (digits_value_after 10 m (digits_in (drop (i + 1) xs))) ≡ v
value_digit xs i cap n m v h is e f =
    let step : digits_value_after 10 n (digits_in (drop i xs)) ≡ digits_value_after 10 (10 * n + (get_or xs i 0 - 48)) (digits_in (drop (i + 1) xs)) =
    ap (λ l. digits_value_after 10 n (digits_in l)) (front xs i h) ∙ digit_ahead n (get_or xs i 0) (drop (i + 1) xs) is in
    rw (e, capped cap (10 * n + (get_or xs i 0 - 48)) (digits_in (drop (i + 1) xs))) (sym (ap (λ z. min cap z) step) ∙ f)

pub value_bar : (xs : List ℕ) (i cap n v : ℕ) → i < length xs → get_or xs i 0 ≡ 95 → min cap (digits_value_after 10 n (digits_in (drop i xs))) ≡ v → min cap (digits_value_after 10 n (digits_in (drop (i + 1) xs))) ≡ v
value_bar xs i cap n v h is f = rw is at (rw (front xs i h) at f)

-- ---- a 0 in front

-- more digits follow
leading_digit : (c : ℕ) (cs : List ℕ) → is_ascii_digit c ≡ true → has_no_leading_zero (digits_in (48 ∷ c ∷ cs)) ≡ false
leading_digit c cs h = rw (ap (λ l. has_no_leading_zero (48 ∷ l)) (in_digit c cs h)) refl

leading_bar : (cs : List ℕ) → are_digits cs ≡ true → has_no_leading_zero (digits_in (48 ∷ 95 ∷ cs)) ≡ false
leading_bar [] h = absurd (cc)
leading_bar (c ∷ cs) h = leading_digit c cs (and_parts (is_ascii_digit c) (may_follow_digit cs) h).0

or_cases : (a b : Bool) → (a || b) ≡ true → (a ≡ true) ⊎ (b ≡ true)
or_cases true b h = inl refl
or_cases false b h = inr h

leading : (c : ℕ) (cs : List ℕ) → are_digits (48 ∷ c ∷ cs) ≡ true → has_no_leading_zero (digits_in (48 ∷ c ∷ cs)) ≡ false
leading c cs h =
    elim (or_cases (is_ascii_digit c && may_follow_digit cs) ((c == 95) && are_digits cs) h) [
      | inl p ↦ leading_digit c cs (and_parts (is_ascii_digit c) (may_follow_digit cs) p).0
      | inr p ↦ let q = and_parts (c == 95) (are_digits cs) p in rw (eqb-true c 95 q.0) (leading_bar cs q.1)
    ]

and_false : (a b : Bool) → (a ≡ true → b ≡ false) → (a && b) ≡ false
and_false true b h = h refl
and_false false b h = refl

pub zero_in_front : (xs : List ℕ) → 1 < length xs → get_or xs 0 0 ≡ 48 → is_whole xs ≡ false
zero_in_front [] h e = absurd (omega arith)
zero_in_front (x ∷ []) h e = absurd (omega arith)
zero_in_front (x ∷ c ∷ cs) h e = rw e (and_false (are_digits (48 ∷ c ∷ cs)) (has_no_leading_zero (digits_in (48 ∷ c ∷ cs))) (leading c cs))
