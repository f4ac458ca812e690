-- A numeral is read back.
use Rattle.std.proofs.Common.{◌≡◌, ℕ, zero, suc, ◌+◌, ◌*◌, ◌<◌, ◌≤◌, ◌^◌, ℤ, pos, negsuc, ◌*ℤ◌, unsigned_abs, Bool, true, false, ◌||◌, ◌==◌, List, [], ◌∷◌, ◌++◌, length, take, drop, get_or, arith, ap, sym, ◌∙◌, refl, Ok, length-append, inl, lit<}
use Rattle.std.specs.Char.{is_ascii_digit, digit_value}
use Rattle.std.specs.Fmt.{decimal}
use Rattle.std.specs.Int.{IsInRange}
use Rattle.std.specs.List.{list_all, before_first, after_first, position_or_len}
use Rattle.std.specs.Str.Parse.{AllDigits, digits_value}
use Rattle.std.proofs.lemmas.Bool.{ne_eqb}
use Rattle.std.proofs.lemmas.Bool.Decides.{nat_tests}
use Rattle.std.proofs.lemmas.Fmt.{decimal_is_IsNumeral, decimal_digit, first_decimal}
use Rattle.std.proofs.lemmas.List.{drop_all}
use Rattle.std.proofs.lemmas.List.Sums.{position_or_len_is}
use Rattle.std.proofs.lemmas.Str.Parse.{digit_from_value}
use Rattle.std.proofs.Math.Seq.{take-append_seam, drop-append-add}
use Rattle.fisca_num.specs.Rational.{signed}
use Rattle.fisca_num.specs.Number.{Number}
use Rattle.fisca_num.specs.Numeral.{sign_of, pointed, IsNumeralOf}
use Rattle.fisca_num.specs.Digits.{ten_pos}
use Rattle.fisca_num.specs.Operations.{number_of, only_number_of}
use Rattle.fisca_num.specs.Literal.{is_point, is_minus, is_negative, unsigned_part, may_follow_digit, are_digits_or_none, digits_in, has_no_leading_zero, is_whole, is_zero_digit, are_few, digits_ratio, number_of_parts, number_of_literal}
use Rattle.fisca_num.proofs.Alike.{signed_same}
use Rattle.fisca_num.proofs.Before.{not_point}
use Rattle.fisca_num.proofs.Forms.{AreParts, value-append, valued}
use Rattle.fisca_num.proofs.Written.{whole_below}

digit_test : (c : ℕ) → digit_value c < 10 → is_ascii_digit c ≡ true
digit_test c h = let r : IsInRange 48 57 c = digit_from_value c h in grind (arith, nat_tests)

not_sign : (c : ℕ) → is_ascii_digit c ≡ true → (is_minus c || (c == 43)) ≡ false
not_sign c h = grind (arith, nat_tests)

not_minus : (c : ℕ) → is_ascii_digit c ≡ true → is_minus c ≡ false
not_minus c h = grind (arith, nat_tests)

all_in : (ds : List ℕ) → AllDigits 10 ds → digits_in ds ≡ ds
all_in [] h = refl
all_in (d ∷ ds) h = rw (digit_test d h.0, all_in ds h.1) refl

all_follow : (ds : List ℕ) → AllDigits 10 ds → may_follow_digit ds ≡ true
all_follow [] h = refl
all_follow (d ∷ ds) h = rw (digit_test d h.0, all_follow ds h.1) refl

all_digits : (ds : List ℕ) → AllDigits 10 ds → are_digits_or_none ds ≡ true
all_digits [] h = refl
all_digits (d ∷ ds) h = rw (digit_test d h.0) (all_follow ds h.1)

no_points : (ds rest : List ℕ) → AllDigits 10 ds → (k : ℕ) → k < length ds → is_point (get_or (ds ++ rest) k 0) ≡ false
no_points [] rest h k below = absurd (omega arith)
no_points (d ∷ ds) rest h zero below = not_point d (digit_test d h.0)
no_points (d ∷ ds) rest h (suc k) below = no_points ds rest h.1 k (omega arith)

point_place : (ds ps : List ℕ) → AllDigits 10 ds → position_or_len is_point (ds ++ pointed ps) ≡ length ds
point_place ds [] h = position_or_len_is is_point (ds ++ []) (length ds) 0 (omega (arith, length-append ds [])) (no_points ds [] h) (λ k. absurd (omega (arith, length-append ds [])))
point_place ds (p ∷ ps) h = position_or_len_is is_point (ds ++ (46 ∷ p ∷ ps)) (length ds) 0 (omega (arith, length-append ds (46 ∷ p ∷ ps))) (no_points ds (46 ∷ p ∷ ps) h) (λ k. rw (at_seam ds (p ∷ ps)) refl)
  where
    at_seam : (ds ps : List ℕ) → get_or (ds ++ (46 ∷ ps)) (length ds) 0 ≡ 46
    at_seam [] ps = refl
    at_seam (d ∷ ds) ps = at_seam ds ps

before : (ds ps : List ℕ) → AllDigits 10 ds → before_first is_point (ds ++ pointed ps) ≡ ds
before ds ps h = ap (λ k. take k (ds ++ pointed ps)) (point_place ds ps h) ∙ take-append_seam ds (pointed ps)

after : (ds ps : List ℕ) → AllDigits 10 ds → after_first is_point (ds ++ pointed ps) ≡ ps
after ds ps h = ap (λ k. drop (k + 1) (ds ++ pointed ps)) (point_place ds ps h) ∙ drop-append-add ds (pointed ps) 1 ∙ behind ps
  where
    behind : (ps : List ℕ) → drop 1 (pointed ps) ≡ ps
    behind [] = refl
    behind (p ∷ ps) = refl

unsigned_is : (n : ℤ) (ds rest : List ℕ) → 0 < length ds → AllDigits 10 ds → unsigned_part (sign_of n ++ ds ++ rest) ≡ ds ++ rest
unsigned_is n [] rest some h = absurd (omega arith)
unsigned_is (pos n) (d ∷ ds) rest some h = rw (not_sign d (digit_test d h.0)) refl
unsigned_is (negsuc n) (d ∷ ds) rest some h = refl

abbrev is_below_zero : ℤ → Bool
is_below_zero (pos n) = false
is_below_zero (negsuc n) = true

negative_is : (n : ℤ) (ds rest : List ℕ) → 0 < length ds → AllDigits 10 ds → is_negative (sign_of n ++ ds ++ rest) ≡ is_below_zero n
negative_is n [] rest some h = absurd (omega arith)
negative_is (pos n) (d ∷ ds) rest some h = not_minus d (digit_test d h.0)
negative_is (negsuc n) (d ∷ ds) rest some h = refl

signed_is : (n : ℤ) → n ≡ signed (is_below_zero n) (unsigned_abs n)
signed_is (pos n) = refl
signed_is (negsuc n) = refl

high_first : (xs : List ℕ) → 48 < get_or xs 0 0 → has_no_leading_zero xs ≡ true
high_first [] h = refl
high_first (x ∷ []) h = refl
high_first (x ∷ y ∷ ys) h = rw (ne_eqb x 48 (λ e. omega arith)) refl

no_zero_first : (n : ℕ) → n < 2 ^ 64 → has_no_leading_zero (decimal n) ≡ true
no_zero_first zero h = ap has_no_leading_zero (decimal_digit 0 (lit< tt))
no_zero_first (suc n) h = high_first (decimal (suc n)) (first_decimal (suc n) (omega arith) h)

whole_is : (n : ℕ) → n < 2 ^ 64 → is_whole (decimal n) ≡ true
whole_is n h =
    let digits : AllDigits 10 (decimal n) = (decimal_is_IsNumeral n h).0.1 in
    rw (all_digits (decimal n) digits, all_in (decimal n) digits) (no_zero_first n h)

reads : (v : Number) (whole : ℕ) (ps : List ℕ) → whole < 2 ^ 64 → AllDigits 10 ps → length ps ≤ 18 → unsigned_abs v.numerator * 10 ^ length ps ≡ (whole * 10 ^ length ps + digits_value 10 ps) * v.denominator →
    number_of_parts (is_below_zero v.numerator) (decimal whole) ps ≡ Ok v
reads v whole ps small digits few value =
    let numeral = decimal_is_IsNumeral whole small in
    let parts : AreParts (decimal whole) ps = record { some = inl (λ e. let some : 0 < length (decimal whole) = numeral.0.0 in omega arith); whole = whole_is whole small; places = all_digits ps digits } in
    let are : are_few (digits_in ps) ≡ true = rw (all_in ps digits) (ap (list_all is_zero_digit) (drop_all 18 ps few)) in
    let ratio : number_of (digits_ratio (is_below_zero v.numerator) (digits_in (decimal whole)) (digits_in ps)) ≡ number_of (digits_ratio (is_below_zero v.numerator) (decimal whole) ps) = rw (all_in (decimal whole) numeral.0.1, all_in ps digits) refl in
    let number : digits_value 10 (decimal whole ++ ps) ≡ whole * 10 ^ length ps + digits_value 10 ps = value-append (decimal whole) ps ∙ ap (λ w. w * 10 ^ length ps + digits_value 10 ps) numeral.1 in
    let same : v.numerator *ℤ pos (10 ^ length ps) ≡ signed (is_below_zero v.numerator) (digits_value 10 (decimal whole ++ ps)) *ℤ pos v.denominator =
    ap (λ n. n *ℤ pos (10 ^ length ps)) (signed_is v.numerator) ∙ signed_same (is_below_zero v.numerator) _ _ _ _ (rw number value) in
    sym (valued (is_below_zero v.numerator) (decimal whole) ps parts are) ∙ ratio ∙ sym (only_number_of _ (Ok v) (record { some = ten_pos (length ps); same = same; lowest = v.lowest }))

pub read_back : (v : Number) (text : List ℕ) → (x : IsNumeralOf text v) → length x.places ≤ 18 → number_of_literal text ≡ Ok v
unfolding number_of_literal
read_back v text x few =
    let small : x.whole < 2 ^ 64 = whole_below v x.whole (10 ^ length x.places) (digits_value 10 x.places) (ten_pos (length x.places)) x.value in
    let numeral = decimal_is_IsNumeral x.whole small in
    rw (x.written, negative_is v.numerator (decimal x.whole) (pointed x.places) numeral.0.0 numeral.0.1, unsigned_is v.numerator (decimal x.whole) (pointed x.places) numeral.0.0 numeral.0.1, before (decimal x.whole) x.places numeral.0.1, after (decimal x.whole) x.places numeral.0.1)
    (reads v x.whole x.places small x.digits few x.value)
