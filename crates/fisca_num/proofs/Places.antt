-- Places read one at a time.
use Rattle.std.proofs.Common.{◌≡◌, ℕ, ◌+◌, ◌*◌, ◌-◌, ◌^◌, ◌<◌, ◌≤◌, min, Bool, true, false, ◌&&◌, List, [], ◌∷◌, ◌++◌, length, drop, take, get_or, arith, refl, ap, sym, ◌∙◌, length-append, lit<}
use Rattle.std.specs.Char.{is_ascii_digit}
use Rattle.std.specs.List.{list_all}
use Rattle.std.specs.Str.Parse.{digits_value}
use Rattle.std.proofs.lemmas.Int.Digits.{digits_value_push}
use Rattle.std.proofs.lemmas.List.{take_more, take-append-le, take_all, drop_all, drop-append-le, append-nil}
use Rattle.std.proofs.lemmas.List.Elements.{filter-append}
use Rattle.std.proofs.lemmas.Bool.{eq-eqb, ne_eqb}
use Rattle.std.proofs.lemmas.Bool.Decides.{nat_tests}
use Rattle.std.proofs.lemmas.List.Folds.{list_all-append}
use Rattle.std.proofs.Math.Nat.{pow-le-pow_right}
use Rattle.std.proofs.lemmas.Nat.{pow-add}
use Rattle.fisca_num.specs.Literal.{digits_in, is_zero_digit, are_few, IsRead}
use Rattle.fisca_num.proofs.Reading.{value_of_digit, in_digit}

pub read_none : IsRead [] 0 0 true
read_none = record { number_is = refl; count_is = refl; few_is = refl; small = lit< tt }

pub digit_small : (c : ℕ) → is_ascii_digit c ≡ true → c - 48 < 10
digit_small c h = grind (arith, nat_tests)

few_below : (ds : List ℕ) → length ds ≤ 18 → are_few ds ≡ true
few_below ds h = ap (list_all is_zero_digit) (drop_all 18 ds h)

-- one of the first 18
pub read_more : (ds : List ℕ) (c number count : ℕ) (few : Bool) → is_ascii_digit c ≡ true → count < 18 → IsRead ds number count few → IsRead (ds ++ (c ∷ [])) (10 * number + (c - 48)) (count + 1) few
read_more ds c number count few is h x =
    let size : length (ds ++ (c ∷ [])) ≡ length ds + 1 = length-append ds (c ∷ []) in
    let counted : count ≡ min 18 (length ds) = x.count_is in
    let old : number ≡ digits_value 10 ds = x.number_is ∙ ap (digits_value 10) (take_all 18 ds (omega arith)) in
    let new : digits_value 10 (take 18 (ds ++ (c ∷ []))) ≡ digits_value 10 (ds ++ (c ∷ [])) = ap (digits_value 10) (take_all 18 (ds ++ (c ∷ [])) (omega arith)) in
    let small : number < 10 ^ count = x.small in
    record {
      number_is = omega (arith, old, new, digits_value_push 10 ds c, value_of_digit c is);
      count_is = omega arith;
      few_is = x.few_is ∙ few_below ds (omega arith) ∙ sym (few_below (ds ++ (c ∷ [])) (omega arith));
      small = omega (arith, digit_small c is, pow-add 10 count 1);
    }

both_true : (a b : Bool) → (a && (b && true)) ≡ (a && b)
both_true true true = refl
both_true true false = refl
both_true false b = refl

few_push : (ds : List ℕ) (c : ℕ) → 18 ≤ length ds → are_few (ds ++ (c ∷ [])) ≡ (are_few ds && is_zero_digit c)
few_push ds c h = ap (list_all is_zero_digit) (drop-append-le 18 ds (c ∷ []) h) ∙ list_all-append is_zero_digit (drop 18 ds) (c ∷ []) ∙ both_true (are_few ds) (is_zero_digit c)

-- a later one
read_past : (ds : List ℕ) (c number count : ℕ) (few after : Bool) → 18 ≤ count → after ≡ (few && is_zero_digit c) → IsRead ds number count few → IsRead (ds ++ (c ∷ [])) number count after
read_past ds c number count few after h e x =
    let counted : count ≡ min 18 (length ds) = x.count_is in
    record {
      number_is = x.number_is ∙ ap (digits_value 10) (sym (take-append-le 18 ds (c ∷ []) (omega arith)));
      count_is = omega (arith, length-append ds (c ∷ []));
      few_is = e ∙ ap (λ b. b && is_zero_digit c) x.few_is ∙ sym (few_push ds c (omega arith));
      small = x.small;
    }

and_right_true : (a : Bool) → a ≡ (a && true)
and_right_true true = refl
and_right_true false = refl

and_right_false : (a : Bool) → false ≡ (a && false)
and_right_false true = refl
and_right_false false = refl

pub read_past_zero : (ds : List ℕ) (c number count : ℕ) (few : Bool) → 18 ≤ count → c ≡ 48 → IsRead ds number count few → IsRead (ds ++ (c ∷ [])) number count few
read_past_zero ds c number count few h e x = read_past ds c number count few few h (rw (eq-eqb c 48 e) (and_right_true few)) x

pub read_past_other : (ds : List ℕ) (c number count : ℕ) (few : Bool) → 18 ≤ count → (c ≡ 48 → ⊥) → IsRead ds number count few → IsRead (ds ++ (c ∷ [])) number count false
read_past_other ds c number count few h e x = read_past ds c number count few false h (rw (ne_eqb c 48 e) (and_right_false few)) x

-- the next byte
pub next_read : (xs : List ℕ) (i : ℕ) → i < length xs → is_ascii_digit (get_or xs i 0) ≡ true → digits_in (take (i + 1) xs) ≡ digits_in (take i xs) ++ (get_or xs i 0 ∷ [])
next_read xs i h is = ap digits_in (take_more xs i 0 h) ∙ filter-append is_ascii_digit (take i xs) (get_or xs i 0 ∷ []) ∙ ap (λ l. digits_in (take i xs) ++ l) (in_digit (get_or xs i 0) [] is)

pub next_skipped : (xs : List ℕ) (i : ℕ) → i < length xs → get_or xs i 0 ≡ 95 → digits_in (take (i + 1) xs) ≡ digits_in (take i xs)
next_skipped xs i h is = ap digits_in (take_more xs i 0 h) ∙ filter-append is_ascii_digit (take i xs) (get_or xs i 0 ∷ []) ∙ ap (λ c. digits_in (take i xs) ++ digits_in (c ∷ [])) is ∙ append-nil (digits_in (take i xs))

-- ---- the number of a literal

pub room_below : (number count : ℕ) → number < 10 ^ count → count < 18 → number < 10 ^ 17
room_below number count small few =
    let ten : 10 ^ count ≤ 10 ^ 17 = pow-le-pow_right (lit< tt) {i = count} {j = 17} (omega arith) in
    omega arith
