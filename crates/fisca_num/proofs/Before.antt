-- What stands before the first point.
use Rattle.std.proofs.Common.{◌≡◌, ℕ, ◌+◌, ◌<◌, ◌≤◌, ◌^◌, min, Bool, true, false, List, [], ◌∷◌, length, drop, get_or, arith, ap, sym, ◌∙◌, refl, inl, inr, ◌⊎◌, ◌≢◌, Option, None, Some, MatchOption}
use Rattle.std.specs.Char.{is_ascii_digit}
use Rattle.std.specs.List.{before_first, position_or_len}
use Rattle.std.proofs.lemmas.Bool.{cases_lt, true≢false}
use Rattle.std.proofs.lemmas.Bool.Decides.{nat_tests}
use Rattle.std.proofs.lemmas.List.{get_or-take, length-take-le, drop_all}
use Rattle.std.proofs.lemmas.List.Sums.{passes_at_first, position_or_len_is, prefix_len-le-length}
use Rattle.std.specs.Str.Parse.{digits_value, digits_value_after}
use Rattle.fisca_num.specs.declared.literals.Whole.{Whole}
use Rattle.fisca_num.specs.Literal.{is_point, are_digits, are_digits_or_none, digits_in, is_whole}
use Rattle.fisca_num.proofs.Reading.{is_rest, zero_in_front}

-- no point stands before the place i
abbrev pub IsWithoutPoint : List ℕ → ℕ → Type 0
IsWithoutPoint xs i = (k : ℕ) → k < i → is_point (get_or xs k 0) ≡ false

pub length_before : (xs : List ℕ) → length (before_first is_point xs) ≡ position_or_len is_point xs
length_before xs = length-take-le (position_or_len is_point xs) xs (prefix_len-le-length _ xs)

point_later : (xs : List ℕ) (i : ℕ) → i < length xs → IsWithoutPoint xs i → is_point (get_or xs i 0) ≡ false → i < position_or_len is_point xs
point_later xs i h none other =
    elim (cases_lt i (position_or_len is_point xs)) [
      | inl p ↦ p
      | inr p ↦
          let at : is_point (get_or xs (position_or_len is_point xs) 0) ≡ true = passes_at_first is_point xs 0 (omega arith) in
          elim (cases_lt (position_or_len is_point xs) i) [
            | inl q ↦ absurd (true≢false (sym at ∙ none _ q))
            | inr q ↦ let e : position_or_len is_point xs ≡ i = omega arith in absurd (true≢false (sym at ∙ ap (λ k. is_point (get_or xs k 0)) e ∙ other))
          ]
    ]

-- the byte at i stands before the first point
pub record IsBefore (xs : List ℕ) (i : ℕ) : Type 0 where
  pub within : i < length (before_first is_point xs)
  pub same : get_or (before_first is_point xs) i 0 ≡ get_or xs i 0

pub next_before : (xs : List ℕ) (i : ℕ) → i < length xs → IsWithoutPoint xs i → is_point (get_or xs i 0) ≡ false → IsBefore xs i
next_before xs i h none other =
    let later : i < position_or_len is_point xs = point_later xs i h none other in
    record { within = rw (length_before xs) later; same = get_or-take (position_or_len is_point xs) xs i 0 later }

pub more_without : (xs : List ℕ) (i : ℕ) → IsWithoutPoint xs i → is_point (get_or xs i 0) ≡ false → IsWithoutPoint xs (i + 1)
more_without xs i none other k h =
    elim (cases_lt k i) [
      | inl p ↦ none k p
      | inr p ↦ let e : k ≡ i = omega arith in ap (λ j. is_point (get_or xs j 0)) e ∙ other
    ]

pub not_point : (c : ℕ) → is_ascii_digit c ≡ true → is_point c ≡ false
not_point c h = grind (arith, nat_tests)

pub bar_no_point : (c : ℕ) → c ≡ 95 → is_point c ≡ false
bar_no_point c h = rw h refl

-- digits that are some
pub some_digits : (cs : List ℕ) → 0 < length cs → are_digits_or_none cs ≡ are_digits cs
some_digits [] h = absurd (omega arith)
some_digits (c ∷ cs) h = refl

pub no_digits : (cs : List ℕ) → length cs ≡ 0 → are_digits_or_none cs ≡ true
no_digits [] h = refl
no_digits (c ∷ cs) h = absurd (omega arith)

all_digits : (cs : List ℕ) → are_digits cs ≡ true → are_digits_or_none cs ≡ true
all_digits [] h = absurd (true≢false (sym h))
all_digits (c ∷ cs) h = h

-- ---- what is known where the digits end

pub record IsEnded (xs : List ℕ) (end number : ℕ) (digit : Bool) : Type 0 where
  pub place : position_or_len is_point xs ≡ end
  pub form : is_rest digit [] ≡ are_digits (before_first is_point xs)
  pub value : number ≡ min (10 ^ 19) (digits_value 10 (digits_in (before_first is_point xs)))

pub ended : (xs : List ℕ) (end number : ℕ) (digit : Bool) → end ≤ length xs → IsWithoutPoint xs end → (end < length xs → is_point (get_or xs end 0) ≡ true) → number ≤ 10 ^ 19 → is_rest digit (drop end (before_first is_point xs)) ≡ are_digits (before_first is_point xs) → min (10 ^ 19) (digits_value_after 10 number (digits_in (drop end (before_first is_point xs)))) ≡ min (10 ^ 19) (digits_value 10 (digits_in (before_first is_point xs))) → IsEnded xs end number digit
ended xs end number digit le none point small form value =
    let place : position_or_len is_point xs ≡ end = position_or_len_is is_point xs end 0 le none point in
    let left : drop end (before_first is_point xs) ≡ [] = drop_all end (before_first is_point xs) (omega (arith, length_before xs)) in
    record {
      place = place;
      form = rw left at form;
      value = let e : min (10 ^ 19) number ≡ number = omega arith in sym e ∙ (rw left at value);
    }

ended_well : (xs : List ℕ) (end number : ℕ) (digit : Bool) → IsEnded xs end number digit → (digit ≡ true) ⊎ (end ≡ 0) → are_digits_or_none (before_first is_point xs) ≡ true
ended_well xs end number digit x (inl e) = all_digits (before_first is_point xs) (sym x.form ∙ ap (λ d. is_rest d []) e)
ended_well xs end number digit x (inr e) = no_digits (before_first is_point xs) (length_before xs ∙ x.place ∙ e)

ended_badly : (xs : List ℕ) (end number : ℕ) (digit : Bool) → IsEnded xs end number digit → digit ≡ false → (end ≢ 0) → are_digits_or_none (before_first is_point xs) ≡ false
ended_badly xs end number digit x e some = some_digits (before_first is_point xs) (omega (arith, length_before xs, x.place, some)) ∙ sym x.form ∙ ap (λ d. is_rest d []) e

-- the digits may end after a digit, or before any
pub whole_ended : (xs : List ℕ) (end number : ℕ) (digit : Bool) → IsEnded xs end number digit → (r : Option Whole) → MatchOption r ((digit ≡ false) × (end ≢ 0)) (λ w. ((digit ≡ true) ⊎ (end ≡ 0)) × (w.number ≡ number) × (w.end ≡ end)) →
    MatchOption r (are_digits_or_none (before_first is_point xs) ≡ false)
    (λ w. (are_digits_or_none (before_first is_point xs) ≡ true) × (w.end ≡ position_or_len is_point xs) × (w.number ≡ min (10 ^ 19) (digits_value 10 (digits_in (before_first is_point xs)))))
whole_ended xs end number digit x None h = ended_badly xs end number digit x h.0 h.1
whole_ended xs end number digit x (Some w) h = (ended_well xs end number digit x h.0, h.2 ∙ sym x.place, h.1 ∙ x.value)

-- ---- a 0 in front of other digits

first_before : (xs : List ℕ) (end : ℕ) → end ≡ position_or_len is_point xs → 0 < end → get_or (before_first is_point xs) 0 0 ≡ get_or xs 0 0
first_before xs end e some = get_or-take (position_or_len is_point xs) xs 0 0 (omega arith)

pub leading_zero : (xs : List ℕ) (end : ℕ) → end ≡ position_or_len is_point xs → 1 < end → get_or xs 0 0 ≡ 48 → is_whole (before_first is_point xs) ≡ false
leading_zero xs end e some zero = zero_in_front (before_first is_point xs) (omega (arith, length_before xs)) (first_before xs end e (omega arith) ∙ zero)

pub not_whole : (cs : List ℕ) → are_digits_or_none cs ≡ false → is_whole cs ≡ false
not_whole cs h = rw h refl
