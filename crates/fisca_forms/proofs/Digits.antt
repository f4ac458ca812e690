-- The places of a number, digit by digit.
use Rattle.std.proofs.Common.{◌≡◌, ℕ, suc, ◌+◌, ◌-◌, ◌/◌, ◌%◌, ◌^◌, ◌<◌, List, [], ◌∷◌, ◌++◌, sym, ap, ◌∙◌, arith, append_assoc}
use Rattle.fisca_forms.specs.Fixed.{places_of}
use Rattle.std.proofs.lemmas.List.{append-nil}
use Rattle.fisca_num.specs.Characters.{point, zero_digit}
use Rattle.fisca_num.specs.Numeral.{pointed}

first_digit : (rest left before : ℕ) → left ≡ suc before → places_of left rest ≡ (zero_digit + rest / 10 ^ before % 10) ∷ places_of before rest
first_digit rest left before is = ap (λ n. places_of n rest) is

-- one more digit is written
pub next_digit : (rest left : ℕ) (old new all : List ℕ) → 0 < left → new ≡ old ++ (zero_digit + rest / 10 ^ (left - 1) % 10) ∷ []
    → old ++ places_of left rest ≡ all → new ++ places_of (left - 1) rest ≡ all
next_digit rest left old new all some digit so_far =
    let first = first_digit rest left (left - 1) (omega (arith, some)) in
    ap (λ xs. xs ++ places_of (left - 1) rest) digit
    ∙ (append_assoc old ((zero_digit + rest / 10 ^ (left - 1) % 10) ∷ []) (places_of (left - 1) rest)
    ∙ (ap (λ xs. old ++ xs) (sym first) ∙ so_far))

-- no digit is left
pub no_digit : (rest left : ℕ) (old all : List ℕ) → left ≡ 0 → old ++ places_of left rest ≡ all → old ≡ all
no_digit rest left old all none so_far = sym (append-nil old) ∙ (ap (λ n. old ++ places_of n rest) (sym none) ∙ so_far)

-- digits stand behind a point
pub point_first : (rest places : ℕ) → 0 < places → point ∷ places_of places rest ≡ pointed (places_of places rest)
point_first rest places some =
    let first = first_digit rest places (places - 1) (omega (arith, some)) in
    ap (λ xs. point ∷ xs) first ∙ ap pointed (sym first)
