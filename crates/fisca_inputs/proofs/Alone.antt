-- Where no entity has two members, and inputs are of first members alone, no default stands beside an input.
use Rattle.std.proofs.Common.{◌≡◌, ◌<◌, ltb-true, ℕ, zero, suc, List, [], ◌∷◌, ◌++◌, Bool, true, false, Option, Some, None, refl, sym, ap, ◌∙◌, arith, if◌then◌else◌, slice_get}
use Rattle.std.specs.Prelude.{◌==◌, nat_lt, Ok}
use Rattle.std.specs.List.{AllByRecursion, list_all, list_any}
use Rattle.std.proofs.lemmas.Bool.{and_parts, eqb-true}
use Rattle.fisca_num.specs.Results.{and_then}
use Rattle.fisca_time.specs.Period.{Span}
use Rattle.fisca_inputs.specs.Defaults.{and_row, beside, beside_by, row_key, row_with, rows_with, rows_of, with_defaults}
use Rattle.fisca_inputs.specs.Steps.Defaults.{count_of, first_line, row_of}
use Rattle.fisca_inputs.specs.Entries.{Entries, key, same_key}
use Rattle.fisca_inputs.specs.Steps.Entries.{has, put, put_all}
use Rattle.fisca_inputs.specs.Rules.{Rule}
use Rattle.fisca_inputs.specs.declared.given.Given.{Given}
use Rattle.fisca_model.specs.declared.value.Value.{Value}
use Rattle.fisca_model.specs.declared.key.Key.{Key}
use Rattle.fisca_inputs.proofs.First.{all_in}

small : (cs : List ℕ) (i : ℕ) → list_all (λ c. nat_lt c 2) cs ≡ true → nat_lt (count_of cs i) 2 ≡ true
small [] i h = refl
small (c ∷ cs) zero h = (and_parts (nat_lt c 2) (list_all (λ d. nat_lt d 2) cs) h).0
small (c ∷ cs) (suc i) h = small cs i (and_parts (nat_lt c 2) (list_all (λ d. nat_lt d 2) cs) h).1

module _ (es : Entries) where
  -- the first member has a value for the variable and period of each of these keys
  abbrev Have : List Key → Type 0
  Have ks = AllByRecursion (λ k. has es (row_key k) ≡ true) ks

  -- Rows

  behind : (ks : List Key) (k : Key) → Have ks → has es (row_key k) ≡ true → Have (ks ++ k ∷ [])
  behind [] k all h = (h, tt)
  behind (j ∷ ks) k all h = (all.0, behind ks k all.1 h)

  with_row : (ks : List Key) (k : Key) → Have ks → has es (row_key k) ≡ true → Have (and_row ks k)
  with_row ks k all h = by (list_any (same_key k) ks)
    where
      by : (b : Bool) → Have (if b then ks else ks ++ k ∷ [])
      by true = all
      by false = behind ks k all h

  first_of : (k : Key) → (k.member == 0) ≡ true → has es k ≡ true → has es (row_key k) ≡ true
  first_of k none h = ap (λ m. has es (key k.variable m k.period)) (sym (eqb-true k.member 0 none)) ∙ h

  rows_have : (fs : Entries) (ks : List Key) → list_all (λ e. e.0.member == 0) fs ≡ true → AllByRecursion (λ e. has es e.0 ≡ true) fs → Have ks → Have (rows_with ks fs)
  rows_have [] ks first own all = all
  rows_have (e ∷ fs) ks first own all =
      let both = and_parts (e.0.member == 0) (list_all (λ f. f.0.member == 0) fs) first in
      rows_have fs (and_row ks (row_key e.0)) both.1 own.1 (with_row ks (row_key e.0) all (first_of e.0 both.0 own.0))

  -- Defaults

  row_stays : (line x : ℕ) (v : Value) (p : Span) (n : ℕ) → nat_lt n 2 ≡ true → has es (key x 0 p) ≡ true → put_all line v (row_of x n p) es ≡ Ok es
  row_stays line x v p zero lt h = refl
  row_stays line x v p (suc zero) lt h = ap (λ b. and_then (if b then Ok es else put line (key x 0 p) v es) (put_all line v [])) h
  row_stays line x v p (suc (suc n)) lt h = let no : suc (suc n) < 2 = ltb-true (suc (suc n)) 2 lt in absurd (omega (arith, no))

  module _ (rules : List Rule) (counts : List ℕ) (gs : List Given) (alone : list_all (λ c. nat_lt c 2) counts ≡ true) where
    beside_stays : (k : Key) → has es (row_key k) ≡ true → beside rules counts gs k es ≡ Ok es
    beside_stays k h = by (slice_get rules k.variable)
      where
        valued : (r : Rule) (o : Option Value) → row_with (first_line gs k.variable) o (row_of k.variable (count_of counts r.entity) k.period) es ≡ Ok es
        valued r None = refl
        valued r (Some v) = row_stays (first_line gs k.variable) k.variable v k.period (count_of counts r.entity) (small counts r.entity alone) h

        by : (o : Option Rule) → beside_by o counts gs k es ≡ Ok es
        by None = refl
        by (Some r) = valued r r.default

    all_stay : (ks : List Key) → Have ks → with_defaults rules counts gs ks es ≡ Ok es
    all_stay [] all = refl
    all_stay (k ∷ ks) all = ap (λ r. and_then r (with_defaults rules counts gs ks)) (beside_stays k all.0) ∙ all_stay ks all.1

    pub none_beside : list_all (λ e. e.0.member == 0) es ≡ true → with_defaults rules counts gs (rows_of es) es ≡ Ok es
    none_beside first = all_stay (rows_of es) (rows_have es [] first (all_in es es (λ q h. h)) tt)
