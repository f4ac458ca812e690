-- Inputs and their values, one after another.
use Rattle.std.proofs.Common.{◌≡◌, ℕ, zero, suc, ◌<◌, ◌≤◌, List, [], ◌∷◌, length, drop, get_or, refl, ap, ◌∙◌, arith}
use Rattle.std.proofs.lemmas.List.{drop_all}
use Rattle.fisca_inputs.specs.declared.given.Given.{Given}
use Rattle.fisca_num.specs.Number.{Number}
use Rattle.fisca_symbols.specs.declared.tables.Tables.{Tables}
use Rattle.fisca_run_file.specs.Steps.Positions.{given_with, with_values}

module _ (c : Tables) where
  pub values_here : (gs : List Given) (ns : List Number) (i : ℕ) (g : Given) (n : Number) → i < length gs → i < length ns
      → with_values c (drop i gs) (drop i ns) ≡ given_with c (get_or gs i g) (get_or ns i n) ∷ with_values c (drop (suc i) gs) (drop (suc i) ns)
  values_here [] ns i g n left right = absurd (omega arith)
  values_here (h ∷ hs) [] i g n left right = absurd (omega arith)
  values_here (h ∷ hs) (m ∷ ms) zero g n left right = refl
  values_here (h ∷ hs) (m ∷ ms) (suc i) g n left right = values_here hs ms i g n (omega arith) (omega arith)

  none_valued : (gs : List Given) → with_values c gs [] ≡ []
  none_valued [] = refl
  none_valued (g ∷ gs) = refl

  -- there is no value left
  pub values_out : (gs : List Given) (ns : List Number) (i : ℕ) → length ns ≤ i → with_values c (drop i gs) (drop i ns) ≡ []
  values_out gs ns i past = ap (with_values c (drop i gs)) (drop_all i ns past) ∙ none_valued (drop i gs)
