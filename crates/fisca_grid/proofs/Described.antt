-- The axes that words describe, word by word.
use Rattle.std.proofs.Common.{◌≡◌, ℕ, List, [], ◌∷◌, ◌++◌, Option, Some, None, option_map, option_and_then, refl, sym, ap, ◌∙◌, append_assoc}
use Rattle.fisca_grid.specs.NamedAxes.{specs_of}
use Rattle.fisca_grid.specs.Words.{axis_of}
use Rattle.fisca_grid.specs.declared.axes.AxisSpec.{AxisSpec}

-- these axes before those that words describe
abbrev pub behind : List AxisSpec → Option (List AxisSpec) → Option (List AxisSpec)
behind axes = option_map (λ more. axes ++ more)

with_front : (axes : List AxisSpec) (axis : AxisSpec) (o : Option (List AxisSpec)) → behind axes (option_map (λ specs. axis ∷ specs) o) ≡ behind (axes ++ axis ∷ []) o
with_front axes axis None = refl
with_front axes axis (Some specs) = ap Some (sym (append_assoc axes (axis ∷ []) specs))

-- a word that describes an axis
pub read_more : (axes : List AxisSpec) (word : List ℕ) (words : List (List ℕ)) (named : List ℕ × AxisSpec) → axis_of word ≡ Some named → behind axes (specs_of (word ∷ words)) ≡ behind (axes ++ named.1 ∷ []) (specs_of words)
read_more axes word words named e =
    ap (λ o. behind axes (option_and_then (λ named. option_map (λ specs. named.1 ∷ specs) (specs_of words)) o)) e ∙ with_front axes named.1 (specs_of words)

-- a word that describes none
pub read_none : (axes : List AxisSpec) (word : List ℕ) (words : List (List ℕ)) → axis_of word ≡ None → behind axes (specs_of (word ∷ words)) ≡ None
read_none axes word words e = ap (λ o. behind axes (option_and_then (λ named. option_map (λ specs. named.1 ∷ specs) (specs_of words)) o)) e
