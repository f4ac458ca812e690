-- What stands between brackets.
use Rattle.std.proofs.Common.{◌≡◌, List, [], ◌∷◌, Bool, true, false, refl}
use Rattle.fisca_ast.specs.Tree.{Argument}
use Rattle.fisca_ast.specs.Views.{series_of}
use Rattle.fisca_attributes.specs.Values.{items}

-- what stands between brackets is what the commas part
pub items_of_series : (m : Bool) (xs : List Argument) → items (series_of m xs) ≡ xs
items_of_series m [] = refl
items_of_series true (a ∷ []) = refl
items_of_series false (a ∷ []) = refl
items_of_series m (a ∷ c ∷ xs) = (λ i. a ∷ items_of_series m (c ∷ xs) i)
