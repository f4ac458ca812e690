-- What stands alone between brackets.
use Rattle.std.proofs.Common.{◌≡◌, List, [], ◌∷◌, length, Bool, true, false, None, refl}
use Rattle.std.specs.Prelude.{map}
use Rattle.fisca_ast.specs.Tree.{Argument}
use Rattle.fisca_ast.specs.Views.{argument_view, series_of}
use Rattle.fisca_ast.specs.declared.tree.Argument.{Argument as Given}
use Rattle.fisca_ast.specs.Steps.Groups.{alone}

with_comma : (xs : List Argument) → None ≡ alone (series_of true xs)
with_comma [] = refl
with_comma (a ∷ []) = refl
with_comma (a ∷ c ∷ xs) = refl

-- nothing does before a comma
pub alone_comma : (m : Bool) (xs : List Argument) → m ≡ true → None ≡ alone (series_of m xs)
alone_comma true xs e = with_comma xs
alone_comma false xs e = cc

-- nor where there are none or more
pub alone_many : (m : Bool) (xs : List Given) → (length xs ≡ 1 → ⊥) → None ≡ alone (series_of m (map argument_view xs))
alone_many m [] h = refl
alone_many m (a ∷ []) h = absurd (h refl)
alone_many m (a ∷ c ∷ xs) h = refl
