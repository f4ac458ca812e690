-- Numbers alone in parentheses.
use Rattle.std.proofs.Common.{◌≡◌, List, [], ◌∷◌, length, Bool, true, false, None, refl}
use Rattle.std.specs.Prelude.{map}
use Rattle.fisca_ast.specs.Tree.{Argument}
use Rattle.fisca_ast.specs.Views.{argument_view, series_of}
use Rattle.fisca_ast.specs.declared.tree.Argument.{Argument as Given}
use Rattle.fisca_ast.specs.declared.tree.Delimiter.{Delimiter}
use Rattle.fisca_typing.specs.Periods.{unsigned_alone, whole_alone}

unsigned_with : (b : Delimiter) (xs : List Argument) → None ≡ unsigned_alone b (series_of true xs)
unsigned_with b [] = refl
unsigned_with b (a ∷ []) = refl
unsigned_with b (a ∷ c ∷ xs) = refl

pub unsigned_comma : (b : Delimiter) (m : Bool) (xs : List Argument) → m ≡ true → None ≡ unsigned_alone b (series_of m xs)
unsigned_comma b true xs e = unsigned_with b xs
unsigned_comma b false xs e = cc

pub unsigned_many : (b : Delimiter) (m : Bool) (xs : List Given) → (length xs ≡ 1 → ⊥) → None ≡ unsigned_alone b (series_of m (map argument_view xs))
unsigned_many b m [] h = refl
unsigned_many b m (a ∷ []) h = absurd (h refl)
unsigned_many b m (a ∷ c ∷ xs) h = refl

whole_with : (b : Delimiter) (xs : List Argument) → None ≡ whole_alone b (series_of true xs)
whole_with b [] = refl
whole_with b (a ∷ []) = refl
whole_with b (a ∷ c ∷ xs) = refl

pub whole_comma : (b : Delimiter) (m : Bool) (xs : List Argument) → m ≡ true → None ≡ whole_alone b (series_of m xs)
whole_comma b true xs e = whole_with b xs
whole_comma b false xs e = cc

pub whole_many : (b : Delimiter) (m : Bool) (xs : List Given) → (length xs ≡ 1 → ⊥) → None ≡ whole_alone b (series_of m (map argument_view xs))
whole_many b m [] h = refl
whole_many b m (a ∷ []) h = absurd (h refl)
whole_many b m (a ∷ c ∷ xs) h = refl
