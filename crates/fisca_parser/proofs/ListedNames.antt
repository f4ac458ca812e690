-- Names between brackets.
use Rattle.std.proofs.Common.{◌≡◌, List, [], ◌∷◌, Bool, true, false, refl, ap, ◌∙◌}
use Rattle.std.specs.Prelude.{map, ◌&&◌}
use Rattle.std.specs.List.{list_all}
use Rattle.fisca_ast.specs.Tree.{Argument}
use Rattle.fisca_ast.specs.Views.{argument_view, series_view, series_of}
use Rattle.fisca_ast.specs.declared.tree.Arguments.{Arguments}
use Rattle.fisca_ast.specs.declared.tree.Argument.{Argument as Given}
use Rattle.fisca_parser.specs.Steps.Forms.{is_any_name, are_names}

and_true : (b : Bool) → (b && true) ≡ b
and_true true = refl
and_true false = refl

one_name : (comma : Bool) (a : Argument) → (is_any_name a && true) ≡ are_names (series_of comma (a ∷ []))
one_name true a = refl
one_name false a = and_true (is_any_name a)

names_in : (comma : Bool) (xs : List Given) → list_all (λ a. is_any_name (argument_view a)) xs ≡ are_names (series_of comma (map argument_view xs))
names_in comma [] = refl
names_in comma (a ∷ []) = one_name comma (argument_view a)
names_in comma (a ∷ b ∷ xs) = ap (λ t. is_any_name (argument_view a) && t) (names_in comma (b ∷ xs))

pub names_of : (a : Arguments) (comma : Bool) (xs : List Given) → series_of comma (map argument_view xs) ≡ series_view a → list_all (λ a. is_any_name (argument_view a)) xs ≡ are_names (series_view a)
names_of a comma xs e = names_in comma xs ∙ ap are_names e
