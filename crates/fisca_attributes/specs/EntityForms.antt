-- Entities and their roles, as they are written.
use Rattle.std.specs.Prelude.{ℕ, List, [], ◌∷◌, Bool, true, false, not, Result, Ok, codes}
use Rattle.fisca_ast.specs.Steps.Groups.{bare}
use Rattle.fisca_ast.specs.declared.tree.Delimiter.{Delimiter}
use Rattle.fisca_ast.specs.declared.tree.Delimiter.TheVariants as bracket
use Rattle.fisca_ast.specs.Tree.{Tree, Series, Argument, bracketed}
use Rattle.fisca_ast.specs.declared.fault.FormulaKind.{FormulaKind}
use Rattle.fisca_attributes.specs.Values.{bad_attribute, items}

abbrev pub role_labels : List (List ℕ)
role_labels = codes "key" ∷ codes "plural" ∷ codes "label" ∷ codes "doc" ∷ codes "max" ∷ codes "subroles" ∷ []

abbrev pub in_curly : Delimiter → Series → Result (List Argument) FormulaKind
in_curly bracket.Round xs = bad_attribute
in_curly bracket.Square xs = bad_attribute
in_curly bracket.Curly xs = Ok (items xs)

abbrev pub map_in : Tree → Result (List Argument) FormulaKind
map_in (bracketed b xs) = in_curly b xs
map_in e = bad_attribute

-- `{..}`
abbrev pub mapped : Tree → Result (List Argument) FormulaKind
mapped e = map_in (bare e)

abbrev pub entity_labels : List (List ℕ)
entity_labels = codes "key" ∷ codes "plural" ∷ codes "label" ∷ codes "doc" ∷ codes "is_person" ∷ codes "roles" ∷ []

abbrev pub same : Bool → Bool → Bool
same true b = b
same false b = not b
