-- Forms of values. Parentheses around any part of one group and do nothing else.
use Rattle.std.specs.Prelude.{ℕ, List, Bool, true, false, ◌||◌, ◌&&◌, if◌then◌else◌, Option, Some, None, codes}
use Rattle.std.specs.Str.{bytes_eq}
use Rattle.fisca_ast.specs.declared.tree.Delimiter.{Delimiter}
use Rattle.fisca_ast.specs.declared.tree.Delimiter.TheVariants as bracket
use Rattle.fisca_ast.specs.declared.tree.Suffix.{Suffix}
use Rattle.fisca_ast.specs.declared.tree.Suffix.TheVariants as suffix
use Rattle.fisca_ast.specs.Steps.Groups.{bare}
use Rattle.fisca_ast.specs.Steps.Words.{is_name}
use Rattle.fisca_ast.specs.Tree.{Tree, Series, Argument, name, bracketed, attribute, applied, nothing, last, next, positional, keyword, entry}
use Rattle.fisca_ast.specs.Modules.{Assigned, Statement, entity, entities}

abbrev pub is_named : List ℕ → Tree → Bool
is_named word (name t) = bytes_eq t word
is_named word e = false

-- this name and nothing else
abbrev pub is_the_name : List ℕ → Tree → Bool
is_the_name word e = is_named word (bare e)

abbrev pub is_call : Suffix → Bool
is_call suffix.Call = true
is_call suffix.Subscript = false

abbrev pub builds_entity : Tree → Bool
builds_entity (applied s f xs) = is_call s && is_the_name (codes "build_entity") f
builds_entity e = false

-- `build_entity(..)`
abbrev pub is_entity : Tree → Bool
is_entity e = builds_entity (bare e)

abbrev pub is_square : Delimiter → Bool
is_square bracket.Round = false
is_square bracket.Square = true
is_square bracket.Curly = false

abbrev pub is_a_name : Tree → Bool
is_a_name (name t) = is_name t
is_a_name e = false

abbrev pub is_any_name : Argument → Bool
is_any_name (positional e) = is_a_name (bare e)
is_any_name (keyword k e) = false
is_any_name (entry k e) = false

abbrev pub are_names : Series → Bool
are_names nothing = true
are_names (last a) = is_any_name a
are_names (next a xs) = is_any_name a && are_names xs

abbrev pub lists_names : Tree → Bool
lists_names (bracketed b xs) = is_square b && are_names xs
lists_names e = false

-- `[NAME, ..]`
abbrev pub is_list_of_names : Tree → Bool
is_list_of_names e = lists_names (bare e)

-- What a module declares by a name and a value; any other is left out.
unfoldable pub declared : Assigned → Option Statement
declared a =
    if is_entity a.value then Some (entity a)
    else (if bytes_eq a.name (codes "entities") && is_list_of_names a.value then Some (entities a) else None)

abbrev pub is_week : List ℕ → Bool
is_week t = bytes_eq t (codes "WEEK") || bytes_eq t (codes "WEEKDAY")

abbrev pub names_week : Tree → Bool
names_week (name t) = is_week t
names_week (attribute e t) = is_the_name (codes "DateUnit") e && is_week t
names_week e = false

-- `WEEK` or `WEEKDAY`, perhaps after `DateUnit.`
abbrev pub is_week_unit : Tree → Bool
is_week_unit e = names_week (bare e)

unfoldable pub is_week_attribute : Assigned → Bool
is_week_attribute a = bytes_eq a.name (codes "definition_period") && is_week_unit a.value
