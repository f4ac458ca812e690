-- What modules declare, beside the sentences of the language.
use Rattle.std.proofs.Common.{◌≡◌, ℕ, List, [], ◌∷◌, ◌++◌, map, refl}
use Rattle.std.specs.Prelude.{Option, Some, None, Result, Ok, Err, codes}
use Rattle.fisca_ast.specs.declared.tree.Delimiter.TheVariants as bracket
use Rattle.fisca_ast.specs.declared.tree.Suffix.TheVariants as suffix
use Rattle.fisca_ast.specs.Tree.{Tree, Series, Argument, name, number, text, bracketed, attribute as dotted, applied, nothing, last, next, positional, keyword, entry}
use Rattle.fisca_ast.specs.Steps.Words.{is_keyword}
use Rattle.fisca_num.specs.Literal.{number_of_literal}
use Rattle.fisca_ast.specs.Modules.{Item, attribute, formula, Statement, entity, entities, choices, variable}
use Rattle.fisca_ast.specs.declared.fault.FormulaKind.{FormulaKind}
use Rattle.fisca_ast.specs.declared.fault.FormulaKind.TheVariants as kind
use Rattle.fisca_ast.specs.Steps.Contents.{said_within}
use Rattle.fisca_rules.specs.declared.build_fault.BuildFault.{BuildFault}
use Rattle.fisca_rules.specs.Build.{Whole}
use Rattle.fisca_rules.specs.Steps.Build.{tables_of}
use Rattle.fisca_attributes.specs.Steps.Values.{truth_of}
use Rattle.fisca_attributes.specs.Steps.AttributeForms.{type_named, period_named, sharing_named}
use Rattle.fisca_declarations.specs.VariableForms.{passed_over}
use Rattle.fisca_declarations.specs.Steps.VariableForms.{attribute_fits, told_fits}

abbrev fault_in : Result Whole BuildFault → Option BuildFault
fault_in (Ok w) = None
fault_in (Err f) = Some f

-- the first fault of these modules
abbrev told : List (List Statement) → Option BuildFault
told ms = fault_in (tables_of ms)

abbrev at : ℕ → ℕ → FormulaKind → Option BuildFault
at place line k = Some (record { «module» = place; line = line; kind = k })

abbrev row : List Argument → Series
row [] = nothing
row (a ∷ []) = last a
row (a ∷ b ∷ more) = next a (row (b ∷ more))

abbrev quoted : List ℕ → Tree
quoted t = text (34 ∷ t ++ 34 ∷ [])

abbrev word : List ℕ → Tree
word t = name t

abbrev list : List Tree → Tree
list es = bracketed bracket.Square (row (map positional es))

abbrev grouped : Tree → Tree
grouped e = bracketed bracket.Round (last (positional e))

abbrev map_of : List Argument → Tree
map_of xs = bracketed bracket.Curly (row xs)

abbrev key_of : List ℕ → List ℕ → Argument
key_of k t = entry (quoted k) (quoted t)

-- `NAME = build_entity(..)`
abbrev built : ℕ → List ℕ → List Argument → Statement
built line n xs = entity (record { line = line; name = n; value = applied suffix.Call (word (codes "build_entity")) (row xs) })

abbrev person : ℕ → Statement
person line = built line (codes "Person") (keyword (codes "key") (quoted (codes "person")) ∷ keyword (codes "plural") (quoted (codes "persons")) ∷ keyword (codes "is_person") (word (codes "True")) ∷ [])

-- a group of these roles
abbrev group : ℕ → List ℕ → List ℕ → List ℕ → List Tree → Statement
group line n key plural roles =
    built line n (keyword (codes "key") (quoted key) ∷ keyword (codes "plural") (quoted plural) ∷ keyword (codes "roles") (list roles) ∷ [])

abbrev child : Tree
child = map_of (key_of (codes "key") (codes "child") ∷ key_of (codes "plural") (codes "children") ∷ [])

abbrev household : ℕ → Statement
household line = group line (codes "Household") (codes "household") (codes "households") (child ∷ [])

-- `NAME = VALUE` in a class
abbrev set : ℕ → List ℕ → Tree → Item
set line n e = attribute (record { line = line; name = n; value = e })

abbrev three : ℕ → List ℕ → List ℕ → List ℕ → List Item
three line type of_entity period =
    set line (codes "value_type") (word type) ∷ set line (codes "entity") (word of_entity) ∷ set line (codes "definition_period") (word period) ∷ []

-- a variable of persons
abbrev plain : ℕ → List ℕ → List Item → Statement
plain line n xs = variable line n (three line (codes "float") (codes "Person") (codes "MONTH") ++ xs)

abbrev starts : ℕ → ℕ → Item
starts line year = formula (record {
  line = line;
  start = record { year = year; month = 1; day = 1 };
  signature = record { entity = codes "person"; period = codes "period"; parameters = None };
  locals = [];
  returned = record { line = line; value = number (codes "1") };
})

abbrev first_person : Statement
first_person = person 1

-- just one entity is the persons: that none is, is told last, of the first line of the first module
none_at_all : told [] ≡ at 0 1 kind.BadAttribute
unfolding tables_of said_within truth_of type_named period_named sharing_named attribute_fits told_fits is_keyword number_of_literal
none_at_all = refl

no_person : told ((household 3 ∷ []) ∷ []) ≡ at 0 1 kind.BadAttribute
unfolding tables_of said_within truth_of type_named period_named sharing_named attribute_fits told_fits is_keyword number_of_literal
no_person = refl

no_person_is_told_last : told ((household 3 ∷ choices 7 (codes "E") [] ∷ []) ∷ []) ≡ at 0 7 kind.BadAttribute
unfolding tables_of said_within truth_of type_named period_named sharing_named attribute_fits told_fits is_keyword number_of_literal
no_person_is_told_last = refl

one_person : told ((first_person ∷ household 3 ∷ []) ∷ []) ≡ None
unfolding tables_of said_within truth_of type_named period_named sharing_named attribute_fits told_fits is_keyword number_of_literal
one_person = refl

second_person : told ((first_person ∷ []) ∷ (built 4 (codes "Other") (keyword (codes "key") (quoted (codes "other")) ∷ keyword (codes "plural") (quoted (codes "others")) ∷ keyword (codes "is_person") (word (codes "True")) ∷ []) ∷ []) ∷ []) ≡ at 1 4 kind.BadAttribute
unfolding tables_of said_within truth_of type_named period_named sharing_named attribute_fits told_fits is_keyword number_of_literal
second_person = refl

-- a group has at least one role, the persons none
group_without_roles : told ((first_person ∷ group 2 (codes "G") (codes "g") (codes "gs") [] ∷ []) ∷ []) ≡ at 0 2 kind.BadAttribute
unfolding tables_of said_within truth_of type_named period_named sharing_named attribute_fits told_fits is_keyword number_of_literal
group_without_roles = refl

person_with_roles : told ((built 2 (codes "P") (keyword (codes "key") (quoted (codes "p")) ∷ keyword (codes "plural") (quoted (codes "ps")) ∷ keyword (codes "is_person") (word (codes "True")) ∷ keyword (codes "roles") (list (child ∷ [])) ∷ []) ∷ []) ∷ []) ≡ at 0 2 kind.BadAttribute
unfolding tables_of said_within truth_of type_named period_named sharing_named attribute_fits told_fits is_keyword number_of_literal
person_with_roles = refl

-- key and plural are required, no argument comes twice, and none is unknown
no_plural : told ((built 2 (codes "P") (keyword (codes "key") (quoted (codes "p")) ∷ []) ∷ []) ∷ []) ≡ at 0 2 kind.BadAttribute
unfolding tables_of said_within truth_of type_named period_named sharing_named attribute_fits told_fits is_keyword number_of_literal
no_plural = refl

argument_twice : told ((first_person ∷ built 2 (codes "G") (keyword (codes "key") (quoted (codes "g")) ∷ keyword (codes "key") (quoted (codes "g")) ∷ keyword (codes "plural") (quoted (codes "gs")) ∷ keyword (codes "roles") (list (child ∷ [])) ∷ []) ∷ []) ∷ []) ≡ at 0 2 kind.BadAttribute
unfolding tables_of said_within truth_of type_named period_named sharing_named attribute_fits told_fits is_keyword number_of_literal
argument_twice = refl

unknown_argument : told ((built 2 (codes "P") (keyword (codes "kind") (quoted (codes "p")) ∷ []) ∷ []) ∷ []) ≡ at 0 2 kind.BadAttribute
unfolding tables_of said_within truth_of type_named period_named sharing_named attribute_fits told_fits is_keyword number_of_literal
unknown_argument = refl

-- all names of variables, Enums, constants, keys and plurals differ: the later statement is told, in its module
variable_twice : told ((first_person ∷ plain 3 (codes "v") [] ∷ []) ∷ (plain 5 (codes "v") [] ∷ []) ∷ []) ≡ at 1 5 kind.DuplicateName
unfolding tables_of said_within truth_of type_named period_named sharing_named attribute_fits told_fits is_keyword number_of_literal
variable_twice = refl

variable_named_as_a_key : told ((first_person ∷ plain 3 (codes "person") [] ∷ []) ∷ []) ≡ at 0 3 kind.DuplicateName
unfolding tables_of said_within truth_of type_named period_named sharing_named attribute_fits told_fits is_keyword number_of_literal
variable_named_as_a_key = refl

entity_behind_its_name : told ((plain 1 (codes "persons") [] ∷ []) ∷ (person 9 ∷ []) ∷ []) ≡ at 1 9 kind.DuplicateName
unfolding tables_of said_within truth_of type_named period_named sharing_named attribute_fits told_fits is_keyword number_of_literal
entity_behind_its_name = refl

enum_named_as_a_constant : told ((first_person ∷ choices 4 (codes "Person") [] ∷ []) ∷ []) ≡ at 0 4 kind.DuplicateName
unfolding tables_of said_within truth_of type_named period_named sharing_named attribute_fits told_fits is_keyword number_of_literal
enum_named_as_a_constant = refl

key_equal_to_plural : told ((first_person ∷ group 2 (codes "G") (codes "g") (codes "g") (child ∷ []) ∷ []) ∷ []) ≡ at 0 2 kind.DuplicateName
unfolding tables_of said_within truth_of type_named period_named sharing_named attribute_fits told_fits is_keyword number_of_literal
key_equal_to_plural = refl

names_go_before_attributes : told ((choices 2 (codes "E") [] ∷ choices 4 (codes "E") [] ∷ []) ∷ []) ≡ at 0 4 kind.DuplicateName
unfolding tables_of said_within truth_of type_named period_named sharing_named attribute_fits told_fits is_keyword number_of_literal
names_go_before_attributes = refl

names_that_differ_in_case : told ((first_person ∷ plain 3 (codes "v") [] ∷ plain 9 (codes "V") [] ∷ []) ∷ []) ≡ None
unfolding tables_of said_within truth_of type_named period_named sharing_named attribute_fits told_fits is_keyword number_of_literal
names_that_differ_in_case = refl

-- no text is a key or plural of two roles and subroles, and no two keys differ in case alone
roles_of_one_key : told ((first_person ∷ group 2 (codes "G") (codes "g") (codes "gs") (child ∷ child ∷ []) ∷ []) ∷ []) ≡ at 0 2 kind.DuplicateName
unfolding tables_of said_within truth_of type_named period_named sharing_named attribute_fits told_fits is_keyword number_of_literal
roles_of_one_key = refl

key_as_its_own_plural : told ((first_person ∷ group 2 (codes "G") (codes "g") (codes "gs") (map_of (key_of (codes "key") (codes "kin") ∷ key_of (codes "plural") (codes "kin") ∷ []) ∷ []) ∷ []) ∷ []) ≡ None
unfolding tables_of said_within truth_of type_named period_named sharing_named attribute_fits told_fits is_keyword number_of_literal
key_as_its_own_plural = refl

keys_that_differ_in_case : told ((first_person ∷ group 2 (codes "G") (codes "g") (codes "gs") (child ∷ map_of (key_of (codes "key") (codes "Child") ∷ []) ∷ []) ∷ []) ∷ []) ≡ at 0 2 kind.DuplicateName
unfolding tables_of said_within truth_of type_named period_named sharing_named attribute_fits told_fits is_keyword number_of_literal
keys_that_differ_in_case = refl

subrole_named_as_a_role : told ((first_person ∷ group 2 (codes "G") (codes "g") (codes "gs") (child ∷ map_of (key_of (codes "key") (codes "parent") ∷ entry (quoted (codes "subroles")) (list (quoted (codes "child") ∷ [])) ∷ []) ∷ []) ∷ []) ∷ []) ≡ at 0 2 kind.DuplicateName
unfolding tables_of said_within truth_of type_named period_named sharing_named attribute_fits told_fits is_keyword number_of_literal
subrole_named_as_a_role = refl

-- no role has a key or plural that is the name of a variable of its entity; subroles may
variable_named_as_a_role : told ((first_person ∷ household 2 ∷ variable 3 (codes "children") (three 3 (codes "float") (codes "Household") (codes "MONTH")) ∷ []) ∷ []) ≡ at 0 3 kind.DuplicateName
unfolding tables_of said_within truth_of type_named period_named sharing_named attribute_fits told_fits is_keyword number_of_literal
variable_named_as_a_role = refl

role_behind_the_variable : told ((first_person ∷ variable 3 (codes "child") (three 3 (codes "float") (codes "Household") (codes "MONTH")) ∷ household 8 ∷ []) ∷ []) ≡ at 0 8 kind.DuplicateName
unfolding tables_of said_within truth_of type_named period_named sharing_named attribute_fits told_fits is_keyword number_of_literal
role_behind_the_variable = refl

variable_of_others : told ((first_person ∷ household 2 ∷ plain 3 (codes "child") [] ∷ []) ∷ []) ≡ None
unfolding tables_of said_within truth_of type_named period_named sharing_named attribute_fits told_fits is_keyword number_of_literal
variable_of_others = refl

variable_named_as_a_subrole : told ((first_person ∷ group 2 (codes "G") (codes "g") (codes "gs") (map_of (key_of (codes "key") (codes "parent") ∷ entry (quoted (codes "subroles")) (list (quoted (codes "first") ∷ [])) ∷ []) ∷ []) ∷ variable 3 (codes "first") (three 3 (codes "float") (codes "G") (codes "MONTH")) ∷ []) ∷ []) ≡ None
unfolding tables_of said_within truth_of type_named period_named sharing_named attribute_fits told_fits is_keyword number_of_literal
variable_named_as_a_subrole = refl

-- an Enum has from 1 to 1,000 members, whose names differ; `__order__` is none
no_members : told ((first_person ∷ choices 4 (codes "E") (record { line = 5; name = codes "__order__"; text = [] } ∷ []) ∷ []) ∷ []) ≡ at 0 4 kind.BadAttribute
unfolding tables_of said_within truth_of type_named period_named sharing_named attribute_fits told_fits is_keyword number_of_literal
no_members = refl

member_twice : told ((first_person ∷ choices 4 (codes "E") (record { line = 5; name = codes "a"; text = [] } ∷ record { line = 6; name = codes "a"; text = [] } ∷ []) ∷ []) ∷ []) ≡ at 0 6 kind.DuplicateName
unfolding tables_of said_within truth_of type_named period_named sharing_named attribute_fits told_fits is_keyword number_of_literal
member_twice = refl

members_that_differ_in_case : told ((first_person ∷ choices 4 (codes "E") (record { line = 5; name = codes "a"; text = [] } ∷ record { line = 6; name = codes "A"; text = [] } ∷ []) ∷ []) ∷ []) ≡ None
unfolding tables_of said_within truth_of type_named period_named sharing_named attribute_fits told_fits is_keyword number_of_literal
members_that_differ_in_case = refl

-- a name in `entities` that is none is UnknownName
unknown_entity_listed : told ((first_person ∷ entities (record { line = 2; name = codes "entities"; value = list (word (codes "Person") ∷ word (codes "Nobody") ∷ []) }) ∷ []) ∷ []) ≡ at 0 2 kind.UnknownName
unfolding tables_of said_within truth_of type_named period_named sharing_named attribute_fits told_fits is_keyword number_of_literal
unknown_entity_listed = refl

known_entities : told ((entities (record { line = 1; name = codes "entities"; value = list (word (codes "Person") ∷ []) }) ∷ person 2 ∷ []) ∷ []) ≡ None
unfolding tables_of said_within truth_of type_named period_named sharing_named attribute_fits told_fits is_keyword number_of_literal
known_entities = refl

-- parentheses group alone, around the list and around what it has
unknown_entity_grouped : told ((first_person ∷ entities (record { line = 2; name = codes "entities"; value = grouped (list (word (codes "Person") ∷ grouped (word (codes "Nobody")) ∷ [])) }) ∷ []) ∷ []) ≡ at 0 2 kind.UnknownName
unfolding tables_of said_within truth_of type_named period_named sharing_named attribute_fits told_fits is_keyword number_of_literal
unknown_entity_grouped = refl

grouped_entities : told ((first_person ∷ entities (record { line = 2; name = codes "entities"; value = grouped (list (grouped (word (codes "Person")) ∷ [])) }) ∷ []) ∷ []) ≡ None
unfolding tables_of said_within truth_of type_named period_named sharing_named attribute_fits told_fits is_keyword number_of_literal
grouped_entities = refl

-- an unknown entity or Enum is UnknownName, and a value that is no name BadAttribute, of the attribute's line
variable_of_nobody : told ((first_person ∷ variable 3 (codes "v") (three 4 (codes "float") (codes "Nobody") (codes "MONTH")) ∷ []) ∷ []) ≡ at 0 4 kind.UnknownName
unfolding tables_of said_within truth_of type_named period_named sharing_named attribute_fits told_fits is_keyword number_of_literal
variable_of_nobody = refl

entity_in_quotes : told ((first_person ∷ variable 3 (codes "v") (set 4 (codes "entity") (quoted (codes "Person")) ∷ []) ∷ []) ∷ []) ≡ at 0 4 kind.BadAttribute
unfolding tables_of said_within truth_of type_named period_named sharing_named attribute_fits told_fits is_keyword number_of_literal
entity_in_quotes = refl

unknown_enum : told ((first_person ∷ plain 3 (codes "v") (set 7 (codes "possible_values") (word (codes "E")) ∷ []) ∷ []) ∷ []) ≡ at 0 7 kind.UnknownName
unfolding tables_of said_within truth_of type_named period_named sharing_named attribute_fits told_fits is_keyword number_of_literal
unknown_enum = refl

-- what is missing is told last, of the class's line; an unknown attribute and one given twice of theirs
nothing_set : told ((first_person ∷ variable 3 (codes "v") [] ∷ []) ∷ []) ≡ at 0 3 kind.BadAttribute
unfolding tables_of said_within truth_of type_named period_named sharing_named attribute_fits told_fits is_keyword number_of_literal
nothing_set = refl

missing_is_told_last : told ((first_person ∷ variable 3 (codes "v") (set 4 (codes "label") (word (codes "v")) ∷ []) ∷ []) ∷ []) ≡ at 0 4 kind.BadAttribute
unfolding tables_of said_within truth_of type_named period_named sharing_named attribute_fits told_fits is_keyword number_of_literal
missing_is_told_last = refl

unknown_attribute : told ((first_person ∷ plain 3 (codes "v") (set 8 (codes "colour") (quoted []) ∷ []) ∷ []) ∷ []) ≡ at 0 8 kind.BadAttribute
unfolding tables_of said_within truth_of type_named period_named sharing_named attribute_fits told_fits passed_over is_keyword number_of_literal
unknown_attribute = refl

attribute_twice : told ((first_person ∷ plain 3 (codes "v") (set 8 (codes "label") (quoted []) ∷ set 9 (codes "label") (quoted []) ∷ []) ∷ []) ∷ []) ≡ at 0 9 kind.BadAttribute
unfolding tables_of said_within truth_of type_named period_named sharing_named attribute_fits told_fits is_keyword number_of_literal
attribute_twice = refl

-- a default value is of the variable's type; an Enum names one of its own
truth_for_a_number : told ((first_person ∷ plain 3 (codes "v") (set 8 (codes "default_value") (word (codes "True")) ∷ []) ∷ []) ∷ []) ≡ at 0 8 kind.BadAttribute
unfolding tables_of said_within truth_of type_named period_named sharing_named attribute_fits told_fits is_keyword number_of_literal
truth_for_a_number = refl

enum_without_default : told ((first_person ∷ choices 4 (codes "E") (record { line = 5; name = codes "a"; text = [] } ∷ []) ∷ variable 6 (codes "v") (three 7 (codes "Enum") (codes "Person") (codes "MONTH") ++ set 8 (codes "possible_values") (word (codes "E")) ∷ []) ∷ []) ∷ []) ≡ at 0 6 kind.BadAttribute
unfolding tables_of said_within truth_of type_named period_named sharing_named attribute_fits told_fits is_keyword number_of_literal
enum_without_default = refl

enum_with_default : told ((first_person ∷ variable 6 (codes "v") (set 7 (codes "default_value") (dotted (word (codes "E")) (codes "a")) ∷ set 8 (codes "possible_values") (word (codes "E")) ∷ three 9 (codes "Enum") (codes "Person") (codes "MONTH")) ∷ []) ∷ (choices 4 (codes "E") (record { line = 5; name = codes "a"; text = [] } ∷ []) ∷ []) ∷ []) ≡ None
unfolding tables_of said_within truth_of type_named period_named sharing_named attribute_fits told_fits is_keyword number_of_literal
enum_with_default = refl

wrong_member : told ((first_person ∷ choices 4 (codes "E") (record { line = 5; name = codes "a"; text = [] } ∷ []) ∷ variable 6 (codes "v") (three 7 (codes "Enum") (codes "Person") (codes "MONTH") ++ set 8 (codes "possible_values") (word (codes "E")) ∷ set 9 (codes "default_value") (dotted (word (codes "E")) (codes "b")) ∷ []) ∷ []) ∷ []) ≡ at 0 9 kind.BadAttribute
unfolding tables_of said_within truth_of type_named period_named sharing_named attribute_fits told_fits is_keyword number_of_literal
wrong_member = refl

values_without_an_enum : told ((first_person ∷ choices 4 (codes "E") (record { line = 5; name = codes "a"; text = [] } ∷ []) ∷ plain 6 (codes "v") (set 8 (codes "possible_values") (word (codes "E")) ∷ []) ∷ []) ∷ []) ≡ at 0 8 kind.BadAttribute
unfolding tables_of said_within truth_of type_named period_named sharing_named attribute_fits told_fits is_keyword number_of_literal
values_without_an_enum = refl

-- divided are numbers alone; dispatched is every type
divided_truth : told ((first_person ∷ variable 3 (codes "v") (three 4 (codes "bool") (codes "Person") (codes "MONTH") ++ set 8 (codes "set_input") (word (codes "set_input_divide_by_period")) ∷ []) ∷ []) ∷ []) ≡ at 0 8 kind.BadAttribute
unfolding tables_of said_within truth_of type_named period_named sharing_named attribute_fits told_fits is_keyword number_of_literal
divided_truth = refl

dispatched_truth : told ((first_person ∷ variable 3 (codes "v") (three 4 (codes "bool") (codes "Person") (codes "ETERNITY") ++ set 8 (codes "set_input") (word (codes "set_input_dispatch_by_period")) ∷ []) ∷ []) ∷ []) ≡ None
unfolding tables_of said_within truth_of type_named period_named sharing_named attribute_fits told_fits is_keyword number_of_literal
dispatched_truth = refl

-- an end is an instant
end_that_is_no_day : told ((first_person ∷ plain 3 (codes "v") (set 8 (codes "end") (quoted (codes "2015-02-29")) ∷ []) ∷ []) ∷ []) ≡ at 0 8 kind.BadAttribute
unfolding tables_of said_within truth_of type_named period_named sharing_named attribute_fits told_fits is_keyword number_of_literal
end_that_is_no_day = refl

end_on_a_day : told ((first_person ∷ plain 3 (codes "v") (set 8 (codes "end") (quoted (codes "2016-02-29")) ∷ []) ∷ []) ∷ []) ≡ None
unfolding tables_of said_within truth_of type_named period_named sharing_named attribute_fits told_fits is_keyword number_of_literal
end_on_a_day = refl

-- no two formulas start on one day, and eternal variables, dates and texts have none
formulas_of_one_day : told ((first_person ∷ plain 3 (codes "v") (starts 5 2015 ∷ starts 7 2015 ∷ []) ∷ []) ∷ []) ≡ at 0 7 kind.BadAttribute
unfolding tables_of said_within truth_of type_named period_named sharing_named attribute_fits told_fits is_keyword number_of_literal
formulas_of_one_day = refl

formulas_of_two_days : told ((first_person ∷ plain 3 (codes "v") (starts 5 2016 ∷ starts 7 2015 ∷ []) ∷ []) ∷ []) ≡ None
unfolding tables_of said_within truth_of type_named period_named sharing_named attribute_fits told_fits is_keyword number_of_literal
formulas_of_two_days = refl

formula_of_eternity : told ((first_person ∷ variable 3 (codes "v") (starts 5 2015 ∷ three 7 (codes "float") (codes "Person") (codes "ETERNITY")) ∷ []) ∷ []) ≡ at 0 5 kind.BadAttribute
unfolding tables_of said_within truth_of type_named period_named sharing_named attribute_fits told_fits is_keyword number_of_literal
formula_of_eternity = refl

formula_of_dates : told ((first_person ∷ variable 3 (codes "v") (three 4 (codes "date") (codes "Person") (codes "MONTH") ++ starts 9 2015 ∷ []) ∷ []) ∷ []) ≡ at 0 9 kind.BadAttribute
unfolding tables_of said_within truth_of type_named period_named sharing_named attribute_fits told_fits is_keyword number_of_literal
formula_of_dates = refl
