-- Periods, and names, beside their sentences.
use Rattle.std.proofs.Common.{◌≡◌, pos, negsuc, List, [], ◌∷◌, true, false, refl, sym, lit<}
use Rattle.std.specs.Prelude.{codes, Ok, Err, Result, Some, None}
use Rattle.fisca_num.specs.Literal.{number_of_literal, number_of_parts, digits_ratio}
use Rattle.fisca_num.specs.Number.{one_number}
use Rattle.fisca_num.specs.Operations.{only_number_of}
use Rattle.fisca_ast.specs.Tree.{Tree}
use Rattle.fisca_ast.specs.Tree as tree
use Rattle.fisca_ast.specs.declared.tree.Operator.TheVariants as op
use Rattle.fisca_ast.specs.declared.tree.Prefix.TheVariants as pre
use Rattle.fisca_time.specs.declared.unit.Unit.TheVariants as unit
use Rattle.fisca_ast.specs.declared.fault.FormulaKind.{FormulaKind}
use Rattle.fisca_ast.specs.declared.fault.FormulaKind.TheVariants as kind
use Rattle.fisca_typing.specs.declared.asking.Asking.TheVariants as asking
use Rattle.fisca_typing.specs.declared.kinds.Level.TheVariants as level
use Rattle.fisca_model.specs.declared.value_type.ValueType.TheVariants as vt
use Rattle.fisca_typing.specs.declared.moves.DatePart.TheVariants as part
use Rattle.fisca_typing.specs.declared.moves.Move.{Move}
use Rattle.fisca_typing.specs.declared.moves.Move.TheVariants as step
use Rattle.fisca_typing.specs.Names.{known_word, added_word}
use Rattle.fisca_typing.specs.Nodes.{local, truth, date_part, member}
use Rattle.fisca_typing.specs.Periods.{period_attribute, start_attribute, unit_named}
use Rattle.fisca_ast.specs.Steps.Contents.{content, said_within}
use Rattle.fisca_typing.specs.Things.{Thing, period as the_period, asker, reader, enumeration, entity, option}
use Rattle.fisca_typing.specs.Typing.{thing_of}
use Rattle.fisca_typing.proofs.Examples.{of_household, of_person, a_local, k, n, b, e, nope, w, call, dot, group, period, number, bool, occupancy}

abbrev is : Tree → Result Thing FormulaKind
is x = thing_of of_household x

-- a period with these moves
abbrev by : List Move → Result Thing FormulaKind
by ms = Ok (the_period ms)

-- periods are the formula's second argument, and the moves as attributes
second : is period ≡ by []
second = refl

last_month : is (dot period (codes "last_month")) ≡ by (step.LastMonth ∷ [])
unfolding period_attribute
last_month = refl

this_year : is (dot period (codes "this_year")) ≡ by (step.ThisYear ∷ [])
unfolding period_attribute
this_year = refl

first_month : is (dot period (codes "first_month")) ≡ by (step.FirstMonth ∷ [])
unfolding period_attribute
first_month = refl

first_day : is (dot period (codes "first_day")) ≡ by (step.FirstDay ∷ [])
unfolding period_attribute
first_day = refl

last_three_months : is (dot period (codes "last_3_months")) ≡ by (step.LastThreeMonths ∷ [])
unfolding period_attribute
last_three_months = refl

two_years_ago : is (dot (dot period (codes "last_year")) (codes "n_2")) ≡ by (step.LastYear ∷ step.TwoYearsAgo ∷ [])
unfolding period_attribute
two_years_ago = refl

no_move : is (dot period (codes "foo")) ≡ Err kind.UnknownName
unfolding period_attribute
no_move = refl

-- `p.start.year`, `.month`, `.day`: a number, constant
year : is (dot (dot (dot period (codes "last_month")) (codes "start")) (codes "year")) ≡ number level.Constant (date_part part.Year (step.LastMonth ∷ []))
unfolding period_attribute start_attribute
year = refl

month : is (dot (dot period (codes "start")) (codes "month")) ≡ number level.Constant (date_part part.Month [])
unfolding period_attribute start_attribute
month = refl

day : is (dot (dot period (codes "start")) (codes "day")) ≡ number level.Constant (date_part part.Day [])
unfolding period_attribute start_attribute
day = refl

week : is (dot (dot period (codes "start")) (codes "week")) ≡ Err kind.UnknownName
unfolding period_attribute start_attribute
week = refl

period_as_value : is (tree.binary op.Add period n) ≡ Err kind.BadType
period_as_value = refl

-- `p.offset(k)`: k is a whole number as it is written, no name
offset_by_local : is (call (dot period (codes "offset")) (k ∷ [])) ≡ Err kind.BadType
unfolding period_attribute
offset_by_local = refl

offset_of_nothing : is (call (dot period (codes "offset")) []) ≡ Err kind.BadType
unfolding period_attribute
offset_of_nothing = refl

offset_not_called : is (tree.binary op.Add (dot period (codes "offset")) n) ≡ Err kind.BadType
unfolding period_attribute
offset_not_called = refl

one : number_of_literal (codes "1") ≡ Ok one_number
unfolding number_of_literal number_of_parts
one = sym (only_number_of (digits_ratio false (codes "1") []) (Ok one_number) (record { some = lit< tt; same = refl; lowest = one_number.lowest }))

abbrev written : Tree
written = tree.number (codes "1")

offset : is (call (dot period (codes "offset")) (written ∷ [])) ≡ by (step.Offset (pos 1) ∷ [])
unfolding period_attribute
offset = rw (one, one) refl

back : is (call (dot period (codes "offset")) (tree.prefixed pre.Minus written ∷ [])) ≡ by (step.Offset (negsuc 0) ∷ [])
unfolding period_attribute
back = rw (one, one) refl

in_parentheses : is (call (dot period (codes "offset")) (group (tree.prefixed pre.Minus (group written)) ∷ [])) ≡ by (step.Offset (negsuc 0) ∷ [])
unfolding period_attribute
in_parentheses = rw (one, one) refl

plus_one : is (call (dot period (codes "offset")) (tree.prefixed pre.Plus written ∷ [])) ≡ Err kind.BadType
unfolding period_attribute
plus_one = rw one refl

by_unit : is (call (dot period (codes "offset")) (tree.prefixed pre.Minus written ∷ tree.text (codes "'year'") ∷ [])) ≡ by (step.OffsetBy (negsuc 0) unit.Year ∷ [])
unfolding period_attribute unit_named said_within
by_unit = rw (one, one) refl

by_no_unit : is (call (dot period (codes "offset")) (written ∷ tree.text (codes "'week'") ∷ [])) ≡ Err kind.BadType
unfolding period_attribute unit_named said_within
by_no_unit = rw (one, one) refl

month_unit : unit_named (codes "month") ≡ Some unit.Month
unfolding unit_named
month_unit = refl

no_unit : unit_named (codes "eternity") ≡ None
unfolding unit_named
no_unit = refl

-- Names: the latest earlier local, else the formula's argument, else a function or constant, else an Enum or entity constant
latest : thing_of (record of_household { locals = a_local (codes "n") vt.Bool level.Constant 11 ∷ of_household.locals }) n ≡ bool level.Constant (local 11)
latest = refl

local_over_argument : thing_of (record of_household { locals = a_local (codes "period") vt.Bool level.Constant 11 ∷ [] }) period ≡ bool level.Constant (local 11)
local_over_argument = refl

first_argument : is (w (codes "household")) ≡ Ok asker
first_argument = refl

third_argument : is (w (codes "parameters")) ≡ Ok reader
third_argument = refl

no_third_argument : thing_of of_person (w (codes "parameters")) ≡ Err kind.UnknownName
unfolding known_word added_word
no_third_argument = refl

argument_over_function : thing_of (record of_household { period_name = codes "where" }) (w (codes "where")) ≡ by []
argument_over_function = refl

true_constant : is (w (codes "True")) ≡ bool level.Constant (truth true)
unfolding known_word
true_constant = refl

false_constant : is (w (codes "False")) ≡ bool level.Constant (truth false)
unfolding known_word
false_constant = refl

add : is (w (codes "ADD")) ≡ Ok (option asking.Add)
unfolding known_word
add = refl

an_enum : is (w (codes "Status")) ≡ Ok (enumeration 1)
unfolding known_word
an_enum = refl

an_entity : is (w (codes "Household")) ≡ Ok (entity 0)
unfolding known_word
an_entity = refl

no_name : is nope ≡ Err kind.UnknownName
unfolding known_word added_word
no_name = refl

-- `E.name`, `x.possible_values.name`: a member, constant; x is typed and not worked out
member_of_enum : is (dot (w (codes "Occupancy")) (codes "owner")) ≡ occupancy level.Constant (member 0 1)
unfolding known_word
member_of_enum = refl

no_member : is (dot (w (codes "Occupancy")) (codes "castle")) ≡ Err kind.UnknownName
unfolding known_word added_word
no_member = refl

possible_value : is (dot (dot e (codes "possible_values")) (codes "tenant")) ≡ occupancy level.Constant (member 0 0)
possible_value = refl

of_members_too : is (dot (dot (w (codes "o")) (codes "possible_values")) (codes "tenant")) ≡ occupancy level.Constant (member 0 0)
of_members_too = refl

no_possible_value : is (dot (dot e (codes "possible_values")) (codes "castle")) ≡ Err kind.UnknownName
no_possible_value = refl

choices_of_number : is (dot n (codes "possible_values")) ≡ Err kind.BadType
choices_of_number = refl

choices_of_unknown : is (dot (dot nope (codes "possible_values")) (codes "tenant")) ≡ Err kind.UnknownName
unfolding known_word added_word
choices_of_unknown = refl

-- an attribute of a number or bool is none
attribute_of_bool : is (dot b (codes "year")) ≡ Err kind.BadType
attribute_of_bool = refl

attribute_of_member : is (dot e (codes "name")) ≡ Err kind.UnknownName
attribute_of_member = refl

-- texts side by side say one text; letters in front and comments say nothing, a backslash stands for itself
one_text : content (codes "'salary'") ≡ codes "salary"
unfolding said_within
one_text = refl

side_by_side : content (codes "'sa' r\"la\" # 'no'\n  '''ry'''") ≡ codes "salary"
unfolding said_within
side_by_side = refl

empty_text : content (codes "''") ≡ []
unfolding said_within
empty_text = refl

backslash : content (codes "'a\\'b'") ≡ codes "a\\'b"
unfolding said_within
backslash = refl
