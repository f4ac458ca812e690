-- Formulas beside their sentences.
use Rattle.std.proofs.Common.{◌≡◌, ℕ, zero, suc, List, [], ◌∷◌, ◌++◌, true, refl}
use Rattle.std.specs.Prelude.{codes, Ok, Err, Result}
use Rattle.fisca_ast.specs.Tree.{Tree, binary, compare, text}
use Rattle.fisca_ast.specs.declared.tree.Operator.TheVariants as op
use Rattle.fisca_ast.specs.declared.tree.Comparison.TheVariants as cmp
use Rattle.fisca_ast.specs.declared.fault.FormulaKind.{FormulaKind}
use Rattle.fisca_ast.specs.declared.fault.FormulaKind.TheVariants as kind
use Rattle.fisca_typing.specs.declared.asking.Asking.TheVariants as asking
use Rattle.fisca_typing.specs.declared.asking.Whom.TheVariants as whom
use Rattle.fisca_model.specs.declared.value_type.ValueType.TheVariants as vt
use Rattle.fisca_typing.specs.declared.moves.DatePart.TheVariants as part
use Rattle.fisca_typing.specs.declared.moves.Move.TheVariants as step
use Rattle.fisca_typing.specs.declared.operations.Arithmetic.TheVariants as arith
use Rattle.fisca_typing.specs.Formulas.{Assigned, Formula, RefusedFormula, formula_of}
use Rattle.fisca_typing.specs.Names.{Names, known_word, added_word}
use Rattle.fisca_typing.specs.Nodes.{Node, local, truth, ask, arithmetic, date_part, member, same}
use Rattle.fisca_typing.specs.Periods.{period_attribute, start_attribute}
use Rattle.fisca_typing.specs.Sizes.{Size, Sized, size_of, capped_size_of}
use Rattle.fisca_ast.specs.Steps.Contents.{said_within}
use Rattle.fisca_typing.proofs.Examples.{of_household, w, call, dot, group, list, period, nope}

abbrev household : Names
household = record of_household { locals = [] }

abbrev local_is : List ℕ → Tree → Assigned
local_is name e = record { name = name; value = e }

abbrev typed : List Assigned → Tree → Result Formula RefusedFormula
typed = formula_of household vt.Number

abbrev formula : List Node → Node → Result Formula RefusedFormula
formula values result = Ok (record { values = values; result = result })

abbrev refused : ℕ → FormulaKind → Result Formula RefusedFormula
refused place k = Err (record { place = place; kind = k })

abbrev year : Tree
year = dot (dot period (codes "start")) (codes "year")

abbrev x : Tree
x = w (codes "x")

abbrev y : Tree
y = w (codes "y")

abbrev x_is : Tree → Assigned
x_is = local_is (codes "x")

abbrev y_is : Tree → Assigned
y_is = local_is (codes "y")

abbrev ask_for : List ℕ → Tree
ask_for v = call (w (codes "household")) (text v ∷ period ∷ [])

abbrev rent : Node
rent = ask 3 whom.Own asking.Plain []

-- a local is used by later lines; among those with values it has its place
used_later : typed (x_is year ∷ y_is (ask_for (codes "'rent'")) ∷ []) (binary op.Add x y) ≡ formula (date_part part.Year [] ∷ rent ∷ []) (arithmetic arith.Add (local 0) (local 1))
unfolding period_attribute start_attribute said_within
used_later = refl

used_before : typed (x_is y ∷ y_is year ∷ []) x ≡ refused 0 kind.UnknownName
unfolding known_word added_word
used_before = refl

used_in_itself : typed (x_is x ∷ []) year ≡ refused 0 kind.UnknownName
unfolding known_word added_word
used_in_itself = refl

-- the latest one of a name
latest : typed (x_is year ∷ x_is (binary op.Add x x) ∷ []) x ≡ formula (date_part part.Year [] ∷ arithmetic arith.Add (local 0) (local 0) ∷ []) (local 1)
unfolding period_attribute start_attribute
latest = refl

-- an unused local is typed too
unused : typed (x_is year ∷ y_is nope ∷ []) x ≡ refused 1 kind.UnknownName
unfolding period_attribute start_attribute known_word added_word
unused = refl

-- a local may stand for a period, which has no place
of_period : typed (x_is (dot period (codes "last_year")) ∷ y_is (call (w (codes "household")) (text (codes "'rent'") ∷ x ∷ [])) ∷ []) y ≡ formula (ask 3 whom.Own asking.Plain (step.LastYear ∷ []) ∷ []) (local 0)
unfolding period_attribute said_within
of_period = refl

-- or for what an Enum may be, which this project adds
of_choices : typed (x_is (dot (ask_for (codes "'occupancy'")) (codes "possible_values")) ∷ []) (compare cmp.Equal (ask_for (codes "'occupancy'")) (dot x (codes "owner")))
    ≡ formula [] (same (ask 5 whom.Own asking.Plain []) (member 0 1))
unfolding said_within
of_choices = refl

-- not for the first argument, a start, a text, a list, a function or an Enum
of_entity : typed (x_is (w (codes "household")) ∷ []) year ≡ refused 0 kind.BadType
of_entity = refl

of_start : typed (x_is (dot period (codes "start")) ∷ []) year ≡ refused 0 kind.BadType
unfolding period_attribute
of_start = refl

of_text : typed (x_is (text (codes "'x'")) ∷ []) year ≡ refused 0 kind.BadType
of_text = refl

of_list : typed (x_is (list []) ∷ []) year ≡ refused 0 kind.BadType
of_list = refl

of_function : typed (x_is (w (codes "where")) ∷ []) year ≡ refused 0 kind.BadType
unfolding known_word
of_function = refl

of_enum : typed (x_is (w (codes "Occupancy")) ∷ []) year ≡ refused 0 kind.BadType
unfolding known_word
of_enum = refl

-- a return is of the variable's Enum for an Enum variable, else number or bool
returns_bool : typed [] (w (codes "True")) ≡ formula [] (truth true)
unfolding known_word
returns_bool = refl

number_for_bool : formula_of household vt.Bool [] (ask_for (codes "'rent'")) ≡ formula [] rent
unfolding said_within
number_for_bool = refl

returns_member : formula_of household (vt.Enum 0) [] (dot (w (codes "Occupancy")) (codes "owner")) ≡ formula [] (member 0 1)
unfolding known_word
returns_member = refl

other_enum : formula_of household (vt.Enum 0) [] (dot (w (codes "Status")) (codes "single")) ≡ refused 0 kind.BadType
unfolding known_word
other_enum = refl

member_for_number : typed [] (dot (w (codes "Occupancy")) (codes "owner")) ≡ refused 0 kind.BadType
unfolding known_word
member_for_number = refl

number_for_member : formula_of household (vt.Enum 0) [] (ask_for (codes "'rent'")) ≡ refused 0 kind.BadType
unfolding said_within
number_for_member = refl

returns_period : typed [] period ≡ refused 0 kind.BadType
returns_period = refl

-- it is constant or own, and its type is judged first
returns_members : formula_of of_household vt.Number [] (w (codes "m")) ≡ refused 0 kind.BadLevel
returns_members = refl

type_first : formula_of of_household vt.Number [] (w (codes "o")) ≡ refused 0 kind.BadType
type_first = refl

-- Limits

abbrev repeated : ℕ → List Assigned → List Assigned
repeated zero ls = []
repeated (suc n) ls = ls ++ repeated n ls

-- `x = True`, then `x = x + x` so many times
abbrev doubled : ℕ → List Assigned
doubled n = x_is (w (codes "True")) ∷ repeated n (x_is (binary op.Add x x) ∷ [])

abbrev is_refused : Result Formula RefusedFormula → Result ℕ RefusedFormula
is_refused (Ok f) = Ok 0
is_refused (Err r) = Err r

-- 16,383 nodes
thirteen : is_refused (typed (doubled 13) x) ≡ Ok 0
unfolding known_word
thirteen = refl

-- 32,767 nodes, told of the local
fourteen : is_refused (typed (doubled 14) x) ≡ Err (record { place = 14; kind = kind.TooDeep })
unfolding known_word
fourteen = refl

thirty : is_refused (typed (doubled 30) x) ≡ Err (record { place = 14; kind = kind.TooDeep })
unfolding known_word
thirty = refl

abbrev sizes : ℕ → (List Sized → Tree → Size) → List Sized → List Sized
sizes zero size ls = ls
sizes (suc n) size ls = sizes n size (record { name = codes "x"; size = size ls (binary op.Add x x) } ∷ ls)

-- thirty doublings are counted at once, in full or up to the limit
counted : size_of (sizes 30 size_of []) x ≡ record { height = 31; nodes = 2147483647 }
counted = refl

counted_to_the_limit : capped_size_of (sizes 30 capped_size_of []) x ≡ record { height = 31; nodes = 20_001 }
counted_to_the_limit = refl

-- parentheses count one, and so do a callee, an argument, a name behind a point and a text
parts : size_of [] (group (call (dot x (codes "sum")) (text (codes "'a'") ∷ y ∷ []))) ≡ record { height = 4; nodes = 6 }
parts = refl

abbrev grouped : ℕ → Tree → Tree
grouped zero e = e
grouped (suc n) e = group (grouped n e)

highest : is_refused (typed [] (grouped 119 (w (codes "True")))) ≡ Ok 0
unfolding known_word
highest = refl

too_high : is_refused (typed [] (grouped 120 (w (codes "True")))) ≡ Err (record { place = 0; kind = kind.TooDeep })
unfolding known_word
too_high = refl

-- with a local put in
too_high_with_local : is_refused (typed (x_is (grouped 100 (w (codes "True"))) ∷ []) (grouped 20 x)) ≡ Err (record { place = 1; kind = kind.TooDeep })
unfolding known_word
too_high_with_local = refl

-- the limits are judged last
type_before_limit : is_refused (typed [] (grouped 120 period)) ≡ Err (record { place = 0; kind = kind.BadType })
type_before_limit = refl
