-- Questions for variables, by their arguments.
use Rattle.std.specs.Borrow.{Bor}
use Rattle.std.specs.Prelude.{ℕ, List, Option, option_map, Result, Ok}
use Rattle.fisca_check_calls.specs.Arguments.{given}
use Rattle.fisca_check_calls.specs.declared.arguments.GivenArgument.{GivenArgument as Held}
use Rattle.fisca_num.specs.Results.{and_then}
use Rattle.fisca_ast.specs.declared.fault.FormulaKind.{FormulaKind}
use Rattle.fisca_model.specs.declared.role_place.RolePlace.{RolePlace}
use Rattle.fisca_typing.specs.declared.kinds.Level.TheVariants as level
use Rattle.fisca_model.specs.declared.value_type.ValueType.TheVariants as vt
use Rattle.fisca_typing.specs.Calls.{CallArgument, Positions, positions, settled}
use Rattle.fisca_typing.specs.Nodes.{count}
use Rattle.fisca_typing.specs.Things.{Thing, typed}

abbrev pub given_if : Option (Bor Held) → Option CallArgument
given_if = option_map (λ g. given g.now)

abbrev pub outcome_of : Option (Bor Held) → Option (Result Thing FormulaKind)
outcome_of = option_map (λ g. (given g.now).thing)

-- the arguments of a call by position and by keyword
abbrev pub settled_view : List CallArgument → Result Positions FormulaKind
settled_view gs = and_then (settled gs) (λ ss. Ok (positions ss))

-- how many persons a group of an entity has, or have a role
abbrev pub count_of : ℕ → Option RolePlace → Result Thing FormulaKind
count_of entity r = typed vt.Number level.Own (count entity r)
