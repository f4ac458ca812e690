-- What an expression of a formula may stand for.
use Rattle.std.specs.Prelude.{ℕ, List, Option, Result, Ok}
use Rattle.fisca_ast.specs.declared.fault.FormulaKind.{FormulaKind}
use Rattle.fisca_typing.specs.declared.asking.Asking.{Asking}
use Rattle.fisca_model.specs.declared.role_place.RolePlace.{RolePlace}
use Rattle.fisca_typing.specs.declared.asking.Whom.{Whom}
use Rattle.fisca_typing.specs.declared.kinds.Level.{Level}
use Rattle.fisca_model.specs.declared.value_type.ValueType.{ValueType}
use Rattle.fisca_typing.specs.declared.moves.Move.{Move}
use Rattle.fisca_typing.specs.declared.operations.Function.{Function}
use Rattle.fisca_typing.specs.declared.operations.Method.{Method}
use Rattle.fisca_typing.specs.Nodes.{Node, Indices}
use Rattle.fisca_typing.specs.Types.{bad_type}

-- a value: its type, its level, and what is worked out for it
pub record Typed : Type 0 where
  pub value_type : ValueType
  pub level : Level
  pub node : Node

-- Parameters that are chosen among, at the start of a period: those that the members of the indices lead to, at the indices' highest level.
pub record Chosen : Type 0 where
  pub level : Level
  pub indices : Indices
  pub places : List ℕ
  pub moves : List Move

-- whom a variable is asked for by a name behind the entity, and the place of the variable's entity
pub record Relation : Type 0 where
  pub whom : Whom
  pub entity : ℕ

mutual
  pub data Thing : Type 0 where
    value : Typed → Thing
    period : List Move → Thing
    -- `period.start`
    start : List Move → Thing
    -- `period.offset`
    offset : List Move → Thing
    -- `parameters`, and what stands below it
    reader : Thing
    nodes : Chosen → Thing
    scale : ℕ → List Move → Thing
    -- `scale.calc`
    calculation : ℕ → List Move → Thing
    enumeration : ℕ → Thing
    -- `x.possible_values`
    choices : ℕ → Thing
    entity : ℕ → Thing
    role : ℕ → RolePlace → Thing
    -- the first argument, and a name behind it
    asker : Thing
    method : Option Method → Option Relation → Thing
    -- `GROUP.nb_persons` behind the first argument, a person, by the place of the group's entity
    group_count : ℕ → Thing
    -- `np` and `numpy`
    library : Thing
    function : Function → Thing
    -- `ADD` and `DIVIDE`
    option : Asking → Thing
    text : List ℕ → Thing
    listed : Things → Thing

  pub data Things : Type 0 where
    none : Things
    more : Thing → Things → Things

abbrev pub typed : ValueType → Level → Node → Result Thing FormulaKind
typed t l n = Ok (value (record { value_type = t; level = l; node = n }))

abbrev pub value_of : Thing → Result Typed FormulaKind
value_of (value v) = Ok v
value_of _ = bad_type

abbrev pub period_of : Thing → Result (List Move) FormulaKind
period_of (period ms) = Ok ms
period_of _ = bad_type

-- parameters are read at the start of a period, which names the period as well
abbrev pub instant_of : Thing → Result (List Move) FormulaKind
instant_of (period ms) = Ok ms
instant_of (start ms) = Ok ms
instant_of _ = bad_type

abbrev pub text_of : Thing → Result (List ℕ) FormulaKind
text_of (text t) = Ok t
text_of _ = bad_type

abbrev pub things_of : Thing → Result Things FormulaKind
things_of (listed xs) = Ok xs
things_of _ = bad_type

abbrev pub option_of : Thing → Result Asking FormulaKind
option_of (option a) = Ok a
option_of _ = bad_type

abbrev pub role_of : Thing → Result (ℕ × RolePlace) FormulaKind
role_of (role g r) = Ok (g, r)
role_of _ = bad_type

abbrev pub nodes_of : Thing → Result Chosen FormulaKind
nodes_of (nodes c) = Ok c
nodes_of _ = bad_type
