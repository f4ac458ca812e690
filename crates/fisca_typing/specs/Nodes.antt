-- What typed formulas work out: all names are resolved, and no text is left.
use Rattle.std.specs.Prelude.{ℕ, List, Bool, Option}
use Rattle.fisca_num.specs.Number.{Number}
use Rattle.fisca_ast.specs.declared.tree.Comparison.{Comparison}
use Rattle.fisca_typing.specs.declared.asking.Asking.{Asking}
use Rattle.fisca_model.specs.declared.role_place.RolePlace.{RolePlace}
use Rattle.fisca_typing.specs.declared.asking.Whom.{Whom}
use Rattle.fisca_typing.specs.declared.moves.DatePart.{DatePart}
use Rattle.fisca_typing.specs.declared.moves.Move.{Move}
use Rattle.fisca_typing.specs.declared.operations.Arithmetic.{Arithmetic}
use Rattle.fisca_typing.specs.declared.operations.Logic.{Logic}
use Rattle.fisca_typing.specs.declared.operations.Total.{Total}
use Rattle.fisca_typing.specs.declared.operations.Unary.{Unary}

mutual
  -- Enums, their members, variables, entities and parameters are given by their places, and a local by how many with a value come before it.
  -- A list of moves leads from the period of the formula to the one that is meant.
  pub data Node : Type 0 where
    literal : Number → Node
    truth : Bool → Node
    member : ℕ → ℕ → Node
    local : ℕ → Node
    date_part : DatePart → List Move → Node
    ask : ℕ → Whom → Asking → List Move → Node
    -- of the person at hand: one of the group's persons where their values are taken, else the formula's own
    has_role : ℕ → RolePlace → Node
    -- of the group of an entity: the formula's own group, else that of its person
    count : ℕ → Option RolePlace → Node
    total : Total → Option RolePlace → Node → Node
    unary : Unary → Node → Node
    arithmetic : Arithmetic → Node → Node → Node
    logic : Logic → Node → Node → Node
    comparison : Comparison → Node → Node → Node
    same : Node → Node → Node
    choose : Node → Node → Node → Node
    -- one of these parameters, chosen by members of Enums; they stand in order of the first member, then of the second, and so on
    parameter : Indices → List ℕ → List Move → Node
    scale_sum : ℕ → List Move → Node → Node

  -- members of Enums, from left to right, each with how many members its Enum has
  pub data Indices : Type 0 where
    no_index : Indices
    index : Node → ℕ → Indices → Indices

abbrev pub behind : Indices → Node → ℕ → Indices
behind no_index n size = index n size no_index
behind (index m s is) n size = index m s (behind is n size)
