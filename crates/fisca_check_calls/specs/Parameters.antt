-- Kinds of parameter nodes, all at once.
use Rattle.std.specs.Prelude.{ℕ, List, [], ◌∷◌, length, Bool, if◌then◌else◌, Option, Some, None, Result, Ok}
use Rattle.std.specs.List.{list_all}
use Rattle.fisca_num.specs.Results.{and_then}
use Rattle.fisca_params.specs.Tree.{TreeNode}
use Rattle.fisca_ast.specs.declared.fault.FormulaKind.{FormulaKind}
use Rattle.fisca_typing.specs.declared.kinds.Level.{Level}
use Rattle.fisca_typing.specs.Things.{Thing, Chosen, nodes}
use Rattle.fisca_typing.specs.Types.{bad_type}
use Rattle.fisca_model.specs.declared.value_type.ValueType.TheVariants as vt
use Rattle.fisca_params.specs.declared.content.NodeKind.{NodeKind}
use Rattle.fisca_params.specs.declared.content.NodeKind.TheVariants as node
use Rattle.fisca_typing.specs.Nodes.{Node, Indices, no_index, behind}
use Rattle.fisca_typing.specs.Parameters.{is_number, is_bool, is_node, kinds_at, parameter_of, children_below, thing_chosen}
use Rattle.fisca_check_calls.specs.declared.parameters.Wanted.{Wanted}
use Rattle.fisca_check_calls.specs.declared.parameters.Wanted.TheVariants as wanted
use Rattle.fisca_check_calls.specs.declared.parameters.Children.{Children}

abbrev pub all_are : Wanted → NodeKind → Bool
all_are wanted.Numbers = is_number
all_are wanted.Bools = is_bool
all_are wanted.Nodes = is_node

-- one scale, which no index chooses
abbrev pub scale_alone : Indices → List ℕ → List NodeKind → Option ℕ
scale_alone no_index (place ∷ []) (node.Scale ∷ []) = Some place
scale_alone is places ks = None

-- a child for each of these names below each of the nodes, chosen by one more member
abbrev pub chosen_by : List TreeNode → Chosen → Level → Node → List (List ℕ) → Result Thing FormulaKind
chosen_by ns c l n ts =
    and_then (children_below ns c.places ts) (λ ps.
    thing_chosen ns (record { level = l; indices = behind c.indices n (length ts); places = ps; moves = c.moves }))

-- Nodes of one kind

-- the first kind that all of these are of
abbrev pub one_kind : List NodeKind → Option Wanted
one_kind ks =
    if list_all is_number ks then Some wanted.Numbers
    else (if list_all is_bool ks then Some wanted.Bools
    else (if list_all is_node ks then Some wanted.Nodes else None))

pub record Alike : Type 0 where
  pub kind : Wanted
  pub places : List ℕ

abbrev pub children : Children → Alike
children c = record { kind = c.kind; places = c.places.value.items }

abbrev pub alike : List ℕ → Option Wanted → Result Alike FormulaKind
alike ps (Some w) = Ok (record { kind = w; places = ps })
alike ps None = bad_type

-- the children of these names below each of these nodes, which are of one kind
abbrev pub alike_below : List TreeNode → List ℕ → List (List ℕ) → Result Alike FormulaKind
alike_below ns places ts = and_then (children_below ns places ts) (λ ps. alike ps (one_kind (kinds_at ns ps)))

abbrev pub thing_of_kind : Wanted → Chosen → Result Thing FormulaKind
thing_of_kind wanted.Numbers c = parameter_of vt.Number c
thing_of_kind wanted.Bools c = parameter_of vt.Bool c
thing_of_kind wanted.Nodes c = Ok (nodes c)

-- these nodes, chosen by one more member of an Enum with so many
abbrev pub chosen_among : Alike → Chosen → Level → Node → ℕ → Result Thing FormulaKind
chosen_among a c l n size = thing_of_kind a.kind (record { level = l; indices = behind c.indices n size; places = a.places; moves = c.moves })
