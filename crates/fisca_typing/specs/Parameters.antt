-- Parameters below `parameters(period)`.
use Rattle.std.specs.Prelude.{ℕ, List, [], ◌∷◌, ◌++◌, map, length, Bool, true, false, if◌then◌else◌, ok_or, Result, Ok, codes}
use Rattle.std.specs.List.{list_all}
use Rattle.fisca_ast.specs.Words.{is}
use Rattle.fisca_num.specs.Results.{and_then}
use Rattle.fisca_params.specs.Tree.{TreeNode, child_of, content_at}
use Rattle.fisca_params.specs.Lookup.{kind_of}
use Rattle.fisca_params.specs.declared.content.NodeKind.{NodeKind}
use Rattle.fisca_params.specs.declared.content.NodeKind.TheVariants as node
use Rattle.fisca_ast.specs.declared.fault.FormulaKind.{FormulaKind}
use Rattle.fisca_ast.specs.declared.fault.FormulaKind.TheVariants as kind
use Rattle.fisca_typing.specs.declared.kinds.Level.TheVariants as level
use Rattle.fisca_model.specs.declared.value_type.ValueType.{ValueType}
use Rattle.fisca_model.specs.declared.value_type.ValueType.TheVariants as vt
use Rattle.fisca_typing.specs.declared.moves.Move.{Move}
use Rattle.fisca_typing.specs.Nodes.{Indices, no_index, behind, parameter}
use Rattle.fisca_model.specs.Tables.{Tables, members_at}
use Rattle.fisca_typing.specs.Things.{Thing, Typed, Chosen, nodes, scale, calculation, typed}
use Rattle.fisca_typing.specs.Types.{bad_type, higher}

-- all nodes are numbers, bools, or nodes with children
abbrev pub is_number : NodeKind → Bool
is_number node.Number = true
is_number _ = false

abbrev pub is_bool : NodeKind → Bool
is_bool node.Bool = true
is_bool _ = false

abbrev pub is_node : NodeKind → Bool
is_node node.Node = true
is_node _ = false

abbrev pub kinds_at : List TreeNode → List ℕ → List NodeKind
kinds_at ns = map (λ place. kind_of (content_at ns place))

abbrev pub parameter_of : ValueType → Chosen → Result Thing FormulaKind
parameter_of t c = typed t c.level (parameter c.indices c.places c.moves)

abbrev pub of_one_kind : Chosen → List NodeKind → Result Thing FormulaKind
of_one_kind c ks =
    if list_all is_number ks then parameter_of vt.Number c
    else (if list_all is_bool ks then parameter_of vt.Bool c
    else (if list_all is_node ks then Ok (nodes c) else bad_type))

-- a scale is used where no index chooses it
abbrev pub chosen_thing : Chosen → Indices → List ℕ → List NodeKind → Result Thing FormulaKind
chosen_thing c no_index (place ∷ []) (node.Scale ∷ []) = Ok (scale place c.moves)
chosen_thing c is places ks = of_one_kind c ks

abbrev pub thing_chosen : List TreeNode → Chosen → Result Thing FormulaKind
thing_chosen ns c = chosen_thing c c.indices c.places (kinds_at ns c.places)

abbrev pub child_named : List TreeNode → ℕ → List ℕ → Result ℕ FormulaKind
child_named ns place t = ok_or (child_of ns place t) kind.UnknownParameter

-- the children of these names below one node
abbrev pub children_named : List TreeNode → ℕ → List (List ℕ) → Result (List ℕ) FormulaKind
children_named ns place [] = Ok []
children_named ns place (t ∷ ts) = and_then (child_named ns place t) (λ p. and_then (children_named ns place ts) (λ ps. Ok (p ∷ ps)))

-- the children of these names below each of these nodes
abbrev pub children_below : List TreeNode → List ℕ → List (List ℕ) → Result (List ℕ) FormulaKind
children_below ns [] ts = Ok []
children_below ns (place ∷ places) ts =
    and_then (children_named ns place ts) (λ ps. and_then (children_below ns places ts) (λ qs. Ok (ps ++ qs)))

-- `parameters(period)`: the root
abbrev pub root_at : List TreeNode → List Move → Result Thing FormulaKind
root_at ns ms = thing_chosen ns (record { level = level.Constant; indices = no_index; places = 0 ∷ []; moves = ms })

-- `.name` behind nodes
abbrev pub node_attribute : List TreeNode → List ℕ → Chosen → Result Thing FormulaKind
node_attribute ns t c = and_then (children_below ns c.places (t ∷ [])) (λ ps. thing_chosen ns (record c { places = ps }))

abbrev pub scale_attribute : List ℕ → ℕ → List Move → Result Thing FormulaKind
scale_attribute t place ms = if is t (codes "calc") then Ok (calculation place ms) else bad_type

abbrev pub enum_by : ValueType → Result ℕ FormulaKind
enum_by vt.Number = bad_type
enum_by vt.Bool = bad_type
enum_by (vt.Enum e) = Ok e

-- `NODE[e]`: a child for each member of the Enum. The types come first, then the levels, then the children, then their kinds.
abbrev pub subscripted : Tables → Chosen → Typed → Result Thing FormulaKind
subscripted c n i =
    and_then (enum_by i.value_type) (λ e.
    and_then (higher n.level i.level) (λ l.
    and_then (children_below c.nodes n.places (members_at c e)) (λ ps.
    thing_chosen c.nodes (record { level = l; indices = behind n.indices i.node (length (members_at c e)); places = ps; moves = n.moves }))))
