-- Parameters beside their sentences.
use Rattle.std.proofs.Common.{◌≡◌, ℕ, List, [], ◌∷◌, ◌++◌, false, refl}
use Rattle.std.specs.Prelude.{codes, Ok, Err, Result, None}
use Rattle.fisca_params.specs.Tree.{TreeNode, child_node}
use Rattle.fisca_params.specs.declared.content.Content.{Content}
use Rattle.fisca_params.specs.declared.content.Content.TheVariants as content
use Rattle.fisca_ast.specs.Tree.{Tree, binary}
use Rattle.fisca_ast.specs.declared.tree.Operator.TheVariants as op
use Rattle.fisca_ast.specs.declared.fault.FormulaKind.{FormulaKind}
use Rattle.fisca_ast.specs.declared.fault.FormulaKind.TheVariants as kind
use Rattle.fisca_typing.specs.declared.kinds.Level.TheVariants as level
use Rattle.fisca_typing.specs.declared.moves.Move.TheVariants as step
use Rattle.fisca_typing.specs.Names.{Names, known_word, added_word}
use Rattle.fisca_typing.specs.Nodes.{local, no_index, index, parameter, scale_sum}
use Rattle.fisca_typing.specs.Periods.{period_attribute}
use Rattle.fisca_typing.specs.Things.{Thing, nodes, scale}
use Rattle.fisca_typing.specs.Typing.{thing_of}
use Rattle.fisca_typing.proofs.Examples.{of_household, tables, n, b, e, m, o, nope, w, at, call, dot, period, number, bool}

-- A root with the node `benefits` (the number `basic`, the bool `open`, the unusable `words`, the scale `tax`), and nodes for each
-- member of `Occupancy`: `heating` (numbers), `free` (bools), `mixed` (a number and a bool), `taxes` (scales), `half` (`tenant` alone),
-- and `area` (nodes with the number `rate`, and `low` below `tenant` alone).
abbrev root : TreeNode
root = record { parent = None; name = []; content = content.Folder }

abbrev amount : Content
amount = content.Numbers []

abbrev flag : Content
flag = content.Bools []

abbrev sums : Content
sums = content.Scale (record { is_single_amount = false; brackets = [] })

abbrev below : ℕ → List ℕ → Content → TreeNode
below = child_node

abbrev first_nodes : List TreeNode
first_nodes =
    root ∷ below 0 (codes "benefits") content.Folder ∷ below 1 (codes "basic") amount ∷ below 1 (codes "open") flag
    ∷ below 1 (codes "words") content.Unusable ∷ below 1 (codes "tax") sums ∷ []

abbrev indexed_nodes : List TreeNode
indexed_nodes =
    below 0 (codes "heating") content.Folder ∷ below 6 (codes "owner") amount ∷ below 6 (codes "tenant") amount
    ∷ below 0 (codes "free") content.Branch ∷ below 9 (codes "tenant") flag ∷ below 9 (codes "owner") flag
    ∷ below 0 (codes "mixed") content.Branch ∷ below 12 (codes "tenant") amount ∷ below 12 (codes "owner") flag
    ∷ below 0 (codes "taxes") content.Branch ∷ below 15 (codes "tenant") sums ∷ below 15 (codes "owner") sums
    ∷ below 0 (codes "half") content.Branch ∷ below 18 (codes "tenant") amount ∷ []

abbrev area_nodes : List TreeNode
area_nodes =
    below 0 (codes "area") content.Branch ∷ below 20 (codes "tenant") content.Branch ∷ below 20 (codes "owner") content.Branch
    ∷ below 21 (codes "rate") amount ∷ below 22 (codes "rate") amount ∷ below 21 (codes "low") amount
    ∷ below 21 (codes "owner") amount ∷ below 21 (codes "tenant") amount ∷ below 22 (codes "tenant") amount ∷ below 22 (codes "owner") amount ∷ []

abbrev c : Names
c = record of_household { tables = record tables { nodes = first_nodes ++ indexed_nodes ++ area_nodes } }

abbrev is : Tree → Result Thing FormulaKind
is x = thing_of c x

abbrev root_node : Tree
root_node = call (w (codes "parameters")) (period ∷ [])

abbrev named : List ℕ → Tree
named = dot root_node

abbrev benefit : List ℕ → Tree
benefit = dot (named (codes "benefits"))

-- `parameters(p)`, `parameters(p.start)`, then `.name`: read at the period's start; node, number, bool or scale, constant
node : is (named (codes "benefits")) ≡ Ok (nodes (record { level = level.Constant; indices = no_index; places = 1 ∷ []; moves = [] }))
node = refl

a_number : is (benefit (codes "basic")) ≡ number level.Constant (parameter no_index (2 ∷ []) [])
a_number = refl

a_bool : is (benefit (codes "open")) ≡ bool level.Constant (parameter no_index (3 ∷ []) [])
a_bool = refl

a_scale : is (benefit (codes "tax")) ≡ Ok (scale 5 [])
a_scale = refl

unusable : is (benefit (codes "words")) ≡ Err kind.BadType
unusable = refl

at_start : is (dot (call (w (codes "parameters")) (dot (dot period (codes "last_year")) (codes "start") ∷ [])) (codes "benefits"))
    ≡ Ok (nodes (record { level = level.Constant; indices = no_index; places = 1 ∷ []; moves = step.LastYear ∷ [] }))
unfolding period_attribute
at_start = refl

no_parameter : is (named (codes "nope")) ≡ Err kind.UnknownParameter
no_parameter = refl

at_number : is (call (w (codes "parameters")) (n ∷ [])) ≡ Err kind.BadType
at_number = refl

of_nothing : is (call (w (codes "parameters")) []) ≡ Err kind.BadType
of_nothing = refl

node_as_value : is (binary op.Add (named (codes "benefits")) n) ≡ Err kind.BadType
node_as_value = refl

below_number : is (dot (benefit (codes "basic")) (codes "more")) ≡ Err kind.BadType
below_number = refl

-- `scale.calc(x)`: number or bool; a number at x's level
calc : is (call (dot (benefit (codes "tax")) (codes "calc")) (m ∷ [])) ≡ number level.Members (scale_sum 5 [] (local 7))
calc = refl

calc_of_bool : is (call (dot (benefit (codes "tax")) (codes "calc")) (b ∷ [])) ≡ number level.Own (scale_sum 5 [] (local 4))
calc_of_bool = refl

calc_of_member : is (call (dot (benefit (codes "tax")) (codes "calc")) (e ∷ [])) ≡ Err kind.BadType
calc_of_member = refl

no_calc : is (dot (benefit (codes "tax")) (codes "rates")) ≡ Err kind.BadType
no_calc = refl

scale_as_value : is (binary op.Add (benefit (codes "tax")) n) ≡ Err kind.BadType
scale_as_value = refl

-- `NODE[e]`: a child for each member's name, all numbers, all bools or all nodes; the level is the highest of the indices' levels
by_member : is (at (named (codes "heating")) e) ≡ number level.Own (parameter (index (local 5) 2 no_index) (8 ∷ 7 ∷ []) [])
by_member = refl

by_member_of_persons : is (at (named (codes "free")) o) ≡ bool level.Members (parameter (index (local 9) 2 no_index) (10 ∷ 11 ∷ []) [])
by_member_of_persons = refl

of_two_kinds : is (at (named (codes "mixed")) e) ≡ Err kind.BadType
of_two_kinds = refl

scales : is (at (named (codes "taxes")) e) ≡ Err kind.BadType
scales = refl

child_missing : is (at (named (codes "half")) e) ≡ Err kind.UnknownParameter
child_missing = refl

-- with nodes, `.NAME` or a further `[e]` follows and must fit under each member's child
rate : is (dot (at (named (codes "area")) e) (codes "rate")) ≡ number level.Own (parameter (index (local 5) 2 no_index) (23 ∷ 24 ∷ []) [])
rate = refl

below_one_alone : is (dot (at (named (codes "area")) e) (codes "low")) ≡ Err kind.UnknownParameter
below_one_alone = refl

twice : is (at (at (named (codes "area")) e) (w (codes "d")))
    ≡ number level.Own (parameter (index (local 5) 2 (index (local 2) 2 no_index)) (27 ∷ 26 ∷ 28 ∷ 29 ∷ []) [])
twice = refl

-- an index that is no member, or a subscript of anything but nodes, is of a bad type; then come the levels, the children, and their kinds
by_number : is (at (named (codes "heating")) n) ≡ Err kind.BadType
by_number = refl

of_number : is (at n e) ≡ Err kind.BadType
of_number = refl

of_scale : is (at (benefit (codes "tax")) e) ≡ Err kind.BadType
of_scale = refl

by_unknown : is (at (named (codes "heating")) nope) ≡ Err kind.UnknownName
unfolding known_word added_word
by_unknown = refl

level_before_children : is (at (at (named (codes "area")) e) o) ≡ Err kind.BadLevel
level_before_children = refl
