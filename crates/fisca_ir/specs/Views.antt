-- The nodes and the things of the theory that those in memory stand for.
use Rattle.std.specs.Prelude.{ℕ, List, [], ◌∷◌, map, Option, option_map, string_bytes}
use Rattle.fisca_model.specs.declared.role_place.RolePlace.{RolePlace}
use Rattle.fisca_typing.specs.declared.moves.Move.{Move}
use Rattle.fisca_typing.specs.Nodes as spec
use Rattle.fisca_typing.specs.Nodes.{Indices, no_index}
use Rattle.fisca_typing.specs.Things as things
use Rattle.fisca_typing.specs.Things.{Things}
use Rattle.fisca_ir.specs.declared.node.Node.{Node, fold-Node}
use Rattle.fisca_ir.specs.declared.node.Node.TheOpen.{Node-F, Pair-F, Totalled-F, Parameter-F, Index-F, ScaleSum-F}
use Rattle.fisca_ir.specs.declared.node.Index.{Index, fold-Index}
use Rattle.fisca_ir.specs.declared.thing.Typed.{Typed}
use Rattle.fisca_ir.specs.declared.thing.Chosen.{Chosen}
use Rattle.fisca_ir.specs.declared.thing.Relation.{Relation}
use Rattle.fisca_ir.specs.declared.thing.Thing.{Thing, fold-Thing}
use Rattle.fisca_ir.specs.declared.thing.Thing.TheOpen.{Thing-F}

-- Nodes

-- a member that chooses, and how many its Enum has
pub record Indexed : Type 0 where
  pub member : spec.Node
  pub size : ℕ

pub record Paired : Type 0 where
  pub left : spec.Node
  pub right : spec.Node

pub record Parametric : Type 0 where
  pub indices : Indices
  pub places : List ℕ
  pub moves : List Move

pub record Scaled : Type 0 where
  pub place : ℕ
  pub moves : List Move
  pub base : spec.Node

pub record Summed : Type 0 where
  pub role : Option RolePlace
  pub values : spec.Node

abbrev pub in_order : List Indexed → Indices
in_order [] = no_index
in_order (i ∷ is) = spec.index i.member i.size (in_order is)

abbrev pub node_step : Node-F spec.Node Indexed Paired Parametric Scaled Summed → spec.Node
node_step (Node-F.Literal n) = spec.literal n
node_step (Node-F.Truth b) = spec.truth b
node_step (Node-F.Member e i) = spec.member e i
node_step (Node-F.Local i) = spec.local i
node_step (Node-F.DatePart p ms) = spec.date_part p ms.value.items
node_step (Node-F.Ask a) = spec.ask a.value.variable a.value.whom a.value.asking a.value.moves.items
node_step (Node-F.HasRole g r) = spec.has_role g r.value
node_step (Node-F.Count g r) = spec.count g (option_map (λ b. b.value) r)
node_step (Node-F.Total t x) = spec.total t x.value.role x.value.values
node_step (Node-F.Unary o n) = spec.unary o n.value
node_step (Node-F.Arithmetic o x) = spec.arithmetic o x.value.left x.value.right
node_step (Node-F.Logic o x) = spec.logic o x.value.left x.value.right
node_step (Node-F.Comparison o x) = spec.comparison o x.value.left x.value.right
node_step (Node-F.Same x) = spec.same x.value.left x.value.right
node_step (Node-F.Choose c x) = spec.choose c.value x.value.left x.value.right
node_step (Node-F.Parameter x) = spec.parameter x.value.indices x.value.places x.value.moves
node_step (Node-F.ScaleSum x) = spec.scale_sum x.value.place x.value.moves x.value.base

abbrev pub index_step : Index-F spec.Node Indexed Paired Parametric Scaled Summed → Indexed
index_step i = record { member = i.member.value; size = i.size }

abbrev pub pair_step : Pair-F spec.Node Indexed Paired Parametric Scaled Summed → Paired
pair_step p = record { left = p.left; right = p.right }

abbrev pub parameter_step : Parameter-F spec.Node Indexed Paired Parametric Scaled Summed → Parametric
parameter_step p = record { indices = in_order p.indices.items; places = p.places.value.items; moves = p.moves.items }

abbrev pub scale_step : ScaleSum-F spec.Node Indexed Paired Parametric Scaled Summed → Scaled
scale_step s = record { place = s.place; moves = s.moves.items; base = s.base }

abbrev pub totalled_step : Totalled-F spec.Node Indexed Paired Parametric Scaled Summed → Summed
totalled_step t = record { role = t.role; values = t.values }

abbrev pub node : Node → spec.Node
node = fold-Node spec.Node Indexed Paired Parametric Scaled Summed node_step index_step pair_step parameter_step scale_step totalled_step

abbrev pub index_view : Index → Indexed
index_view = fold-Index spec.Node Indexed Paired Parametric Scaled Summed node_step index_step pair_step parameter_step scale_step totalled_step

abbrev pub indices : List Index → Indices
indices is = in_order (map index_view is)

-- Things

abbrev pub typed : Typed → things.Typed
typed t = record { value_type = t.value_type; level = t.level; node = node t.node }

abbrev pub chosen : Chosen → things.Chosen
chosen c = record { level = c.level; indices = indices c.indices.items; places = c.places.value.items; moves = c.moves }

abbrev pub relation : Relation → things.Relation
relation r = record { whom = r.whom; entity = r.entity }

abbrev pub all_things : List things.Thing → Things
all_things [] = things.none
all_things (x ∷ xs) = things.more x (all_things xs)

abbrev pub thing_step : Thing-F things.Thing → things.Thing
thing_step (Thing-F.Value v) = things.value (typed v)
thing_step (Thing-F.Period ms) = things.period ms
thing_step (Thing-F.Start ms) = things.start ms
thing_step (Thing-F.Offset ms) = things.offset ms
thing_step Thing-F.Reader = things.reader
thing_step (Thing-F.Nodes c) = things.nodes (chosen c.value)
thing_step (Thing-F.Scale n ms) = things.scale n ms
thing_step (Thing-F.Calculation n ms) = things.calculation n ms
thing_step (Thing-F.Enumeration e) = things.enumeration e
thing_step (Thing-F.Choices e) = things.choices e
thing_step (Thing-F.Entity g) = things.entity g
thing_step (Thing-F.Role g r) = things.role g r
thing_step Thing-F.Asker = things.asker
thing_step (Thing-F.Method m r) = things.method m (option_map relation r)
thing_step (Thing-F.GroupCount g) = things.group_count g
thing_step Thing-F.Library = things.library
thing_step (Thing-F.Function f) = things.function f
thing_step (Thing-F.Asking a) = things.option a
thing_step (Thing-F.Text t) = things.text (string_bytes t)
thing_step (Thing-F.Listed xs) = things.listed (all_things xs.items)

abbrev pub thing : Thing → things.Thing
thing = fold-Thing things.Thing thing_step

abbrev pub listed : List Thing → Things
listed xs = all_things (map thing xs)
