-- How many steps are left at most until a machine answers.
use Rattle.std.specs.Prelude.{ℕ, zero, suc, ◌+◌, ◌==◌, if◌then◌else◌, List, [], ◌∷◌, slice_get, Option, Some, None}
use Rattle.fisca_model.specs.Groups.{Groups}
use Rattle.fisca_ir.specs.Views.{node}
use Rattle.fisca_ir.specs.declared.node.Node.{Node as Held}
use Rattle.fisca_typing.specs.Nodes as node
use Rattle.fisca_typing.specs.Nodes.{Node, Indices, no_index, index}
use Rattle.fisca_ops.specs.Persons.{persons_from}
use Rattle.fisca_machine.specs.Running.{behind, below_frame, from, parametric}
use Rattle.fisca_machine.specs.Context.{groups}
use Rattle.fisca_machine.specs.declared.pending.At.{At}
use Rattle.fisca_machine.specs.declared.pending.Frame.{Frame}
use Rattle.fisca_machine.specs.declared.pending.Kept.{Kept}
use Rattle.fisca_machine.specs.declared.pending.Pending.{Pending}
use Rattle.fisca_machine.specs.declared.pending.Pending.TheVariants as then
use Rattle.fisca_machine.specs.declared.machine.Control.{Control}
use Rattle.fisca_machine.specs.declared.machine.Control.TheVariants.{Eval, Give}
use Rattle.fisca_machine.specs.declared.machine.Machine.{Machine}
use Rattle.fisca_machine.specs.declared.context.Context.{Context}

abbrev pub persons_weight : ℕ → List ℕ → ℕ
persons_weight each [] = 1
persons_weight each (m ∷ ms) = each + 1 + persons_weight each ms

abbrev mutual
  pub weight : Groups → Frame → (ℕ → ℕ) → Node → ℕ
  weight g f ls (node.literal n) = 1
  weight g f ls (node.truth b) = 1
  weight g f ls (node.member e i) = 1
  weight g f ls (node.local i) = 1 + ls i
  weight g f ls (node.date_part d ms) = 1
  weight g f ls (node.ask v w how ms) = 1
  weight g f ls (node.has_role e r) = 1
  weight g f ls (node.count e r) = 1
  weight g f ls (node.total o r a) = 1 + persons_weight (weight g f ls a) (persons_from g f.entity f.member r 0)
  weight g f ls (node.unary o a) = weight g f ls a + 2
  weight g f ls (node.arithmetic o a b) = weight g f ls a + (weight g f ls b + 3)
  weight g f ls (node.logic o a b) = weight g f ls a + (weight g f ls b + 3)
  weight g f ls (node.comparison o a b) = weight g f ls a + (weight g f ls b + 3)
  weight g f ls (node.same a b) = weight g f ls a + (weight g f ls b + 3)
  weight g f ls (node.choose q a b) = weight g f ls q + (weight g f ls a + weight g f ls b + 2)
  weight g f ls (node.parameter is places ms) = 1 + indices_weight g f ls is
  weight g f ls (node.scale_sum place ms a) = weight g f ls a + 2

  pub indices_weight : Groups → Frame → (ℕ → ℕ) → Indices → ℕ
  indices_weight g f ls no_index = 1
  indices_weight g f ls (index n size is) = weight g f ls n + 1 + indices_weight g f ls is

abbrev pub weight_or : Groups → Frame → (ℕ → ℕ) → Option Held → ℕ
weight_or g f ls None = 0
weight_or g f ls (Some e) = weight g f ls (node e)

unfoldable pub weight_below : Groups → Frame → List Held → ℕ → ℕ → ℕ
weight_below g f ns zero i = 0
weight_below g f ns (suc n) i = if i == n then weight_or g f (weight_below g f ns n) (slice_get ns n) else weight_below g f ns n i

abbrev pub weighing : Context → List Held → Frame → Held → At → ℕ
weighing w ns f e at = weight (groups w) f (weight_below (groups w) f ns at.visible) (node e)

abbrev pub indices_weighing : Context → List Held → Frame → Indices → At → ℕ
indices_weighing w ns f is at = indices_weight (groups w) f (weight_below (groups w) f ns at.visible) is

-- those behind the first
abbrev pub weighing_behind : Context → List Held → Frame → Indices → At → ℕ
weighing_behind w ns f no_index at = 1
weighing_behind w ns f (index n size is) at = indices_weighing w ns f is at

abbrev pub stack_weight : Context → List Held → Frame → List Pending → List Kept → ℕ
stack_weight w ns f [] vs = 0
stack_weight w ns f (then.Right o b at ∷ ks) vs = weighing w ns f b.now at + 2 + stack_weight w ns f ks vs
stack_weight w ns f (then.Apply o ∷ ks) vs = 1 + stack_weight w ns f ks (behind vs)
stack_weight w ns f (then.Unary o ∷ ks) vs = 1 + stack_weight w ns f ks vs
stack_weight w ns f (then.Choose a b at ∷ ks) vs = weighing w ns f a.now at + weighing w ns f b.now at + 1 + stack_weight w ns f ks vs
stack_weight w ns f (then.Turn o t i at ∷ ks) vs =
    persons_weight (weighing w ns f t.now.values at) (persons_from (groups w) f.entity f.member t.now.role i) + stack_weight w ns f ks (behind vs)
stack_weight w ns f (then.First o t i at ∷ ks) vs =
    persons_weight (weighing w ns f t.now.values at) (persons_from (groups w) f.entity f.member t.now.role i) + stack_weight w ns f ks vs
stack_weight w ns f (then.Part v m u i ∷ ks) vs = 1 + stack_weight w ns f ks (behind vs)
stack_weight w ns f (then.Share s ∷ ks) vs = 1 + stack_weight w ns f ks vs
stack_weight w ns f (then.Index a next i at ∷ ks) vs = weighing_behind w ns f (from next (parametric a.now).indices) at + stack_weight w ns f ks (behind vs)
stack_weight w ns f (then.Scale a ∷ ks) vs = 1 + stack_weight w ns f ks (behind vs)
stack_weight w ns f (then.Return ms t ∷ ks) vs = 1 + below_frame 0 vs (λ h ys. stack_weight w ms.now h ks ys)

abbrev pub load : Context → Machine → Control → ℕ
load w m (Eval e at) = weighing w m.locals.now m.frame e.now at + stack_weight w m.locals.now m.frame m.stack m.kept
load w m Give = stack_weight w m.locals.now m.frame m.stack m.kept
