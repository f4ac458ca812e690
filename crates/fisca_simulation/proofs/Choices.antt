-- A chain of choices, link by link.
use Rattle.std.proofs.Common.{◌≡◌, ◌+◌, ap, Box, Global}
use Rattle.fisca_ir.specs.declared.node.Node.{Node}
use Rattle.fisca_ir.specs.declared.node.Node.TheVariants as held
use Rattle.fisca_ir.specs.declared.node.Pair.{Pair}
use Rattle.fisca_machine.proofs.Boxed.{choose_seen}
use Rattle.fisca_machine.specs.Context.{groups, tables}
use Rattle.fisca_machine.specs.Weights.{weight, weight_below, weighing}
use Rattle.fisca_machine.specs.declared.pending.At.{At}
use Rattle.fisca_simulation.specs.Followers.{locals_at, point_of, tells}
use Rattle.fisca_simulation.specs.NotedFormulas.{chosen, noted}
use Rattle.fisca_simulation.specs.Noted.{behind}
use Rattle.fisca_simulation.specs.declared.follower.Follower.{Follower}

-- what a choice asks for: its condition, and then one of two
pub choose_told : {A : Type 0} (s : Follower A) (e : Node) (at : At) (q : Box Node Global) (x : Box Pair Global) → e ≡ held.Choose q x
    → tells s e at ≡ behind (tells s q.value at) (λ v. chosen v (tells s x.value.left at) (tells s x.value.right at))
choose_told s e at q x is = ap (λ n. noted (tables s.context) (groups s.context) (locals_at s at) n (point_of s at)) (choose_seen e q x is)

-- what it weighs
pub choose_weighs : {A : Type 0} (s : Follower A) (e : Node) (at : At) (q : Box Node Global) (x : Box Pair Global) → e ≡ held.Choose q x
    → weighing s.context s.locals.now s.frame e at
    ≡ weighing s.context s.locals.now s.frame q.value at + (weighing s.context s.locals.now s.frame x.value.left at + weighing s.context s.locals.now s.frame x.value.right at + 2)
choose_weighs s e at q x is = ap (λ n. weight (groups s.context) s.frame (weight_below (groups s.context) s.frame s.locals.now at.visible) n) (choose_seen e q x is)
