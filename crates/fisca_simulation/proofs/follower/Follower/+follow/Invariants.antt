use Rattle.std.proofs.Common.{◌≡◌, ◌≤◌, ◌+◌, ◌*◌, ◌++◌, ℕ, List}
use Rattle.fisca_ir.specs.declared.node.Node.{Node}
use Rattle.fisca_machine.specs.Context.{groups}
use Rattle.fisca_machine.specs.Running.{from, parametric}
use Rattle.fisca_machine.specs.Weights.{indices_weighing, persons_weight, weighing}
use Rattle.fisca_machine.specs.declared.pending.At.{At}
use Rattle.fisca_model.specs.Seen.{value_seen}
use Rattle.fisca_ops.specs.Persons.{persons_from}
use Rattle.fisca_ops.specs.Totals.{step_of}
use Rattle.fisca_simulation.specs.Followers.{tells, tells_for}
use Rattle.fisca_simulation.specs.NotedFormulas.{in_turn}
use Rattle.fisca_simulation.specs.declared.follower.Follower.{Follower}
use Rattle.fisca_simulation.specs.declared.note.Note.{Note}
use Rattle.fisca_simulation.proofs.Playing.{Leads}
use Rattle.fisca_simulation.proofs.follower.Follower.+follow.Given as goal

-- the weight of a node, which that of each part of it is below
abbrev weight_of : {A : Type 0} → Follower A → Node → At → ℕ
weight_of s e at = weighing s.context s.locals.now s.frame e at

abbrev pub decreases-node : goal.decreases-node
decreases-node g l = 4 * weight_of l.self.now l.node.now l.at + 3

abbrev pub decreases-plain : goal.decreases-plain
decreases-plain g l = 4 * weight_of l.self.now l.node.now l.at + 2

abbrev pub decreases-one : goal.decreases-one
decreases-one g l = 4 * weight_of l.self.now l.operand.now l.at + 4

abbrev pub decreases-two : goal.decreases-two
decreases-two g l = 4 * (weight_of l.self.now l.pair.now.left l.at + weight_of l.self.now l.pair.now.right l.at) + 4

abbrev pub decreases-turn : goal.decreases-turn
decreases-turn g l =
    4 * persons_weight (weight_of l.self.now l.x.now.values l.at) (persons_from (groups l.self.now.context) l.self.now.frame.entity l.self.now.frame.member l.x.now.role l.next) + 3

abbrev pub decreases-first : goal.decreases-first
decreases-first g l =
    4 * persons_weight (weight_of l.self.now l.x.now.values l.at) (persons_from (groups l.self.now.context) l.self.now.frame.entity l.self.now.frame.member l.x.now.role 0) + 4

abbrev pub decreases-total : goal.decreases-total
decreases-total g l =
    4 * persons_weight (weight_of l.self.now l.x.now.values l.at) (persons_from (groups l.self.now.context) l.self.now.frame.entity l.self.now.frame.member l.x.now.role 0) + 5

abbrev pub decreases-index : goal.decreases-index
decreases-index g l = 4 * indices_weighing l.self.now.context l.self.now.locals.now l.self.now.frame (from l.next (parametric l.x.now).indices) l.at + 4

abbrev pub decreases-parameter : goal.decreases-parameter
decreases-parameter g l = 4 * indices_weighing l.self.now.context l.self.now.locals.now l.self.now.frame (parametric l.x.now).indices l.at + 5

abbrev pub decreases-scale : goal.decreases-scale
decreases-scale g l = 4 * weight_of l.self.now l.x.now.base l.at + 5

-- what is left of a chain of choices leads to the end of the whole
abbrev pub invariant-node-choices : goal.invariant-node-choices
invariant-node-choices g l =
    (done : List Note) × (l.notes ≡ l.fn.notes ++ done) × Leads (g.A.Answering.answers l.self.answers.now) (tells l.self l.node l.at) done (tells l.self l.here l.at)
    × (weight_of l.self l.here l.at ≤ weight_of l.self l.node l.at)

abbrev pub decreases-node-choices : goal.decreases-node-choices
decreases-node-choices g l = weight_of l.self l.here l.at

-- the persons that are left lead to the end of the whole
abbrev pub invariant-turn-persons : goal.invariant-turn-persons
invariant-turn-persons g l =
    (done : List Note) × (l.notes ≡ l.fn.notes ++ done)
    × Leads (g.A.Answering.answers l.self.answers.now)
    (in_turn (step_of l.total) (tells_for l.self l.x.values l.at) (persons_from (groups l.self.context) l.self.frame.entity l.self.frame.member l.x.role l.fn.next) (value_seen l.fn.sum)) done
    (in_turn (step_of l.total) (tells_for l.self l.x.values l.at) (persons_from (groups l.self.context) l.self.frame.entity l.self.frame.member l.x.role l.next) (value_seen l.sum))
    × (persons_weight (weight_of l.self l.x.values l.at) (persons_from (groups l.self.context) l.self.frame.entity l.self.frame.member l.x.role l.next)
    ≤ persons_weight (weight_of l.self l.x.values l.at) (persons_from (groups l.self.context) l.self.frame.entity l.self.frame.member l.x.role l.fn.next))

abbrev pub decreases-turn-persons : goal.decreases-turn-persons
decreases-turn-persons g l = persons_weight (weight_of l.self l.x.values l.at) (persons_from (groups l.self.context) l.self.frame.entity l.self.frame.member l.x.role l.next)
