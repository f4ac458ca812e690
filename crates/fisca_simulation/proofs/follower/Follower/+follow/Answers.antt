use Rattle.std.proofs.Common.{◌≡◌, [], Ok, Err, refl, sym, ap, subst, arith, append-nil, ◌∙◌}
use Rattle.std.proofs.lemmas.Result.{err_from_is_err_and}
use Rattle.fisca_typing.specs.Answers.{unary_of}
use Rattle.fisca_typing.specs.Questions.{counted, part_of}
use Rattle.fisca_ir.specs.declared.node.Node.{Node}
use Rattle.fisca_ir.specs.declared.node.Pair.{Pair}
use Rattle.fisca_machine.proofs.Boxed.{arithmetic_seen, ask_seen, comparison_seen, logic_seen, parameter_seen, same_seen, scale_seen, total_seen}
use Rattle.fisca_machine.specs.Context.{groups, tables}
use Rattle.fisca_machine.specs.Weights.{indices_weighing, persons_weight, weighing}
use Rattle.fisca_model.specs.Seen.{value_seen}
use Rattle.fisca_model.specs.declared.value.Value.TheVariants as given
use Rattle.fisca_ops.specs.Totals.{step_of}
use Rattle.fisca_simulation.specs.Followers.{applied_to, point_of, tells, tells_for}
use Rattle.fisca_simulation.specs.NotedFormulas.{scale_at}
use Rattle.fisca_simulation.specs.Noted.{gives, unread}
use Rattle.fisca_simulation.specs.Played.{Moves, Plays, played}
use Rattle.fisca_simulation.specs.declared.note.Halted.TheVariants as halted
use Rattle.fisca_simulation.proofs.Choices.{choose_told, choose_weighs}
use Rattle.fisca_simulation.proofs.Days.{parameter_begins, parameter_on, scale_begins, scale_on}
use Rattle.fisca_simulation.proofs.NodeKinds.{at_hand, count_seen, date_seen, literal_seen, member_seen, not_stuck, place_seen, role_seen, told_as, truth_seen, unary_seen, unread_start, weighs_as}
use Rattle.fisca_simulation.proofs.Operands.{chosen_left, chosen_right, member_is, member_moving, number_is, number_moving, truth_moving}
use Rattle.fisca_simulation.proofs.Playing.{leads_moving, leads_plays, leads_same, moves_first, moves_next, plays_end, plays_next}
use Rattle.fisca_simulation.proofs.FollowedSteps.{at_once, left_ends, left_moves, one_ended, one_moving, right_ends, right_moves, two_ended, two_moving}
use Rattle.fisca_simulation.proofs.Turns.{ends_there, goes_on, left_moving, person_is, step_ends, step_moving, step_next, total_first, total_turn, turn_ends, turn_moving}
use Rattle.fisca_simulation.proofs.follower.Follower.+follow.Goals as goal

-- two operands

pub two-node-requires : goal.two-node-requires
two-node-requires g t c κs within =
    let s = c.args.self.now in
    (omega arith, (within, left_moves (g.A.Answering.answers s.answers.now) (applied_to c.args.operation) (tells s c.args.pair.now.left c.args.at) (tells s c.args.pair.now.right c.args.at) c.requires.moving))

pub two-node-requires-2 : goal.two-node-requires-2
two-node-requires-2 g t c κs within =
    let s = c.args.self.now in
    (omega arith, (within, right_moves (g.A.Answering.answers s.answers.now) (applied_to c.args.operation) (tells s c.args.pair.now.left c.args.at) (tells s c.args.pair.now.right c.args.at) c.in_ok-left.left c.args.notes.now c.node.new.notes c.requires.moving c.in_ok-left.ensures))

pub two-applied-requires : goal.two-applied-requires
two-applied-requires g t c =
    let s = c.args.self.now in
    two_moving (g.A.Answering.answers s.answers.now) (applied_to c.args.operation) (tells s c.args.pair.now.left c.args.at) (tells s c.args.pair.now.right c.args.at) c.in_ok-left.left c.in_ok-right.right c.args.notes.now c.node.new.notes c.node-2.new.notes c.requires.moving c.in_ok-left.ensures c.in_ok-right.ensures

pub two-returns : goal.two-returns
two-returns g t c =
    let s = c.args.self.now in
    two_ended (g.A.Answering.answers s.answers.now) (applied_to c.args.operation) (tells s c.args.pair.now.left c.args.at) (tells s c.args.pair.now.right c.args.at) c.in_ok-left.left c.in_ok-right.right c.ended.result c.applied.result c.args.notes.now c.node.new.notes c.node-2.new.notes c.in_ok-left.ensures c.in_ok-right.ensures c.applied.ensures c.ended.ensures

pub two-returns-in_err-left : goal.two-returns-in_err-left
two-returns-in_err-left g t c =
    let s = c.args.self.now in
    let p = err_from_is_err_and c.from_residual.result c.from_residual.ensures.1 in
    rw (p.1, p.2) (left_ends (g.A.Answering.answers s.answers.now) (applied_to c.args.operation) (tells s c.args.pair.now.left c.args.at) (tells s c.args.pair.now.right c.args.at) c.in_err-left.field-0.0 c.args.notes.now c.node.new.notes c.in_err-left.ensures)

pub two-returns-in_err-right : goal.two-returns-in_err-right
two-returns-in_err-right g t c =
    let s = c.args.self.now in
    let p = err_from_is_err_and c.from_residual-in_err-right.result c.from_residual-in_err-right.ensures.1 in
    rw (p.1, p.2) (right_ends (g.A.Answering.answers s.answers.now) (applied_to c.args.operation) (tells s c.args.pair.now.left c.args.at) (tells s c.args.pair.now.right c.args.at) c.in_ok-left.left c.in_err-right.field-0.0 c.args.notes.now c.node.new.notes c.node-2.new.notes c.in_ok-left.ensures c.in_err-right.ensures)

-- one operand

pub one-node-requires : goal.one-node-requires
one-node-requires g t c κs within =
    let s = c.args.self.now in
    (omega arith, (within, moves_first (g.A.Answering.answers s.answers.now) (tells s c.args.operand.now c.args.at) (λ x. unread (unary_of c.args.operation x)) c.requires.moving))

pub one-unary-requires : goal.one-unary-requires
one-unary-requires g t c =
    let s = c.args.self.now in
    one_moving (g.A.Answering.answers s.answers.now) (tells s c.args.operand.now c.args.at) (unary_of c.args.operation) c.in_ok-value.value c.args.notes.now c.node.new.notes c.requires.moving c.in_ok-value.ensures

pub one-returns : goal.one-returns
one-returns g t c =
    let s = c.args.self.now in
    one_ended (g.A.Answering.answers s.answers.now) (tells s c.args.operand.now c.args.at) (unary_of c.args.operation) c.in_ok-value.value c.ended.result c.unary.result c.args.notes.now c.node.new.notes c.in_ok-value.ensures c.unary.ensures c.ended.ensures

pub one-returns-in_err-value : goal.one-returns-in_err-value
one-returns-in_err-value g t c =
    let s = c.args.self.now in
    let p = err_from_is_err_and c.from_residual.result c.from_residual.ensures.1 in
    rw (p.1, p.2) (plays_end (g.A.Answering.answers s.answers.now) (tells s c.args.operand.now c.args.at) (λ x. unread (unary_of c.args.operation x)) c.in_err-value.field-0.0 c.args.notes.now c.node.new.notes c.in_err-value.ensures)

-- a total, person by person

pub turn-persons-init : goal.turn-persons-init
turn-persons-init g t c = ([], sym (append-nil _), (refl, refl), omega arith)

pub turn-node-requires : goal.turn-node-requires
turn-node-requires g t c κs within =
    let s = c.args.self.now in
    let x = c.args.x.now in
    let i = c.persons.invariant in
    let is = person_is (step_of c.args.total) (tells_for s x.values c.args.at) c.in-Some.person _ _ (value_seen c.persons.sum) c.in-Some.ensures in
    let lighter = rw c.in-Some.ensures at i.3 in
    (omega (arith, lighter), (within, turn_moving (g.A.Answering.answers s.answers.now) _ (tells_for s x.values c.args.at c.in-Some.person) _ (step_of c.args.total (value_seen c.persons.sum)) _ i.0 c.args.notes.now c.persons.notes i.2 is i.1 c.requires.moving))

pub turn-stepped-requires : goal.turn-stepped-requires
turn-stepped-requires g t c =
    let s = c.args.self.now in
    let x = c.args.x.now in
    let i = c.persons.invariant in
    let is = person_is (step_of c.args.total) (tells_for s x.values c.args.at) c.in-Some.person _ _ (value_seen c.persons.sum) c.in-Some.ensures in
    step_moving (g.A.Answering.answers s.answers.now) _ (tells_for s x.values c.args.at c.in-Some.person) _ (step_of c.args.total (value_seen c.persons.sum)) _ i.0 c.args.notes.now c.persons.notes i.2 is i.1 c.in_ok-value.value c.node.new.notes c.in_ok-value.ensures c.requires.moving

pub turn-persons-preserved : goal.turn-persons-preserved
turn-persons-preserved g t c =
    let s = c.args.self.now in
    let x = c.args.x.now in
    let i = c.persons.invariant in
    let is = person_is (step_of c.args.total) (tells_for s x.values c.args.at) c.in-Some.person _ _ (value_seen c.persons.sum) c.in-Some.ensures in
    let n = step_next (g.A.Answering.answers s.answers.now) _ (tells_for s x.values c.args.at c.in-Some.person) _ (step_of c.args.total (value_seen c.persons.sum)) _ i.0 c.args.notes.now c.persons.notes i.2 is i.1 c.in_ok-value.value c.node.new.notes c.in_ok-value.ensures c.in_ok-sum.sum c.stepped.result c.stepped.ensures c.in_ok-sum.ensures in
    let lighter = rw c.in-Some.ensures at i.3 in
    (n.0, n.1, n.2, omega (arith, lighter))

pub turn-returns : goal.turn-returns
turn-returns g t c =
    let s = c.args.self.now in
    let i = c.persons.invariant in
    let nobody = rw c.in_default.ensures at i.2 in
    leads_plays (g.A.Answering.answers s.answers.now) _ (gives (value_seen c.persons.sum)) i.0 c.args.notes.now c.persons.notes c.persons.notes (Ok c.persons.sum) nobody i.1 (refl, sym (append-nil _))

pub turn-returns-in_err-value : goal.turn-returns-in_err-value
turn-returns-in_err-value g t c =
    let s = c.args.self.now in
    let x = c.args.x.now in
    let i = c.persons.invariant in
    let p = err_from_is_err_and c.from_residual.result c.from_residual.ensures.1 in
    let is = person_is (step_of c.args.total) (tells_for s x.values c.args.at) c.in-Some.person _ _ (value_seen c.persons.sum) c.in-Some.ensures in
    rw (p.1, p.2) (turn_ends (g.A.Answering.answers s.answers.now) _ (tells_for s x.values c.args.at c.in-Some.person) _ (step_of c.args.total (value_seen c.persons.sum)) _ i.0 c.args.notes.now c.persons.notes i.2 is i.1 c.in_err-value.field-0.0 c.node.new.notes c.in_err-value.ensures)

pub turn-returns-in_err-sum : goal.turn-returns-in_err-sum
turn-returns-in_err-sum g t c =
    let s = c.args.self.now in
    let x = c.args.x.now in
    let i = c.persons.invariant in
    let p = err_from_is_err_and c.from_residual-in_err-sum.result c.from_residual-in_err-sum.ensures.1 in
    let is = person_is (step_of c.args.total) (tells_for s x.values c.args.at) c.in-Some.person _ _ (value_seen c.persons.sum) c.in-Some.ensures in
    rw (p.1, p.2) (step_ends (g.A.Answering.answers s.answers.now) _ (tells_for s x.values c.args.at c.in-Some.person) _ (step_of c.args.total (value_seen c.persons.sum)) _ i.0 c.args.notes.now c.persons.notes i.2 is i.1 c.in_ok-value.value c.node.new.notes c.in_ok-value.ensures c.in_err-sum.field-0.0 c.stepped.result c.stepped.ensures c.in_err-sum.ensures)

-- the first person

pub first-node-requires : goal.first-node-requires
first-node-requires g t c κs within =
    let s = c.args.self.now in
    let moving = rw c.in-Some.ensures at c.requires.moving in
    let lighter = ap (persons_weight (weighing s.context s.locals.now s.frame c.args.x.now.values c.args.at)) c.in-Some.ensures in
    (omega (arith, lighter), (within, moves_first (g.A.Answering.answers s.answers.now) (tells_for s c.args.x.now.values c.args.at c.in-Some.person) _ moving))

pub first-number_of-requires : goal.first-number_of-requires
first-number_of-requires g t c =
    let s = c.args.self.now in
    let W = g.A.Answering.answers s.answers.now in
    let moving = rw c.in-Some.ensures at c.requires.moving in
    number_moving W (value_seen c.in_ok-value-in-Some.value) _ (moves_next W (tells_for s c.args.x.now.values c.args.at c.in-Some.person) _ (value_seen c.in_ok-value-in-Some.value) moving c.in_ok-value-in-Some.ensures.0)

pub first-turn-requires : goal.first-turn-requires
first-turn-requires g t c κs within =
    let s = c.args.self.now in
    let W = g.A.Answering.answers s.answers.now in
    let moving = rw c.in-Some.ensures at c.requires.moving in
    let lighter = ap (persons_weight (weighing s.context s.locals.now s.frame c.args.x.now.values c.args.at)) c.in-Some.ensures in
    (omega (arith, lighter), (within, subst (Moves W) (number_is (value_seen c.in_ok-value-in-Some.value) c.number_of.result c.number_of.ensures _) (moves_next W (tells_for s c.args.x.now.values c.args.at c.in-Some.person) _ (value_seen c.in_ok-value-in-Some.value) moving c.in_ok-value-in-Some.ensures.0)))

pub first-returns-in_ok-value-in-Some : goal.first-returns-in_ok-value-in-Some
first-returns-in_ok-value-in-Some g t c =
    let s = c.args.self.now in
    let W = g.A.Answering.answers s.answers.now in
    rw c.in-Some.ensures (plays_next W (tells_for s c.args.x.now.values c.args.at c.in-Some.person) _ c.in_ok-value-in-Some.value c.turn.result c.args.notes.now c.node.new.notes c.turn.new.notes c.in_ok-value-in-Some.ensures
    (subst (λ d. Plays c.turn.result c.node.new.notes c.turn.new.notes (played W d)) (sym (number_is (value_seen c.in_ok-value-in-Some.value) c.number_of.result c.number_of.ensures _)) c.turn.ensures))

pub first-returns-in_err-value-in-Some : goal.first-returns-in_err-value-in-Some
first-returns-in_err-value-in-Some g t c =
    let s = c.args.self.now in
    let p = err_from_is_err_and c.from_residual.result c.from_residual.ensures.1 in
    rw (p.1, p.2, c.in-Some.ensures) (plays_end (g.A.Answering.answers s.answers.now) (tells_for s c.args.x.now.values c.args.at c.in-Some.person) _ c.in_err-value-in-Some.field-0.0 c.args.notes.now c.node.new.notes c.in_err-value-in-Some.ensures)

pub first-returns-in-None : goal.first-returns-in-None
first-returns-in-None g t c = rw c.in-None.ensures (refl, sym (append-nil _))

-- a total

pub total-first-requires : goal.total-first-requires
total-first-requires g t c κs within =
    let s = c.args.self.now in
    (omega arith, (within, subst (Moves (g.A.Answering.answers s.answers.now)) (total_first c.args.total _ _ (sym c.in-None.ensures)) c.requires.moving))

pub total-turn-requires : goal.total-turn-requires
total-turn-requires g t c κs within =
    let s = c.args.self.now in
    (omega arith, (within, subst (Moves (g.A.Answering.answers s.answers.now)) (total_turn c.args.total _ _ (value_seen c.in-Some.sum) (sym c.in-Some.ensures)) c.requires.moving))

pub total-returns-in-None : goal.total-returns-in-None
total-returns-in-None g t c =
    let s = c.args.self.now in
    subst (λ d. Plays c.first.result c.args.notes.now c.first.new.notes (played (g.A.Answering.answers s.answers.now) d)) (sym (total_first c.args.total _ _ (sym c.in-None.ensures))) c.first.ensures

pub total-returns-in-Some : goal.total-returns-in-Some
total-returns-in-Some g t c =
    let s = c.args.self.now in
    subst (λ d. Plays c.turn.result c.args.notes.now c.turn.new.notes (played (g.A.Answering.answers s.answers.now) d)) (sym (total_turn c.args.total _ _ (value_seen c.in-Some.sum) (sym c.in-Some.ensures))) c.turn.ensures

-- the members that choose a parameter

pub index-read-requires : goal.index-read-requires
index-read-requires g t c = record { moving = rw c.in-None.ensures at c.requires.moving }

pub index-node-requires : goal.index-node-requires
index-node-requires g t c κs within =
    let s = c.args.self.now in
    let moving = rw c.in-Some.ensures at c.requires.moving in
    let lighter = ap (λ is. indices_weighing s.context s.locals.now s.frame is c.args.at) c.in-Some.ensures in
    (omega (arith, lighter), (within, moves_first (g.A.Answering.answers s.answers.now) (tells s c.in-Some.choice.member.now c.args.at) _ moving))

pub index-member_of-requires : goal.index-member_of-requires
index-member_of-requires g t c =
    let s = c.args.self.now in
    let W = g.A.Answering.answers s.answers.now in
    let moving = rw c.in-Some.ensures at c.requires.moving in
    member_moving W (value_seen c.in_ok-value-in-Some.value) _ (moves_next W (tells s c.in-Some.choice.member.now c.args.at) _ (value_seen c.in_ok-value-in-Some.value) moving c.in_ok-value-in-Some.ensures.0)

pub index-index-requires : goal.index-index-requires
index-index-requires g t c κs within =
    let s = c.args.self.now in
    let W = g.A.Answering.answers s.answers.now in
    let moving = rw c.in-Some.ensures at c.requires.moving in
    let lighter = ap (λ is. indices_weighing s.context s.locals.now s.frame is c.args.at) c.in-Some.ensures in
    let there = subst (Moves W) (member_is (value_seen c.in_ok-value-in-Some.value) c.member_of.result c.member_of.ensures _) (moves_next W (tells s c.in-Some.choice.member.now c.args.at) _ (value_seen c.in_ok-value-in-Some.value) moving c.in_ok-value-in-Some.ensures.0) in
    (omega (arith, lighter), (within, rw c.in-Some-chosen_behind.ensures there))

pub index-returns-in-None : goal.index-returns-in-None
index-returns-in-None g t c = rw c.in-None.ensures c.read.ensures

pub index-returns-in-Some-chosen_behind : goal.index-returns-in-Some-chosen_behind
index-returns-in-Some-chosen_behind g t c =
    let s = c.args.self.now in
    let W = g.A.Answering.answers s.answers.now in
    let last = rw c.in-Some-chosen_behind.ensures at c.index.ensures in
    rw c.in-Some.ensures (plays_next W (tells s c.in-Some.choice.member.now c.args.at) _ c.in_ok-value-in-Some.value c.index.result c.args.notes.now c.node.new.notes c.index.new.notes c.in_ok-value-in-Some.ensures
    (subst (λ d. Plays c.index.result c.node.new.notes c.index.new.notes (played W d)) (sym (member_is (value_seen c.in_ok-value-in-Some.value) c.member_of.result c.member_of.ensures _)) last))

pub index-returns-in_err-value-in-Some : goal.index-returns-in_err-value-in-Some
index-returns-in_err-value-in-Some g t c =
    let s = c.args.self.now in
    let p = err_from_is_err_and c.from_residual.result c.from_residual.ensures.1 in
    rw (p.1, p.2, c.in-Some.ensures) (plays_end (g.A.Answering.answers s.answers.now) (tells s c.in-Some.choice.member.now c.args.at) _ c.in_err-value-in-Some.field-0.0 c.args.notes.now c.node.new.notes c.in_err-value-in-Some.ensures)

-- a parameter

pub parameter-index-requires : goal.parameter-index-requires
parameter-index-requires g t c κs within =
    let s = c.args.self.now in
    let begun = parameter_begins s c.args.x.now c.args.at c.as_slice.result.now c.as_slice.ensures.value in
    (omega arith, (within, subst (Moves (g.A.Answering.answers s.answers.now)) (begun ∙ c.in-Ok.ensures (parameter_on s c.args.x.now c.args.at)) c.requires.moving))

pub parameter-returns-in-Ok : goal.parameter-returns-in-Ok
parameter-returns-in-Ok g t c =
    let s = c.args.self.now in
    let begun = parameter_begins s c.args.x.now c.args.at c.as_slice.result.now c.as_slice.ensures.value in
    subst (λ d. Plays c.index.result c.args.notes.now c.index.new.notes (played (g.A.Answering.answers s.answers.now) d)) (sym (begun ∙ c.in-Ok.ensures (parameter_on s c.args.x.now c.args.at))) c.index.ensures

pub parameter-returns-in-Err : goal.parameter-returns-in-Err
parameter-returns-in-Err g t c =
    let s = c.args.self.now in
    let begun = parameter_begins s c.args.x.now c.args.at c.as_slice.result.now c.as_slice.ensures.value in
    subst (λ d. Plays (Err (halted.Fault c.in-Err.fault)) c.args.notes.now c.args.notes.now (played (g.A.Answering.answers s.answers.now) d)) (sym (begun ∙ c.in-Err.ensures (parameter_on s c.args.x.now c.args.at))) (refl, sym (append-nil _))

pub scale-node-requires : goal.scale-node-requires
scale-node-requires g t c κs within =
    let s = c.args.self.now in
    let begun = scale_begins s c.args.x.now c.args.at c.as_slice.result.now c.as_slice.ensures.value in
    let W = g.A.Answering.answers s.answers.now in
    (omega arith, (within, moves_first W (tells s c.args.x.now.base c.args.at) _ (subst (Moves W) (begun ∙ c.in-Ok.ensures (scale_on s c.args.x.now c.args.at)) c.requires.moving)))

pub scale-sum_for-requires : goal.scale-sum_for-requires
scale-sum_for-requires g t c =
    let s = c.args.self.now in
    let begun = scale_begins s c.args.x.now c.args.at c.as_slice.result.now c.as_slice.ensures.value in
    let W = g.A.Answering.answers s.answers.now in
    record { moving = moves_next W (tells s c.args.x.now.base c.args.at) _ (value_seen c.in_ok-value-in-Ok.value) (subst (Moves W) (begun ∙ c.in-Ok.ensures (scale_on s c.args.x.now c.args.at)) c.requires.moving) c.in_ok-value-in-Ok.ensures.0 }

pub scale-returns-in_ok-value-in-Ok : goal.scale-returns-in_ok-value-in-Ok
scale-returns-in_ok-value-in-Ok g t c =
    let s = c.args.self.now in
    let begun = scale_begins s c.args.x.now c.args.at c.as_slice.result.now c.as_slice.ensures.value in
    let W = g.A.Answering.answers s.answers.now in
    let all = plays_next W (tells s c.args.x.now.base c.args.at) (scale_at (tables s.context) c.args.x.now.place c.in-Ok.day) c.in_ok-value-in-Ok.value c.sum_for.result c.args.notes.now c.node.new.notes c.sum_for.new.notes c.in_ok-value-in-Ok.ensures c.sum_for.ensures in
    subst (λ d. Plays c.sum_for.result c.args.notes.now c.sum_for.new.notes (played W d)) (sym (begun ∙ c.in-Ok.ensures (scale_on s c.args.x.now c.args.at))) all

pub scale-returns-in-Err : goal.scale-returns-in-Err
scale-returns-in-Err g t c =
    let s = c.args.self.now in
    let begun = scale_begins s c.args.x.now c.args.at c.as_slice.result.now c.as_slice.ensures.value in
    subst (λ d. Plays (Err (halted.Fault c.in-Err.fault)) c.args.notes.now c.args.notes.now (played (g.A.Answering.answers s.answers.now) d)) (sym (begun ∙ c.in-Err.ensures (scale_on s c.args.x.now c.args.at))) (refl, sym (append-nil _))

pub scale-returns-in_err-value-in-Ok : goal.scale-returns-in_err-value-in-Ok
scale-returns-in_err-value-in-Ok g t c =
    let s = c.args.self.now in
    let begun = scale_begins s c.args.x.now c.args.at c.as_slice.result.now c.as_slice.ensures.value in
    let W = g.A.Answering.answers s.answers.now in
    let p = err_from_is_err_and c.from_residual.result c.from_residual.ensures.1 in
    let all = plays_end W (tells s c.args.x.now.base c.args.at) (scale_at (tables s.context) c.args.x.now.place c.in-Ok.day) c.in_err-value-in-Ok.field-0.0 c.args.notes.now c.node.new.notes c.in_err-value-in-Ok.ensures in
    rw (p.1, p.2) (subst (λ d. Plays (Err c.in_err-value-in-Ok.field-0.0) c.args.notes.now c.node.new.notes (played W d)) (sym (begun ∙ c.in-Ok.ensures (scale_on s c.args.x.now c.args.at))) all)

-- a chain of choices

pub node-choices-init : goal.node-choices-init
node-choices-init g t c = ([], sym (append-nil _), (refl, refl), omega arith)

pub node-plain-requires : goal.node-plain-requires
node-plain-requires g t c κs within =
    let s = c.args.self.now in
    let i = c.choices.invariant in
    (omega (arith, i.3), (within, (leads_moving (g.A.Answering.answers s.answers.now) (tells s c.args.node.now c.args.at) (tells s c.choices.here.now c.args.at) i.0 i.2 c.requires.moving, c.in_default.not-Choose)))

pub node-returns-in_default : goal.node-returns-in_default
node-returns-in_default g t c =
    let s = c.args.self.now in
    let i = c.choices.invariant in
    leads_plays (g.A.Answering.answers s.answers.now) (tells s c.args.node.now c.args.at) (tells s c.choices.here.now c.args.at) i.0 c.args.notes.now c.choices.notes c.plain.new.notes c.plain.result i.2 i.1 c.plain.ensures

pub node-node-requires : goal.node-node-requires
node-node-requires g t c κs within =
    let s = c.args.self.now in
    let i = c.choices.invariant in
    let q = c.in-Choose.condition in
    let x = c.in-Choose.pair in
    let moving = left_moving (g.A.Answering.answers s.answers.now) (tells s c.args.node.now c.args.at) (tells s c.choices.here.now c.args.at) (tells s q.value c.args.at) _ i.0 c.args.notes.now c.choices.notes i.2 (choose_told s c.choices.here.now c.args.at q x c.in-Choose.is) i.1 c.requires.moving in
    rw c.deref.ensures (omega (arith, i.3, choose_weighs s c.choices.here.now c.args.at q x c.in-Choose.is), (within, moving))

pub node-truth_of-requires : goal.node-truth_of-requires
node-truth_of-requires g t c =
    let s = c.args.self.now in
    let W = g.A.Answering.answers s.answers.now in
    let i = c.choices.invariant in
    let q = c.in-Choose.condition in
    let x = c.in-Choose.pair in
    let n = goes_on W (tells s c.args.node.now c.args.at) (tells s c.choices.here.now c.args.at) (tells s q.value c.args.at) _ i.0 c.args.notes.now c.choices.notes i.2 (choose_told s c.choices.here.now c.args.at q x c.in-Choose.is) i.1 c.in_ok-value.value c.node.new.notes (rw c.deref.ensures at c.in_ok-value.ensures) in
    truth_moving W (value_seen c.in_ok-value.value) (tells s x.value.left c.args.at) (tells s x.value.right c.args.at) (leads_moving W (tells s c.args.node.now c.args.at) _ n.0 n.2 c.requires.moving)

pub node-node-requires-then-truth_of : goal.node-node-requires-then-truth_of
node-node-requires-then-truth_of g t c κs within =
    let s = c.args.self.now in
    let W = g.A.Answering.answers s.answers.now in
    let i = c.choices.invariant in
    let q = c.in-Choose.condition in
    let x = c.in-Choose.pair in
    let n = goes_on W (tells s c.args.node.now c.args.at) (tells s c.choices.here.now c.args.at) (tells s q.value c.args.at) _ i.0 c.args.notes.now c.choices.notes i.2 (choose_told s c.choices.here.now c.args.at q x c.in-Choose.is) i.1 c.in_ok-value.value c.node.new.notes (rw c.deref.ensures at c.in_ok-value.ensures) in
    let there : c.sides.result.0.now ≡ x.value.left = c.sides.ensures.left ∙ ap (λ (p : Pair). p.left) c.deref-in-choices.ensures in
    let left = chosen_left (value_seen c.in_ok-value.value) c.truth_of.result c.truth_of.ensures c.if-truth_of.true (tells s x.value.left c.args.at) (tells s x.value.right c.args.at) in
    let moving = subst (Moves W) (left ∙ ap (λ (e : Node). tells s e c.args.at) (sym there)) (leads_moving W (tells s c.args.node.now c.args.at) _ n.0 n.2 c.requires.moving) in
    (omega (arith, i.3, choose_weighs s c.choices.here.now c.args.at q x c.in-Choose.is, ap (λ (e : Node). weighing s.context s.locals.now s.frame e c.args.at) there), (within, moving))

pub node-returns-then-truth_of : goal.node-returns-then-truth_of
node-returns-then-truth_of g t c =
    let s = c.args.self.now in
    let W = g.A.Answering.answers s.answers.now in
    let i = c.choices.invariant in
    let q = c.in-Choose.condition in
    let x = c.in-Choose.pair in
    let n = goes_on W (tells s c.args.node.now c.args.at) (tells s c.choices.here.now c.args.at) (tells s q.value c.args.at) _ i.0 c.args.notes.now c.choices.notes i.2 (choose_told s c.choices.here.now c.args.at q x c.in-Choose.is) i.1 c.in_ok-value.value c.node.new.notes (rw c.deref.ensures at c.in_ok-value.ensures) in
    let there : c.sides.result.0.now ≡ x.value.left = c.sides.ensures.left ∙ ap (λ (p : Pair). p.left) c.deref-in-choices.ensures in
    let left = chosen_left (value_seen c.in_ok-value.value) c.truth_of.result c.truth_of.ensures c.if-truth_of.true (tells s x.value.left c.args.at) (tells s x.value.right c.args.at) in
    let lead = leads_same W (tells s c.args.node.now c.args.at) _ (tells s c.sides.result.0.now c.args.at) n.0 (left ∙ ap (λ (e : Node). tells s e c.args.at) (sym there)) n.2 in
    leads_plays W (tells s c.args.node.now c.args.at) (tells s c.sides.result.0.now c.args.at) n.0 c.args.notes.now c.node.new.notes c.node-then-truth_of.new.notes c.node-then-truth_of.result lead n.1 c.node-then-truth_of.ensures

pub node-choices-preserved : goal.node-choices-preserved
node-choices-preserved g t c =
    let s = c.args.self.now in
    let W = g.A.Answering.answers s.answers.now in
    let i = c.choices.invariant in
    let q = c.in-Choose.condition in
    let x = c.in-Choose.pair in
    let n = goes_on W (tells s c.args.node.now c.args.at) (tells s c.choices.here.now c.args.at) (tells s q.value c.args.at) _ i.0 c.args.notes.now c.choices.notes i.2 (choose_told s c.choices.here.now c.args.at q x c.in-Choose.is) i.1 c.in_ok-value.value c.node.new.notes (rw c.deref.ensures at c.in_ok-value.ensures) in
    let there : c.sides.result.1.now ≡ x.value.right = c.sides.ensures.right ∙ ap (λ (p : Pair). p.right) c.deref-in-choices.ensures in
    let right = chosen_right (value_seen c.in_ok-value.value) c.truth_of.result c.truth_of.ensures c.if-truth_of.false (tells s x.value.left c.args.at) (tells s x.value.right c.args.at) in
    (n.0, n.1, leads_same W (tells s c.args.node.now c.args.at) _ (tells s c.sides.result.1.now c.args.at) n.0 (right ∙ ap (λ (e : Node). tells s e c.args.at) (sym there)) n.2, omega (arith, i.3, choose_weighs s c.choices.here.now c.args.at q x c.in-Choose.is, ap (λ (e : Node). weighing s.context s.locals.now s.frame e c.args.at) there))

pub node-choices-smaller : goal.node-choices-smaller
node-choices-smaller g t c =
    let s = c.args.self.now in
    let x = c.in-Choose.pair in
    let there : c.sides.result.1.now ≡ x.value.right = c.sides.ensures.right ∙ ap (λ (p : Pair). p.right) c.deref-in-choices.ensures in
    omega (arith, choose_weighs s c.choices.here.now c.args.at c.in-Choose.condition x c.in-Choose.is, ap (λ (e : Node). weighing s.context s.locals.now s.frame e c.args.at) there)

pub node-returns-in_err-value : goal.node-returns-in_err-value
node-returns-in_err-value g t c =
    let s = c.args.self.now in
    let W = g.A.Answering.answers s.answers.now in
    let i = c.choices.invariant in
    let q = c.in-Choose.condition in
    let x = c.in-Choose.pair in
    let p = err_from_is_err_and c.from_residual.result c.from_residual.ensures.1 in
    rw (p.1, p.2) (ends_there W (tells s c.args.node.now c.args.at) (tells s c.choices.here.now c.args.at) (tells s q.value c.args.at) _ i.0 c.args.notes.now c.choices.notes i.2 (choose_told s c.choices.here.now c.args.at q x c.in-Choose.is) i.1 c.in_err-value.field-0.0 c.node.new.notes (rw c.deref.ensures at c.in_err-value.ensures))

-- a node that is no choice

pub plain-returns-in-Literal : goal.plain-returns-in-Literal
plain-returns-in-Literal g t c =
    let s = c.args.self.now in
    at_hand (g.A.Answering.answers s.answers.now) (tells s c.args.node.now c.args.at) (given.Number c.in-Literal.number) c.args.notes.now (told_as s c.args.node.now c.args.at _ (literal_seen c.args.node.now c.in-Literal.number c.in-Literal.is))

pub plain-returns-in-Truth : goal.plain-returns-in-Truth
plain-returns-in-Truth g t c =
    let s = c.args.self.now in
    at_hand (g.A.Answering.answers s.answers.now) (tells s c.args.node.now c.args.at) (given.Bool c.in-Truth.truth) c.args.notes.now (told_as s c.args.node.now c.args.at _ (truth_seen c.args.node.now c.in-Truth.truth c.in-Truth.is))

pub plain-returns-in-Member : goal.plain-returns-in-Member
plain-returns-in-Member g t c =
    let s = c.args.self.now in
    at_hand (g.A.Answering.answers s.answers.now) (tells s c.args.node.now c.args.at) (given.Member c.in-Member.place) c.args.notes.now (told_as s c.args.node.now c.args.at _ (member_seen c.args.node.now _ c.in-Member.place c.in-Member.is))

pub plain-local-requires : goal.plain-local-requires
plain-local-requires g t c =
    let s = c.args.self.now in
    record { seen = not_stuck (g.A.Answering.answers s.answers.now) (tells s c.args.node.now c.args.at) _ (told_as s c.args.node.now c.args.at _ (place_seen c.args.node.now c.in-Local.place c.in-Local.is)) c.requires.moving }

pub plain-node-requires : goal.plain-node-requires
plain-node-requires g t c κs within =
    let s = c.args.self.now in
    let seen = place_seen c.args.node.now c.in-Local.place c.in-Local.is in
    (omega (arith, weighs_as s c.args.node.now c.args.at _ seen, c.local.ensures.weight), (within, subst (Moves (g.A.Answering.answers s.answers.now)) (told_as s c.args.node.now c.args.at _ seen ∙ sym c.local.ensures.told) c.requires.moving))

pub plain-returns-in-Local : goal.plain-returns-in-Local
plain-returns-in-Local g t c =
    let s = c.args.self.now in
    let seen = place_seen c.args.node.now c.in-Local.place c.in-Local.is in
    subst (λ d. Plays c.node.result c.args.notes.now c.node.new.notes (played (g.A.Answering.answers s.answers.now) d)) (c.local.ensures.told ∙ sym (told_as s c.args.node.now c.args.at _ seen)) c.node.ensures

pub plain-total-requires : goal.plain-total-requires
plain-total-requires g t c κs within =
    let s = c.args.self.now in
    let seen = total_seen c.args.node.now c.in-Total.total c.in-Total.x c.in-Total.is in
    rw c.deref-in-Total.ensures (omega (arith, weighs_as s c.args.node.now c.args.at _ seen), (within, subst (Moves (g.A.Answering.answers s.answers.now)) (told_as s c.args.node.now c.args.at _ seen) c.requires.moving))

pub plain-two-requires : goal.plain-two-requires
plain-two-requires g t c κs within =
    let s = c.args.self.now in
    let seen = arithmetic_seen c.args.node.now c.in-Arithmetic.kind c.in-Arithmetic.pair c.in-Arithmetic.is in
    rw c.deref-in-Arithmetic.ensures (omega (arith, weighs_as s c.args.node.now c.args.at _ seen), (within, subst (Moves (g.A.Answering.answers s.answers.now)) (told_as s c.args.node.now c.args.at _ seen) c.requires.moving))

pub plain-two-requires-in-Logic : goal.plain-two-requires-in-Logic
plain-two-requires-in-Logic g t c κs within =
    let s = c.args.self.now in
    let seen = logic_seen c.args.node.now c.in-Logic.kind c.in-Logic.pair c.in-Logic.is in
    rw c.deref-in-Logic.ensures (omega (arith, weighs_as s c.args.node.now c.args.at _ seen), (within, subst (Moves (g.A.Answering.answers s.answers.now)) (told_as s c.args.node.now c.args.at _ seen) c.requires.moving))

pub plain-two-requires-in-Comparison : goal.plain-two-requires-in-Comparison
plain-two-requires-in-Comparison g t c κs within =
    let s = c.args.self.now in
    let seen = comparison_seen c.args.node.now c.in-Comparison.kind c.in-Comparison.pair c.in-Comparison.is in
    rw c.deref-in-Comparison.ensures (omega (arith, weighs_as s c.args.node.now c.args.at _ seen), (within, subst (Moves (g.A.Answering.answers s.answers.now)) (told_as s c.args.node.now c.args.at _ seen) c.requires.moving))

pub plain-two-requires-in-Same : goal.plain-two-requires-in-Same
plain-two-requires-in-Same g t c κs within =
    let s = c.args.self.now in
    let seen = same_seen c.args.node.now c.in-Same.pair c.in-Same.is in
    rw c.deref-in-Same.ensures (omega (arith, weighs_as s c.args.node.now c.args.at _ seen), (within, subst (Moves (g.A.Answering.answers s.answers.now)) (told_as s c.args.node.now c.args.at _ seen) c.requires.moving))

pub plain-one-requires : goal.plain-one-requires
plain-one-requires g t c κs within =
    let s = c.args.self.now in
    let seen = unary_seen c.args.node.now c.in-Unary.operation c.in-Unary.operand c.in-Unary.is in
    rw c.deref-in-Unary.ensures (omega (arith, weighs_as s c.args.node.now c.args.at _ seen), (within, subst (Moves (g.A.Answering.answers s.answers.now)) (told_as s c.args.node.now c.args.at _ seen) c.requires.moving))

pub plain-parameter-requires : goal.plain-parameter-requires
plain-parameter-requires g t c κs within =
    let s = c.args.self.now in
    let seen = parameter_seen c.args.node.now c.in-Parameter.x c.in-Parameter.is in
    rw c.deref-in-Parameter.ensures (omega (arith, weighs_as s c.args.node.now c.args.at _ seen), (within, subst (Moves (g.A.Answering.answers s.answers.now)) (told_as s c.args.node.now c.args.at _ seen) c.requires.moving))

pub plain-scale-requires : goal.plain-scale-requires
plain-scale-requires g t c κs within =
    let s = c.args.self.now in
    let seen = scale_seen c.args.node.now c.in-ScaleSum.x c.in-ScaleSum.is in
    rw c.deref-in-ScaleSum.ensures (omega (arith, weighs_as s c.args.node.now c.args.at _ seen), (within, subst (Moves (g.A.Answering.answers s.answers.now)) (told_as s c.args.node.now c.args.at _ seen) c.requires.moving))

pub plain-ask-requires : goal.plain-ask-requires
plain-ask-requires g t c =
    let s = c.args.self.now in
    let seen = ask_seen c.args.node.now c.in-Ask.ask c.in-Ask.is in
    rw c.deref-in-Ask.ensures (record { moving = subst (Moves (g.A.Answering.answers s.answers.now)) (told_as s c.args.node.now c.args.at _ seen) c.requires.moving })

pub plain-returns-in-Total : goal.plain-returns-in-Total
plain-returns-in-Total g t c = rw (total_seen c.args.node.now c.in-Total.total c.in-Total.x c.in-Total.is, sym c.deref-in-Total.ensures) c.total.ensures

pub plain-returns-in-Unary : goal.plain-returns-in-Unary
plain-returns-in-Unary g t c = rw (unary_seen c.args.node.now c.in-Unary.operation c.in-Unary.operand c.in-Unary.is, sym c.deref-in-Unary.ensures) c.one.ensures

pub plain-returns-in-Arithmetic : goal.plain-returns-in-Arithmetic
plain-returns-in-Arithmetic g t c = rw (arithmetic_seen c.args.node.now c.in-Arithmetic.kind c.in-Arithmetic.pair c.in-Arithmetic.is, sym c.deref-in-Arithmetic.ensures) c.two.ensures

pub plain-returns-in-Logic : goal.plain-returns-in-Logic
plain-returns-in-Logic g t c = rw (logic_seen c.args.node.now c.in-Logic.kind c.in-Logic.pair c.in-Logic.is, sym c.deref-in-Logic.ensures) c.two-in-Logic.ensures

pub plain-returns-in-Comparison : goal.plain-returns-in-Comparison
plain-returns-in-Comparison g t c = rw (comparison_seen c.args.node.now c.in-Comparison.kind c.in-Comparison.pair c.in-Comparison.is, sym c.deref-in-Comparison.ensures) c.two-in-Comparison.ensures

pub plain-returns-in-Same : goal.plain-returns-in-Same
plain-returns-in-Same g t c = rw (same_seen c.args.node.now c.in-Same.pair c.in-Same.is, sym c.deref-in-Same.ensures) c.two-in-Same.ensures

pub plain-returns-in-Parameter : goal.plain-returns-in-Parameter
plain-returns-in-Parameter g t c = rw (parameter_seen c.args.node.now c.in-Parameter.x c.in-Parameter.is, sym c.deref-in-Parameter.ensures) c.parameter.ensures

pub plain-returns-in-ScaleSum : goal.plain-returns-in-ScaleSum
plain-returns-in-ScaleSum g t c = rw (scale_seen c.args.node.now c.in-ScaleSum.x c.in-ScaleSum.is, sym c.deref-in-ScaleSum.ensures) c.scale.ensures

pub plain-returns-in-Ask : goal.plain-returns-in-Ask
plain-returns-in-Ask g t c = rw (ask_seen c.args.node.now c.in-Ask.ask c.in-Ask.is, sym c.deref-in-Ask.ensures) c.ask.ensures
