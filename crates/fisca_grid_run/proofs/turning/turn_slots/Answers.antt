use Rattle.std.proofs.Common.{◌≡◌, ◌<◌, ◌+◌, suc, length, sym, subst, arith}
use Rattle.fisca_grid.proofs.Groups.{length-axes_at}
use Rattle.fisca_grid.specs.Grid.{axes_at}
use Rattle.fisca_evaluator.specs.Evaluators.{AreMarked}
use Rattle.fisca_rows.proofs.Places.{get_there}
use Rattle.fisca_grid_run.proofs.OnTheWay.{IsOnTheWay, on_end, on_passed, on_start, on_turned}
use Rattle.fisca_situations.specs.Views.{slot as slot_view}
use Rattle.fisca_grid_run.proofs.turning.turn_slots.Goals as goal
use Rattle.fisca_grid_run.proofs.turning.turn_slots.Goals.{then-slot-turned, else-slot-turned}

pub turn-requires-clause-marked : goal.turn-requires-clause-marked
turn-requires-clause-marked g c =
    let s = c.index-slots-axis.result in
    let at = get_there c.args.slots.now c.loop-axis.axis s c.loop-axis-test.true c.index-slots-axis.is in
    subst (λ marks. AreMarked marks (slot_view s)) (sym c.loop-axis.invariant.marks) (c.requires.marked c.loop-axis.axis s at).1

pub loop-axis-preserved : goal.loop-axis-preserved
loop-axis-preserved g c =
    let find = g.R.Recall.find in
    let t = c.args.turned in
    let slots = c.args.slots.now in
    let axes = axes_at c.args.axes.now c.args.position in
    let i = c.loop-axis.axis in
    let s = c.index-slots-axis.result in
    let old = c.args.evaluator.now in
    let now = c.loop-axis.evaluator in
    let at = get_there slots i s c.loop-axis-test.true c.index-slots-axis.is in
    let inside : i < length axes = omega (arith, c.loop-axis-test.true, c.requires.many, length-axes_at c.args.axes.now c.args.position) in
    let next : suc i ≡ i + 1 = omega arith in
    elim c.if-slot-turned.branch [
      | then-slot-turned w ↦
          subst (λ e. IsOnTheWay find t slots axes (i + 1) old e) (sym w.evaluator-is)
          (subst (λ j. IsOnTheWay find t slots axes j old w.turn.new.self) next
          (on_turned find t slots axes i s old now w.turn.new.self at c.loop-axis.invariant w.step.result w.if-slot-turned.true inside w.step.ensures
          w.turn.ensures.situation w.turn.ensures.wheels w.turn.ensures.counts w.turn.ensures.dropped w.turn.ensures.memory))
      | else-slot-turned w ↦
          subst (λ e. IsOnTheWay find t slots axes (i + 1) old e) (sym w.evaluator-is)
          (subst (λ j. IsOnTheWay find t slots axes j old now) next (on_passed find t slots axes i s old now now at c.loop-axis.invariant w.if-slot-turned.false))
    ]

pub loop-axis-init : goal.loop-axis-init
loop-axis-init g c = on_start g.R.Recall.find c.args.turned c.args.slots.now (axes_at c.args.axes.now c.args.position) c.args.evaluator.now

pub returns : goal.returns
returns g c =
    let on = c.loop-axis.invariant in
    record {
      turned = on_end g.R.Recall.find c.args.turned c.args.slots.now (axes_at c.args.axes.now c.args.position) c.loop-axis.axis c.args.evaluator.now
          c.loop-axis.evaluator c.loop-axis-test.false on;
      marks = on.marks;
      memory = on.memory;
      counts = on.counts;
      just = on.just;
    }
