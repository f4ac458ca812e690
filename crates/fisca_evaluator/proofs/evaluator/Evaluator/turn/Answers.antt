use Rattle.fisca_situations.specs.Views.{slot as slot_view}
use Rattle.fisca_evaluator.proofs.Turning.{slot_still, with_inputs}
use Rattle.fisca_evaluator.specs.Evaluators.{marks_in, simulation_of}
use Rattle.fisca_evaluator.proofs.evaluator.Evaluator.turn.Goals as goal

pub returns-clause-memory : goal.returns-clause-memory
returns-clause-memory g c memory =
    let e = c.args.self.now in
    let still = slot_still (marks_in e) (slot_view c.args.slot.now) c.args.value (simulation_of e) (simulation_of c.turn_wheel.new.self) c.turn.new.inputs c.requires.marked
    c.turn_wheel.ensures.same c.turn.ensures in
    c.turn_wheel.ensures.memory (with_inputs (simulation_of c.turn_wheel.new.self) c.turn.new.inputs) still memory
