use Rattle.std.proofs.Common.{◌∙◌, refl, sym, subst, ap}
use Rattle.fisca_evaluator.proofs.Fitting.{numbers_fit}
use Rattle.fisca_evaluator.proofs.Turning.{slot_still, with_inputs}
use Rattle.fisca_inputs.specs.Entries.{Entries}
use Rattle.fisca_simulation.specs.Sound.{InputsFit}
use Rattle.fisca_situations.specs.Views.{slot as slot_view}
use Rattle.fisca_api.specs.Evaluators.{marks_in, simulation_of}
use Rattle.fisca_api.proofs.evaluator.Evaluator.turn.Goals as goal

pub returns-clause-ready : goal.returns-clause-ready
returns-clause-ready g c numbers ready =
    let e = c.args.self.now in
    let m = simulation_of e in
    let s = slot_view c.args.slot.now in
    let anew = with_inputs m c.turn.new.inputs in
    let still = slot_still (marks_in e) s c.args.value m m c.turn.new.inputs c.requires.marked refl c.turn.ensures in
    let fit = subst (λ (es : Entries). InputsFit m.rules (record { members = m.situation.members; inputs = es })) (sym c.turn.ensures) (numbers_fit s c.args.value m numbers ready.ready.fit) in
    record {
      ready = record { safe = ready.ready.safe; fit = fit };
      memory = c.turn_wheel.ensures.memory (marks_in e) m anew still ready.memory;
    }
