use Rattle.std.proofs.Common.{ap, ◌∙◌}
use Rattle.fisca_evaluator.specs.Evaluators.{marks_in, simulation_of}
use Rattle.fisca_rules.specs.Views.{rule_set}
use Rattle.fisca_grid_run.proofs.Begun.{kept_begun}
use Rattle.fisca_run_file.specs.Views.{file_with}
use Rattle.fisca_situations.specs.Steps.Views.{situation}
use Rattle.fisca_grid_run.proofs.beginning.evaluator_of.Goals as goal

pub returns-clause-kept : goal.returns-clause-kept
returns-clause-kept g c =
    let e = c.new.result in
    let s = situation c.args.situation in
    let same = c.new.ensures.simulation
    ∙ ap (λ neutral. record { rules = rule_set c.args.rules.now; situation = s; neutral = neutral }) c.as_slice-neutral.ensures.value in
    kept_begun c.args.rules.now (file_with s.members c.args.request.now) c.args.slots.now c.requires.accepted c.requires.slots c.args.wheels.now s (simulation_of e) (marks_in e) _ e.store.counts.free
    c.requires.wheels c.requires.situation same c.new.ensures.wheels c.new.ensures.memory
