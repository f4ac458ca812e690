use Rattle.fisca_rules.specs.Views.{rule_set}
use Rattle.fisca_api.specs.Evaluators.{simulation_in}
use Rattle.fisca_api.specs.Views.{marks}
use Rattle.fisca_api.proofs.evaluator.Evaluator.new.Goals as goal

pub returns-clause-ready : goal.returns-clause-ready
returns-clause-ready g c safe fits = record {
  ready = record { safe = safe; fit = fits.inputs };
  memory = c.new.ensures.memory (marks c.args.situation) (simulation_in c.args.rules.now c.args.situation);
}
