-- What an evaluator answers.
use Rattle.std.specs.Prelude.{Result}
use Rattle.fisca_key_semantics.specs.Answers.{answer}
use Rattle.fisca_model.specs.Causes.{Fault}
use Rattle.fisca_model.specs.Seen.{key_seen}
use Rattle.fisca_model.specs.declared.key.Key.{Key}
use Rattle.fisca_model.specs.Values.{Value}
use Rattle.fisca_rules.specs.Views.{rule_set}
use Rattle.fisca_situations.specs.Steps.Views.{situation}
use Rattle.fisca_simulation.specs.Simulations.{Simulation, normal_key, sources}
use Rattle.fisca_simulation.specs.declared.evaluator.PlainEvaluator.{PlainEvaluator}

abbrev pub simulation_of : PlainEvaluator → Simulation
simulation_of e = record { rules = rule_set e.rules.now; situation = situation e.situation; neutral = e.neutral.now }

-- the answer of a key; that of an eternal variable has the eternal period, whatever period is handed in
abbrev pub answer_in : PlainEvaluator → Key → Result Value Fault
answer_in e key = answer (sources (simulation_of e)) (normal_key (simulation_of e).rules (key_seen key))
