-- What keys are worked out over, and their answers below others.
use Rattle.std.specs.Prelude.{◌≡◌, List, map, Result}
use Rattle.fisca_key_semantics.specs.Answers.{Sources, formula, known}
use Rattle.fisca_model.specs.Causes.{Fault}
use Rattle.fisca_key_semantics.specs.Inquiry.{of_key}
use Rattle.fisca_key_semantics.specs.Stacks.{answer_below, ends_below}
use Rattle.fisca_check.specs.Formulas.{formula_view}
use Rattle.fisca_check.specs.declared.formula.TypedFormula.{TypedFormula}
use Rattle.fisca_model.specs.Seen.{key_seen, value_seen}
use Rattle.fisca_inputs.specs.Typed.{IsValueOf}
use Rattle.fisca_model.specs.declared.value.Value.{Value as Given}
use Rattle.fisca_model.specs.declared.key.Key.{Key}
use Rattle.fisca_machine.specs.Context.{groups, tables}
use Rattle.fisca_key_semantics.specs.Dialogues.{Dialogue}
use Rattle.fisca_model.specs.Values.{Value}
use Rattle.fisca_groups.specs.Grouped.{grouped}
use Rattle.fisca_rules.specs.Rules.{known_by}
use Rattle.fisca_simulation.specs.Simulations as simulations
use Rattle.fisca_simulation.specs.Sound.{GivesOnly, InputsFit, IsSafeRules}
use Rattle.fisca_simulation.specs.Views.{simulation}
use Rattle.fisca_symbols.specs.declared.variable.Variable.{Variable}
use Rattle.fisca_model.specs.Tables.{Tables}
use Rattle.fisca_model.specs.EvalFaults.{IsAnswer}
use Rattle.fisca_model.specs.declared.eval_fault.EvalFault.{EvalFault}
use Rattle.fisca_simulation.specs.declared.plain_evaluation.PlainEvaluation.{PlainEvaluation}

abbrev pub seen : PlainEvaluation → simulations.Simulation
seen s = simulation s.simulation

abbrev pub known_in : PlainEvaluation → Tables
known_in s = known_by (seen s).rules

abbrev pub sources_in : PlainEvaluation → Sources
sources_in s = simulations.sources (seen s)

-- the context is that of the rule set and the situation, and values are of their types
pub record IsPlainEvaluation (s : PlainEvaluation) : Type 0 where
  pub tables : tables s.context ≡ known_in s
  pub groups : groups s.context ≡ grouped (seen s).situation.members
  pub safe : IsSafeRules (seen s).rules
  pub fit : InputsFit (seen s).rules (seen s).situation

-- what the formula of a key gives
abbrev pub work : PlainEvaluation → Variable → TypedFormula → Key → Dialogue
work s v f key = simulations.worked_out (seen s).rules (grouped (seen s).situation.members) v (key_seen key) (formula_view f)

-- the variable's formula is what the key's value comes from
pub record IsWork (s : PlainEvaluation) (v : Variable) (f : TypedFormula) (key : Key) : Type 0 where
  pub source : sources_in s (key_seen key) ≡ formula (of_key (key_seen key) (work s v f key))
  pub sound : GivesOnly (known_in s) (IsValueOf (known_in s) key.variable) (work s v f key)

-- the answer of a key below others
abbrev pub wanted : PlainEvaluation → List Key → Key → Result Value Fault
wanted s keys key = answer_below (sources_in s) (map key_seen keys) (key_seen key)

-- that of the last of these keys, by its formula
abbrev pub wanted_of_work : PlainEvaluation → List Key → Variable → TypedFormula → Key → Result Value Fault
wanted_of_work s keys v f key = ends_below (sources_in s) (map key_seen keys) (key_seen key) (of_key (key_seen key) (work s v f key))

-- the answer of a key for which a value is at hand
abbrev pub IsAtHand : List Key → Key → Given → Result Given EvalFault → Type 0
IsAtHand keys key value result = (s : Sources) → s (key_seen key) ≡ known (value_seen value) → IsAnswer (answer_below s (map key_seen keys) (key_seen key)) result
