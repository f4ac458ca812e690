-- What keys are worked out over, and their answers below others.
use Rattle.std.specs.Prelude.{◌≡◌, ℕ, List, map, Result}
use Rattle.fisca_key_semantics.specs.Answers.{Sources, formula}
use Rattle.fisca_model.specs.Causes.{Fault}
use Rattle.fisca_key_semantics.specs.Inquiry.{of_key}
use Rattle.fisca_key_semantics.specs.Stacks.{answer_below, ends_below}
use Rattle.fisca_check.specs.Formulas.{formula_view}
use Rattle.fisca_check.specs.declared.formula.TypedFormula.{TypedFormula}
use Rattle.fisca_memo_theory.specs.Entries.{Entries}
use Rattle.fisca_memo_theory.specs.Reads.{IsReads}
use Rattle.fisca_model.specs.Seen.{key_seen}
use Rattle.fisca_inputs.specs.Typed.{IsValueOf}
use Rattle.fisca_model.specs.declared.key.Key.{Key}
use Rattle.fisca_machine.specs.Context.{groups, tables}
use Rattle.fisca_model.specs.Values as meaning
use Rattle.fisca_key_semantics.specs.Dialogues.{Dialogue}
use Rattle.fisca_model.specs.Values.{Value}
use Rattle.fisca_groups.specs.Grouped.{grouped}
use Rattle.fisca_evaluator.specs.declared.known.Known.{Known}
use Rattle.fisca_rules.specs.Rules.{known_by}
use Rattle.fisca_simulation.specs.Simulations as simulations
use Rattle.fisca_simulation.specs.Sound.{GivesOnly, InputsFit, IsSafeRules}
use Rattle.fisca_simulation.specs.Views.{simulation}
use Rattle.fisca_symbols.specs.declared.variable.Variable.{Variable}
use Rattle.fisca_model.specs.Tables.{Tables}
use Rattle.fisca_evaluator.specs.Recalled.{IsMemory, marks_of}
use Rattle.fisca_evaluator.specs.declared.evaluation.Evaluation.{Evaluation}

abbrev pub seen : Evaluation → simulations.Simulation
seen s = simulation s.simulation

abbrev pub known_in : Evaluation → Tables
known_in s = known_by (seen s).rules

abbrev pub sources_in : Evaluation → Sources
sources_in s = simulations.sources (seen s)

abbrev pub marks_in : Evaluation → meaning.Key → ℕ
marks_in s = marks_of s.wheels.now

-- these are just the wheels that the key reads
abbrev pub HasRead : Evaluation → Key → Known → Type 0
HasRead s key k = IsReads (marks_in s) (sources_in s) (key_seen key) k.reads

-- what is remembered, and how many keys of it read no wheel, is so
abbrev pub IsMemoryIn : Evaluation → Entries → ℕ → Type 0
IsMemoryIn s entries free = IsMemory (marks_in s) (sources_in s) entries free

-- the context is that of the rule set and the situation, and values are of their types
pub record IsEvaluation (s : Evaluation) : Type 0 where
  pub tables : tables s.context ≡ known_in s
  pub groups : groups s.context ≡ grouped (seen s).situation.members
  pub safe : IsSafeRules (seen s).rules
  pub fit : InputsFit (seen s).rules (seen s).situation

-- what the formula of a key gives
abbrev pub work : Evaluation → Variable → TypedFormula → Key → Dialogue
work s v f key = simulations.worked_out (seen s).rules (grouped (seen s).situation.members) v (key_seen key) (formula_view f)

-- a formula that says this is what the key's value comes from
pub record IsWork (s : Evaluation) (d : Dialogue) (key : Key) : Type 0 where
  pub source : sources_in s (key_seen key) ≡ formula (of_key (key_seen key) d)
  pub sound : GivesOnly (known_in s) (IsValueOf (known_in s) key.variable) d

-- the answer of a key below others
abbrev pub wanted : Evaluation → List Key → Key → Result Value Fault
wanted s keys key = answer_below (sources_in s) (map key_seen keys) (key_seen key)

-- that of the last of these keys, whose formula says this
abbrev pub wanted_of_work : Evaluation → List Key → Dialogue → Key → Result Value Fault
wanted_of_work s keys d key = ends_below (sources_in s) (map key_seen keys) (key_seen key) (of_key (key_seen key) d)
