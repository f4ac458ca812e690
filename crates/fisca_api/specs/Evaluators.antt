-- What an evaluator that owns its situation works in.
use Rattle.std.specs.Prelude.{◌≡◌, ⊤, ℕ, List, [], ◌∷◌, Some}
use Rattle.fisca_evaluator.specs.Evaluators.{CanAnswer}
use Rattle.fisca_inputs.specs.Typed.{GivensTyped}
use Rattle.fisca_memo_theory.specs.Entries.{Entries}
use Rattle.fisca_model.specs.Tables.{variable_type}
use Rattle.fisca_model.specs.Values.{Key}
use Rattle.fisca_model.specs.declared.value_type.ValueType.TheVariants as type
use Rattle.fisca_rules.specs.Views.{rule_set}
use Rattle.fisca_rules.specs.declared.rule_set.RuleSet.{RuleSet}
use Rattle.fisca_simulation.specs.Simulations.{Simulation}
use Rattle.fisca_simulation.specs.Sound.{InputsFit}
use Rattle.fisca_symbols.specs.Known.{tables as known}
use Rattle.fisca_api.specs.Situations as situations
use Rattle.fisca_api.specs.Views.{marks, situation}
use Rattle.fisca_api.specs.declared.given.AxisValue.{AxisValue}
use Rattle.fisca_api.specs.declared.evaluator.Evaluator.{Evaluator}
use Rattle.fisca_api.specs.declared.situation.Situation.{Situation}

-- a situation under a rule set; it keeps which variables are neutralised
abbrev pub simulation_in : RuleSet → Situation → Simulation
simulation_in r s = record { rules = rule_set r; situation = (situation s).shared; neutral = (situation s).neutral }

abbrev pub simulation_of : {R : Type 0} → Evaluator R → Simulation
simulation_of e = simulation_in e.rules.now e.situation

-- the wheels of each key's variable
abbrev pub marks_in : {R : Type 0} → Evaluator R → Key → ℕ
marks_in e = marks e.situation

-- the rule set is safe, the inputs are of their types, and what is remembered is so; `find` is how its memory is seen
abbrev pub IsReady : {R : Type 0} → (R → Entries) → Evaluator R → Type 0
IsReady find e = CanAnswer (marks_in e) (simulation_of e) (find e.session.store.recall) e.session.store.counts.free

-- the variable at a place has numbers
abbrev pub HasNumbers : RuleSet → ℕ → Type 0
HasNumbers r x = variable_type (known r.tables) x ≡ Some type.Number

abbrev pub HaveNumbers : RuleSet → List AxisValue → Type 0
HaveNumbers r [] = ⊤
HaveNumbers r (a ∷ vs) = HasNumbers r a.variable × HaveNumbers r vs

-- what is given and the inputs after sharing are of the types of their variables
pub record Fits (r : RuleSet) (s : situations.Situation) : Type 0 where
  pub given : GivensTyped (known r.tables) s.given
  pub inputs : InputsFit (rule_set r) s.shared
