-- What an evaluator that remembers answers.
use Rattle.std.specs.Prelude.{◌≡◌, ℕ, Result}
use Rattle.fisca_key_semantics.specs.Answers.{answer, most_keys}
use Rattle.fisca_model.specs.Causes.{Fault}
use Rattle.fisca_simulation.specs.Told.{IsReady}
use Rattle.fisca_memo_theory.specs.Entries.{Entries}
use Rattle.fisca_memo_theory.specs.Reads.{Moves}
use Rattle.fisca_memo_theory.specs.Work.{IsWork}
use Rattle.fisca_inputs.specs.Entries.{value_at}
use Rattle.fisca_model.specs.Seen.{key_of, key_seen}
use Rattle.fisca_model.specs.declared.key.Key.{Key}
use Rattle.fisca_model.specs.Values as meaning
use Rattle.fisca_num.specs.Number.{Number}
use Rattle.fisca_rules.specs.Views.{rule_set}
use Rattle.fisca_situations.specs.Steps.Views.{situation}
use Rattle.fisca_situations.specs.Slots.{Slot}
use Rattle.fisca_situations.specs.Steps.Slots.{turned}
use Rattle.fisca_simulation.specs.Simulations.{Simulation, normal_key, sources}
use Rattle.fisca_evaluator.specs.Recalled.{IsMemory, marks_of}
use Rattle.fisca_evaluator.specs.declared.evaluator.Evaluator.{Evaluator}

abbrev pub simulation_of : {R : Type 0} → Evaluator R → Simulation
simulation_of e = record { rules = rule_set e.plans.rules.now; situation = situation e.situation; neutral = e.plans.neutral.now }

-- that of an eternal variable has the eternal period, whatever period is handed in
abbrev pub own_key : {R : Type 0} → Evaluator R → Key → meaning.Key
own_key e key = normal_key (simulation_of e).rules (key_seen key)

-- the answer of a key, whatever is remembered
abbrev pub answer_in : {R : Type 0} → Evaluator R → Key → Result meaning.Value Fault
answer_in e key = answer (sources (simulation_of e)) (own_key e key)

-- the work for a key within a hundred keys that are asked for below one another
abbrev pub work_in : {R : Type 0} → Evaluator R → Key → meaning.Key → Type 0
work_in e key = IsWork (sources (simulation_of e)) most_keys (own_key e key)

-- the wheels of each key's variable
abbrev pub marks_in : {R : Type 0} → Evaluator R → meaning.Key → ℕ
marks_in e = marks_of e.wheels.now

-- what an evaluator remembers, and how many keys of it read no wheel, is so in its situation
abbrev pub IsMemoryOf : (meaning.Key → ℕ) → Simulation → Entries → ℕ → Type 0
IsMemoryOf marks m entries free = IsMemory marks (sources m) entries free

-- the rule set is safe, the inputs are of their types, and what is remembered is so
pub record CanAnswer (marks : meaning.Key → ℕ) (m : Simulation) (entries : Entries) (free : ℕ) : Type 0 where
  pub ready : IsReady m
  pub memory : IsMemoryOf marks m entries free

-- A wheel turns

-- what the values of keys without the wheel's mark come from stays
abbrev pub IsStill : (meaning.Key → ℕ) → ℕ → Simulation → Simulation → Type 0
IsStill marks wheel old new = (k : meaning.Key) → (Moves marks wheel k → ⊥) → sources new k ≡ sources old k

-- inputs of keys with the wheel's mark may be others, and nothing else is
pub record IsTurned (marks : meaning.Key → ℕ) (wheel : ℕ) (old new : Simulation) : Type 0 where
  pub rules : new.rules ≡ old.rules
  pub members : new.situation.members ≡ old.situation.members
  pub neutral : new.neutral ≡ old.neutral
  pub inputs : (k : meaning.Key) → (Moves marks wheel k → ⊥) → value_at new.situation.inputs (key_of k) ≡ value_at old.situation.inputs (key_of k)

-- An axis takes another value

-- each key of the slot's variable has the mark of the slot's wheel
abbrev pub AreMarked : (meaning.Key → ℕ) → Slot → Type 0
AreMarked marks s = (k : meaning.Key) → k.variable ≡ s.variable → Moves marks s.wheel k

-- the same rule set, members and marks, where the inputs of the slot's keys are set anew
abbrev pub turned_by : Slot → Number → Simulation → Simulation
turned_by s v m = record { rules = m.rules; situation = record { members = m.situation.members; inputs = turned s v m.situation.inputs }; neutral = m.neutral }
