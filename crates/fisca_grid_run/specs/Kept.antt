-- One situation in which the axes of a run file move from position to position.
use Rattle.std.specs.Prelude.{◌≡◌, ◌⊎◌, ◌<◌, ℕ, List, slice_get, Option, Some, None, Ok}
use Rattle.fisca_memo_theory.specs.Entries.{Entries}
use Rattle.fisca_inputs.specs.Entries as inputs
use Rattle.fisca_inputs.specs.declared.given.Given.{Given}
use Rattle.fisca_model.specs.Values.{Key}
use Rattle.fisca_evaluator.specs.Evaluators.{AreMarked, IsMemoryOf}
use Rattle.fisca_rules.specs.declared.rule_set.RuleSet.{RuleSet}
use Rattle.fisca_grid_run.specs.Runs.{IsAsked, positions, simulation_in}
use Rattle.fisca_run_file.specs.Positions.{moved_at, situation_with}
use Rattle.fisca_run_file.specs.RunFiles.{RunFile}
use Rattle.fisca_run_file.specs.Steps.Slots.{slots_of}
use Rattle.fisca_situations.specs.Situations.{Situation}
use Rattle.fisca_situations.specs.Views.{slot as slot_view, slot_list}
use Rattle.fisca_situations.specs.declared.slot.Slot.{Slot}
use Rattle.fisca_simulation.specs.Simulations.{Simulation}
use Rattle.fisca_symbols.specs.declared.tables.Tables.{Tables}
use Rattle.fisca_yaml.specs.Node.{Node}

-- each slot's wheel is one of sixteen, and each key of its variable has the wheel's mark
abbrev pub AllMarked : (Key → ℕ) → List Slot → Type 0
AllMarked marks slots = (i : ℕ) (s : Slot) → slice_get slots i ≡ Some s → (s.wheel < 16) × AreMarked marks (slot_view s)

-- the same rule set, members and marks, with these inputs
abbrev pub with_inputs : Simulation → inputs.Entries → Simulation
with_inputs m es = record { rules = m.rules; situation = record { members = m.situation.members; inputs = es }; neutral = m.neutral }

-- The inputs that axes move: those at the position that was worked out last, or before there is one, those with which the file was read, or those at any
-- position.
abbrev pub AreMoved : Tables → RunFile → Option ℕ → List Given → Type 0
AreMoved c f None moved = (moved ≡ f.moved) ⊎ ((position : ℕ) × (position < positions f) × (moved_at c f position ≡ Some moved))
AreMoved c f (Some position) moved = (position < positions f) × (moved_at c f position ≡ Some moved)

-- a situation is that of the file, where its axes move these inputs
pub record IsSituated (rules : RuleSet) (f : RunFile) (here : Option ℕ) (m : Simulation) : Type 0 where
  pub moved : List Given
  pub situation : Situation
  pub moves : AreMoved rules.tables f here moved
  pub is : situation_with rules.tables f moved ≡ Ok situation
  pub same : m ≡ simulation_in rules f situation

-- some tree says this run file under the rule set, which is safe
pub record IsRunFile (rules : RuleSet) (f : RunFile) : Type 0 where
  pub tree : Node
  pub asked : IsAsked rules tree f

-- a run file that was accepted under the rule set, its slots, and an evaluator's marks, situation and memory
pub record IsKept (rules : RuleSet) (f : RunFile) (slots : List Slot) (here : Option ℕ) (marks : Key → ℕ) (m : Simulation) (entries : Entries) (free : ℕ) : Type 0 where
  pub accepted : IsRunFile rules f
  pub slots_are : slot_list slots ≡ slots_of rules.tables f
  pub marked : AllMarked marks slots
  pub situated : IsSituated rules f here m
  pub memory : IsMemoryOf marks m entries free
