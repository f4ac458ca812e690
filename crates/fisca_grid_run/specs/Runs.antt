-- The rows of a run file over the positions of its grid, under a rule set.
use Rattle.std.specs.Prelude.{◌≡◌, ◌≤◌, ◌<◌, ℕ, Bool, true, false, List, Option, Some, None, Result, Ok, Err}
use Rattle.fisca_simulation.specs.Told.{told_in}
use Rattle.fisca_model.specs.declared.eval_fault.EvalFault.{EvalFault}
use Rattle.fisca_grid.specs.Grid.{size_of}
use Rattle.fisca_inputs.specs.declared.fault.SituationFault.{SituationFault}
use Rattle.fisca_inputs.specs.declared.given.Given.{Given}
use Rattle.fisca_writer.specs.Row.{Row, Nothing}
use Rattle.fisca_rules.specs.Views.{rule_set}
use Rattle.fisca_rules.specs.declared.rule_set.RuleSet.{RuleSet}
use Rattle.fisca_rows.specs.Going.{lacks_in, styled_row}
use Rattle.fisca_rows.specs.declared.style.RowStyle.{RowStyle}
use Rattle.fisca_run_file.specs.Positions.{moved_at, situation_with}
use Rattle.fisca_run_file.specs.RunFiles.{RunFile, run_file_of}
use Rattle.fisca_situations.specs.Situations.{Situation}
use Rattle.fisca_simulation.specs.Simulations.{Simulation}
use Rattle.fisca_simulation.specs.Sound.{IsSafeRules}
use Rattle.fisca_symbols.specs.Known.{tables as known}
use Rattle.fisca_yaml.specs.Node.{Node}

-- a situation under the rule set, with what the file neutralises
abbrev pub simulation_in : RuleSet → RunFile → Situation → Simulation
simulation_in rules f s = record { rules = rule_set rules; situation = s; neutral = f.neutral }

-- Where there is no situation there is no row. An accepted file has a situation at each position, as the law `positions_have_situations` says.
abbrev pub row_in : RuleSet → RowStyle → RunFile → ℕ → List Given → Result Situation SituationFault → Row EvalFault
row_in rules style f position moved (Ok s) = styled_row style (known rules.tables) (told_in (simulation_in rules f s)) f.conditions f.columns position moved
row_in rules style f position moved (Err e) = Nothing

-- the axes of an accepted file have values at each position, as the same law says
abbrev pub row_with : RuleSet → RowStyle → RunFile → ℕ → Option (List Given) → Row EvalFault
row_with rules style f position None = Nothing
row_with rules style f position (Some moved) = row_in rules style f position moved (situation_with rules.tables f moved)

-- what stands at a position: a row by the answers of keys in the situation there, in this style
abbrev pub run_row : RuleSet → RowStyle → RunFile → ℕ → Row EvalFault
run_row rules style f position = row_with rules style f position (moved_at rules.tables f position)

-- the row at a position has a word in the place of a value
abbrev pub lacks_with : RuleSet → RowStyle → RunFile → Result Situation SituationFault → Bool
lacks_with rules style f (Ok s) = lacks_in style (told_in (simulation_in rules f s)) f.conditions f.columns
lacks_with rules style f (Err e) = false

abbrev pub lacks_of : RuleSet → RowStyle → RunFile → Option (List Given) → Bool
lacks_of rules style f None = false
lacks_of rules style f (Some moved) = lacks_with rules style f (situation_with rules.tables f moved)

abbrev pub lacks_at : RuleSet → RowStyle → RunFile → ℕ → Bool
lacks_at rules style f position = lacks_of rules style f (moved_at rules.tables f position)

-- one of the rows at the positions from `from` on below `stop` has a word in the place of a value
abbrev pub LacksValue : RuleSet → RowStyle → RunFile → ℕ → ℕ → Type 0
LacksValue rules style f from stop = (position : ℕ) × (from ≤ position) × (position < stop) × (lacks_at rules style f position ≡ true)

abbrev pub positions : RunFile → ℕ
positions f = size_of f.groups

-- the rule set is safe, and the tree says this run file under it
pub record IsAsked (rules : RuleSet) (n : Node) (f : RunFile) : Type 0 where
  pub safe : IsSafeRules (rule_set rules)
  pub read : run_file_of rules.tables n ≡ Ok f
