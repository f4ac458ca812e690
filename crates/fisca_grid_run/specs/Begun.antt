-- What a run begins with, and the file of which it is.
use Rattle.std.specs.Prelude.{◌≡◌, List, [], length, Option, Some, None}
use Rattle.fisca_groups.specs.declared.entity_members.EntityMembers.{EntityMembers}
use Rattle.fisca_rules.specs.declared.rule_set.RuleSet.{RuleSet}
use Rattle.fisca_run_file.specs.Steps.Marks.{wheels_of}
use Rattle.fisca_run_file.specs.Positions.{IsBeginning}
use Rattle.fisca_run_file.specs.RunFiles.{RunFile}
use Rattle.fisca_run_file.specs.Steps.Slots.{slots_of}
use Rattle.fisca_run_file.specs.Views.{file_with}
use Rattle.fisca_run_file.specs.declared.file.RunRequest.{RunRequest}
use Rattle.fisca_run_file.specs.declared.file.RunStart.{RunStart}
use Rattle.fisca_simulation.specs.Simulations.{Simulation}
use Rattle.fisca_situations.specs.Views.{slot_list}
use Rattle.fisca_situations.specs.Steps.Views.{situation as situation_view}
use Rattle.fisca_grid_run.specs.Kept.{IsRunFile}

-- the file that requests this, of the members of a simulation
abbrev pub file_in : Simulation → RunRequest → RunFile
file_in m r = file_with m.situation.members r

-- the same of these members, if they are there
abbrev pub file_of : Option (List EntityMembers) → RunRequest → RunFile
file_of None r = file_with [] r
file_of (Some members) r = file_with members r

-- a run of this file under the rule set begins with this
pub record HasBegun (rules : RuleSet) (f : RunFile) (start : RunStart) : Type 0 where
  pub situation : IsBeginning rules.tables f (situation_view start.situation)
  pub slots : slot_list start.slots.items ≡ slots_of rules.tables f
  pub wheels : start.wheels.items ≡ wheels_of (length rules.tables.variables) (slots_of rules.tables f)

-- and the file was accepted under it
pub record IsBegun (rules : RuleSet) (f : RunFile) (start : RunStart) : Type 0 where
  pub accepted : IsRunFile rules f
  pub begun : HasBegun rules f start
