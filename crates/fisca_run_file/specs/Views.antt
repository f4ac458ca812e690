-- How definitions see what the code keeps of a run file.
use Rattle.std.specs.Prelude.{List, map, string_bytes}
use Rattle.fisca_groups.specs.declared.entity_members.EntityMembers.{EntityMembers}
use Rattle.fisca_situations.specs.Steps.Views.{situation}
use Rattle.fisca_run_file.specs.RunFiles as files
use Rattle.fisca_run_file.specs.SaidAxes as said
use Rattle.fisca_run_file.specs.declared.file.RunFile.{RunFile}
use Rattle.fisca_run_file.specs.declared.file.Movement.{Movement}
use Rattle.fisca_run_file.specs.declared.file.RunRequest.{RunRequest}
use Rattle.fisca_run_file.specs.declared.file.RunStart.{RunStart}
use Rattle.fisca_run_file.specs.declared.said_axis.SaidAxis.{SaidAxis}
use Rattle.fisca_run_file.specs.declared.said.SaidAxes.{SaidAxes}
use Rattle.fisca_run_file.specs.declared.base_situation.BaseSituation.{BaseSituation}

abbrev pub said_axis : SaidAxis → said.SaidAxis
said_axis a = record { line = a.line; name = string_bytes a.name; spec = a.spec; period = a.period; index = a.index }

abbrev pub said_list : List SaidAxis → List said.SaidAxis
said_list = map said_axis

abbrev pub said_axes : SaidAxes → said.SaidAxes
said_axes a = record { axes = said_list a.axes.items; lengths = a.lengths.items }

abbrev pub base_situation : BaseSituation → files.BaseSituation
base_situation s = record { members = s.members; given = s.given; neutral = s.neutral.items }

abbrev pub movement : Movement → files.Movement
movement m = record { groups = m.axes; moved = m.moved }

-- a file that requests this, of these members
abbrev pub file_with : List EntityMembers → RunRequest → files.RunFile
file_with members r = record {
  members = members;
  given = r.given;
  neutral = r.neutral.items;
  groups = r.axes;
  moved = r.moved;
  columns = r.columns;
  conditions = r.conditions;
}

abbrev pub run_file : RunFile → files.RunFile
run_file f = file_with (situation f.situation).members f.request

-- the file with which a run begins
abbrev pub run_start : RunStart → files.RunFile
run_start s = file_with (situation s.situation).members s.request
