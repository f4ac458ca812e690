-- A run file: a map of `axes` and perhaps `period`, `input`, `filter`, `columns` and `neutralize`. Its keys come first, then what it neutralises, then
-- the situation of its input, then its axes, its columns and its conditions; the first fault is told.
use Rattle.std.specs.Prelude.{ℕ, List, [], map, Bool, Option, Result, Ok, codes}
use Rattle.std.specs.Option.{unwrap_or}
use Rattle.fisca_columns.specs.Steps.Calc.{default_in, columns_in}
use Rattle.fisca_columns.specs.Faults.{told}
use Rattle.fisca_columns.specs.declared.fault.RunFileFault.{RunFileFault}
use Rattle.fisca_grid.specs.declared.axes.AxisSpec.{AxisSpec}
use Rattle.fisca_groups.specs.Lookup.{counts_of}
use Rattle.fisca_groups.specs.declared.entity_members.EntityMembers.{EntityMembers}
use Rattle.fisca_inputs.specs.Inputs.{inputs_of}
use Rattle.fisca_inputs.specs.Rules.{rule_of}
use Rattle.fisca_inputs.specs.declared.given.Given.{Given}
use Rattle.fisca_model.specs.declared.key.Key.{Key}
use Rattle.fisca_num.specs.Results.{and_then}
use Rattle.fisca_situations.specs.Steps.Situations.{reading_of}
use Rattle.fisca_situations.specs.declared.reading.Reading.{Reading}
use Rattle.fisca_symbols.specs.declared.tables.Tables.{Tables}
use Rattle.fisca_time.specs.Period.{Span}
use Rattle.fisca_yaml.specs.Find.{line_at}
use Rattle.fisca_yaml.specs.Steps.Find.{get}
use Rattle.fisca_yaml.specs.Node.{Node, null}
use Rattle.fisca_rows.specs.declared.condition.Condition.{Condition}
use Rattle.fisca_rows.specs.Steps.Conditions.{conditions_in}
use Rattle.fisca_run_file.specs.Steps.Grids.{grid_of}
use Rattle.fisca_run_file.specs.Keys.{file_checked}
use Rattle.fisca_run_file.specs.Moved.{apart_from, sharing_checked, with_moved}
use Rattle.fisca_run_file.specs.Steps.Neutral.{marks_in}
use Rattle.fisca_run_file.specs.SaidAxes.{SaidAxis, SaidAxes}
use Rattle.fisca_run_file.specs.Steps.SaidAxes.{axes_said}

-- The members and their inputs

-- The members, and the inputs as they are given. The marks say which variables are neutralised, by their places.
pub record BaseSituation : Type 0 where
  pub members : List EntityMembers
  pub given : List Given
  pub neutral : List Bool

-- an absent input is one person of whom nothing is said
abbrev pub reading_in : Tables → Node → Result Reading RunFileFault
reading_in c n = told (reading_of c (default_in n) (line_at (codes "input") 1 n) (unwrap_or (get (codes "input") n) null))

-- inputs that cannot be shared are told of before any axis
unfoldable pub base_situation_of : Tables → List Bool → Reading → Result BaseSituation RunFileFault
base_situation_of c marks r =
    and_then (told (inputs_of (map rule_of c.variables) (counts_of r.members) r.given))
    (λ _. Ok (record { members = r.members; given = r.given; neutral = marks }))

unfoldable pub base_situation_in : Tables → Node → Result BaseSituation RunFileFault
base_situation_in c n = and_then (marks_in c n) (λ marks. and_then (reading_in c n) (base_situation_of c marks))

-- The axes

-- a grid, and the input that each of its axes moves
pub record Movement : Type 0 where
  pub groups : List (List AxisSpec)
  pub moved : List Given

-- inputs that pass their limit only with those of the axes are told of last
unfoldable pub moved_in : Tables → ℕ → Option Span → BaseSituation → List SaidAxis → Result (List Given) RunFileFault
moved_in c key default s axes =
    and_then (with_moved c s.members default [] axes) (λ moved.
    and_then (apart_from s.given [] moved) (λ _.
    and_then (sharing_checked c key s.members s.given moved) (λ _. Ok moved)))

unfoldable pub movement_of : Tables → ℕ → Option Span → BaseSituation → SaidAxes → Result Movement RunFileFault
movement_of c key default s a =
    and_then (grid_of key a) (λ groups.
    and_then (moved_in c key default s a.axes) (λ moved. Ok (record { groups = groups; moved = moved })))

unfoldable pub movement_at : Tables → ℕ → Option Span → BaseSituation → Node → Result Movement RunFileFault
movement_at c key default s n = and_then (axes_said key n) (movement_of c key default s)

abbrev pub movement_in : Tables → Node → BaseSituation → Result Movement RunFileFault
movement_in c n s = movement_at c (line_at (codes "axes") 1 n) (default_in n) s (unwrap_or (get (codes "axes") n) null)

-- The file

pub record RunFile : Type 0 where
  pub members : List EntityMembers
  pub given : List Given
  pub neutral : List Bool
  pub groups : List (List AxisSpec)
  pub moved : List Given
  pub columns : List Key
  pub conditions : List Condition

unfoldable pub asked_of : Tables → Node → BaseSituation → Movement → Result RunFile RunFileFault
asked_of c n s m =
    and_then (columns_in c s.members n) (λ columns.
    and_then (conditions_in c s.members n) (λ conditions. Ok (record {
      members = s.members;
      given = s.given;
      neutral = s.neutral;
      groups = m.groups;
      moved = m.moved;
      columns = columns;
      conditions = conditions;
    })))

unfoldable pub run_file_by : Tables → Node → BaseSituation → Result RunFile RunFileFault
run_file_by c n s = and_then (movement_in c n s) (asked_of c n s)

unfoldable pub run_file_of : Tables → Node → Result RunFile RunFileFault
run_file_of c n = and_then (file_checked n) (λ _. and_then (base_situation_in c n) (run_file_by c n))
