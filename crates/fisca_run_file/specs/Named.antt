-- The names of the cells of a run's lines.
use Rattle.std.specs.Prelude.{ℕ, ◌==◌, List, [], ◌∷◌, ◌++◌, map, Option, Some, None, Result, Ok, codes, if◌then◌else◌}
use Rattle.std.specs.Fmt.{decimal}
use Rattle.std.specs.Option.{option_eq, unwrap_or}
use Rattle.std.specs.Ordering.{eq_by_cmp}
use Rattle.fisca_columns.specs.Named.{column_names}
use Rattle.fisca_columns.specs.Steps.Calc.{default_in}
use Rattle.fisca_columns.specs.declared.fault.RunFileFault.{RunFileFault}
use Rattle.fisca_num.specs.Results.{and_then}
use Rattle.fisca_time.specs.Period.{Span, span_cmp}
use Rattle.fisca_time.specs.PeriodText.{text_of as period_text}
use Rattle.fisca_yaml.specs.Find.{line_at}
use Rattle.fisca_yaml.specs.Node.{Node, null}
use Rattle.fisca_yaml.specs.Steps.Find.{get}
use Rattle.fisca_run_file.specs.SaidAxes.{SaidAxis, SaidAxes}
use Rattle.fisca_run_file.specs.Steps.SaidAxes.{axes_said}

-- `#` and the place of a member, but for the first
abbrev pub index_part : ℕ → List ℕ
index_part index = if index == 0 then [] else codes "#" ++ decimal index

-- `@` and a period, where it is not that of the file
abbrev pub period_part : Option Span → Option Span → List ℕ
period_part default None = []
period_part default (Some period) = if option_eq (eq_by_cmp span_cmp) default (Some period) then [] else codes "@" ++ period_text period

-- the name of an axis, as a column would write its key, without what stands by default
abbrev pub axis_name : Option Span → SaidAxis → List ℕ
axis_name default a = a.name ++ (index_part a.index ++ period_part default a.period)

-- the names of the cells: the position, the axes and the columns
abbrev pub cell_names : Node → SaidAxes → List (List ℕ)
cell_names n a = codes "position" ∷ (map (axis_name (default_in n)) a.axes ++ column_names n)

abbrev pub names_of : Node → Result (List (List ℕ)) RunFileFault
names_of n = and_then (axes_said (line_at (codes "axes") 1 n) (unwrap_or (get (codes "axes") n) null)) (λ a. Ok (cell_names n a))
