-- The axes of a run file, as they are said: a list of groups, each a list of axes, each a map of `name`, `count`, `min`, `max`, and perhaps `period`
-- and `index`.
use Rattle.std.specs.Prelude.{ℕ, List, [], Option}
use Rattle.fisca_grid.specs.declared.axes.AxisSpec.{AxisSpec}
use Rattle.fisca_time.specs.Period.{Span}

-- One axis

-- of which variable and member, and what steps; its period is perhaps that of the file. The line is that of its item
pub record SaidAxis : Type 0 where
  pub line : ℕ
  pub name : List ℕ
  pub spec : AxisSpec
  pub period : Option Span
  pub index : ℕ

-- Groups

-- the axes of all groups, one after another, and how many there are in each
pub record SaidAxes : Type 0 where
  pub axes : List SaidAxis
  pub lengths : List ℕ

abbrev pub no_axes : SaidAxes
no_axes = record { axes = []; lengths = [] }
