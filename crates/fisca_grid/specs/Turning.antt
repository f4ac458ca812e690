-- How a grid is kept: a flat list of axes, each with the number of positions for which it stays at a place.
use Rattle.std.specs.Prelude.{◌≡◌, ℕ, ◌/◌, ◌%◌, List, length, map, sum, None}
use Rattle.fisca_grid.specs.Grid.{groups_of, counts_of, axes_at, axes_fault}
use Rattle.fisca_grid.specs.declared.axes.Axis.{Axis}
use Rattle.fisca_grid.specs.declared.axes.AxisSpec.{AxisSpec}
use Rattle.fisca_grid.specs.declared.turning.Turning.{Turning}

-- what was asked for of axes
abbrev pub specs_of : List Axis → List AxisSpec
specs_of = map (λ axis. axis.spec)

-- an axis with its place at a position
abbrev pub placed : ℕ → Turning → AxisSpec × ℕ
placed position t = (t.axis.spec, (position / t.pace) % t.axis.spec.count)

abbrev pub axes_of : List Turning → List AxisSpec
axes_of = map (λ t. t.axis.spec)

-- these axes, in groups of these lengths, are a grid whose groups have so many places
pub record IsGrid (axes : List Turning) (lengths counts : List ℕ) : Type 0 where
  pub turns : (position : ℕ) → map (placed position) axes ≡ axes_at (groups_of (axes_of axes) lengths) position
  pub counted : counts ≡ counts_of (groups_of (axes_of axes) lengths)
  pub within : axes_fault (axes_of axes) lengths ≡ None
  pub grouped : sum lengths ≡ length axes
