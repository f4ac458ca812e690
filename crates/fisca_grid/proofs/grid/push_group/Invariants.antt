use Rattle.std.proofs.Common.{◌≡◌, ◌++◌, ◌/◌, ℕ, take, map}
use Rattle.fisca_grid.specs.Turning.{specs_of, axes_of, placed}
use Rattle.fisca_grid.specs.Steps.Turning.{turned}
use Rattle.fisca_grid.proofs.grid.push_group.Given as goal

-- the first axes of the group are appended
abbrev pub invariant-loop-axis : goal.invariant-loop-axis
invariant-loop-axis l =
    record {
      turns : (position : ℕ) → map (placed position) l.turning.items ≡ map (placed position) l.initial.turning.items ++ map (turned (position / l.pace)) (take l.axis-index l.group);
      axes : axes_of l.turning.items ≡ axes_of l.initial.turning.items ++ specs_of (take l.axis-index l.group);
    }
