use Rattle.std.proofs.Common.{◌≡◌, take, drop}
use Rattle.fisca_grid.specs.Axes.{first_axis_fault}
use Rattle.fisca_grid.specs.Turning.{specs_of}
use Rattle.fisca_grid.proofs.grid.accept_axes.Given as goal

-- the axes so far are those asked for, and the first fault is among the others
abbrev pub invariant-loop-spec : goal.invariant-loop-spec
invariant-loop-spec l =
    record {
      taken : specs_of l.axes.items ≡ take l.spec-index l.specs;
      fault : first_axis_fault (drop l.spec-index l.specs) ≡ first_axis_fault l.specs;
    }
