use Rattle.std.proofs.Common.{◌≡◌, drop, sum, length}
use Rattle.fisca_grid.specs.Grid.{groups_of}
use Rattle.fisca_run_file.specs.Steps.Grids.{first_differing}
use Rattle.fisca_run_file.specs.Views.{said_list}
use Rattle.fisca_run_file.proofs.grids.first_differing.Given as goal

-- the first axis that differs is that of what is left
abbrev pub invariant-loop-length : goal.invariant-loop-length
invariant-loop-length l =
    record {
      grouped : sum (drop l.length-index l.lengths) ≡ length l.rest;
      same : first_differing (groups_of (said_list l.axes) l.lengths) ≡ first_differing (groups_of (said_list l.rest) (drop l.length-index l.lengths));
    }
