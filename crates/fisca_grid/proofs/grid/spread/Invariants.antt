use Rattle.std.proofs.Common.{◌≡◌, ◌*◌, ◌/◌, ◌++◌, ℕ, false, drop, sum, map, length}
use Rattle.std.specs.List.{list_any}
use Rattle.fisca_writer.specs.Odometer.{product_of}
use Rattle.fisca_grid.specs.Grid.{groups_of, counts_of, has_two_counts, size_of, axes_at}
use Rattle.fisca_grid.specs.Turning.{specs_of, axes_of, placed}
use Rattle.fisca_grid.proofs.grid.spread.Given as goal

-- the axes so far and those of the groups that are left stand at each position as all do, and so it is with the numbers of places
abbrev pub invariant-loop-length : goal.invariant-loop-length
invariant-loop-length l =
    record {
      grouped : sum (drop l.length-index l.lengths) ≡ length l.rest;
      alike : list_any has_two_counts (groups_of (specs_of l.rest) (drop l.length-index l.lengths)) ≡ false;
      size : product_of l.groups * size_of (groups_of (specs_of l.rest) (drop l.length-index l.lengths)) ≡ size_of (groups_of (specs_of l.axes) l.lengths);
      turns : (position : ℕ) → map (placed position) l.turning.items ++ axes_at (groups_of (specs_of l.rest) (drop l.length-index l.lengths)) (position / product_of l.groups) ≡ axes_at (groups_of (specs_of l.axes) l.lengths) position;
      axes : axes_of l.turning.items ++ specs_of l.rest ≡ specs_of l.axes;
      counts : l.groups ++ counts_of (groups_of (specs_of l.rest) (drop l.length-index l.lengths)) ≡ counts_of (groups_of (specs_of l.axes) l.lengths);
      many : length l.groups ≡ l.length-index;
    }
