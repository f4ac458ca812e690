use Rattle.std.proofs.Common.{◌≡◌, ◌*◌, ◌-◌, ◌^◌, min, drop, sum, length}
use Rattle.std.specs.List.{list_any}
use Rattle.fisca_grid.specs.Grid.{groups_of, has_two_counts, size_of}
use Rattle.fisca_grid.proofs.grid.check_size.Given as goal

-- what is left of the groups gives, with the size so far, the whole size, and has the groups that are not alike
abbrev pub invariant-loop-length : goal.invariant-loop-length
invariant-loop-length l =
    record {
      grouped : sum (drop l.length-index l.groups) ≡ length l.rest;
      alike : list_any has_two_counts (groups_of l.rest (drop l.length-index l.groups)) ≡ list_any has_two_counts (groups_of l.specs l.groups);
      size : min (l.size * size_of (groups_of l.rest (drop l.length-index l.groups))) (2 ^ 64 - 1) ≡ min (size_of (groups_of l.specs l.groups)) (2 ^ 64 - 1);
    }
