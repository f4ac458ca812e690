use Rattle.std.proofs.Common.{◌≡◌, ◌++◌, drop}
use Rattle.fisca_run_file.specs.Steps.Groups.{wheels_by}
use Rattle.fisca_run_file.proofs.slots.wheels_by.Given as goal

-- those so far, and those that are left
abbrev pub invariant-loop-length : goal.invariant-loop-length
invariant-loop-length l =
    record {
      count : l.wheel ≡ l.length-index;
      same : wheels_by 0 l.lengths ≡ l.wheels.items ++ wheels_by l.wheel (drop l.length-index l.lengths);
    }
