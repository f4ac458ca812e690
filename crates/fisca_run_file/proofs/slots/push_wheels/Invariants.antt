use Rattle.std.proofs.Common.{◌≡◌, ◌++◌}
use Rattle.fisca_run_file.specs.Groups.{so_many}
use Rattle.fisca_run_file.proofs.slots.push_wheels.Given as goal

-- so many stand behind the first ones
abbrev pub invariant-loop-time : goal.invariant-loop-time
invariant-loop-time l = l.wheels.items ≡ l.initial.wheels.items ++ so_many l._time l.wheel
