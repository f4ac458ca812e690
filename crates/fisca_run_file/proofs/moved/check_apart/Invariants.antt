use Rattle.std.proofs.Common.{◌≡◌, [], drop, take}
use Rattle.fisca_run_file.specs.Moved.{apart_from}
use Rattle.fisca_run_file.proofs.moved.check_apart.Given as goal

abbrev pub invariant-loop-i : goal.invariant-loop-i
invariant-loop-i l = apart_from l.given [] l.moved ≡ apart_from l.given (take l.i l.moved) (drop l.i l.moved)
