use Rattle.std.proofs.Common.{◌-◌, drop, take}
use Rattle.fisca_num.proofs.Division.{IsDivided}
use Rattle.fisca_num.proofs.spelling.put_division.Given as goal

abbrev pub invariant-loop-index : goal.invariant-loop-index
invariant-loop-index l = IsDivided l.rest l.denominator l.left (l.index - l.start) (drop l.start (take l.index l.buffer))
