use Rattle.std.proofs.Common.{◌≡◌, ◌+◌, ◌≤◌, ◌++◌, length, drop}
use Rattle.std.specs.Fmt.{decimal}
use Rattle.fisca_num.proofs.spelling.put_number.Given as goal

abbrev pub invariant-loop-rest : goal.invariant-loop-rest
invariant-loop-rest l = record {
  room : length (decimal l.rest) ≤ l.start;
  place : l.start + length (decimal l.fn.number) ≡ l.fn.end + length (decimal l.rest);
  within : l.start ≤ length l.buffer;
  text : decimal l.rest ++ drop l.start l.buffer ≡ decimal l.fn.number ++ drop l.fn.end l.fn.buffer;
}

abbrev pub decreases-loop-rest : goal.decreases-loop-rest
decreases-loop-rest l = l.rest
