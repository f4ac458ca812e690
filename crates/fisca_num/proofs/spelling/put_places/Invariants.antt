use Rattle.std.proofs.Common.{◌≡◌, ◌+◌, ◌-◌, ◌≤◌, ◌++◌, length, drop}
use Rattle.fisca_num.specs.Digits.{padded}
use Rattle.fisca_num.proofs.spelling.put_places.Given as goal

abbrev pub invariant-loop : goal.invariant-loop
invariant-loop l = record {
  place : l.start + l.counter ≡ l.fn.end;
  within : l.start ≤ length l.buffer;
  text : padded (l.count - l.counter) l.rest ++ drop l.start l.buffer ≡ padded l.fn.count l.fn.number ++ drop l.fn.end l.fn.buffer;
}
