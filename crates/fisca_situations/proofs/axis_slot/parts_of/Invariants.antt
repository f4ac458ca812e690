use Rattle.std.proofs.Common.{◌≡◌, take}
use Rattle.fisca_time.specs.Period.{subs}
use Rattle.fisca_situations.proofs.axis_slot.parts_of.Given as goal

-- the parts so far
abbrev pub invariant-loop-i : goal.invariant-loop-i
invariant-loop-i l = l.parts.items ≡ take l.i (subs l.period l.unit)
