use Rattle.fisca_num.proofs.Fives.{IsFreed}
use Rattle.fisca_num.proofs.reduction.reduce_tens.Given as goal

abbrev pub invariant-loop-left : goal.invariant-loop-left
invariant-loop-left l = IsFreed l.fn.size l.fn.denominator l.left l.under

abbrev pub decreases-loop-left : goal.decreases-loop-left
decreases-loop-left l = l.under
