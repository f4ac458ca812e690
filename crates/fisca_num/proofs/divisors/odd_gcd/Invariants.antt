use Rattle.std.proofs.Common.{◌≡◌, ◌+◌, ◌%◌, ℕ}
use Rattle.std.specs.Int.{IsGcd}
use Rattle.fisca_num.proofs.divisors.odd_gcd.Given as goal

abbrev pub invariant-loop-x : goal.invariant-loop-x
invariant-loop-x l = record {
  x_odd : l.x % 2 ≡ 1;
  y_odd : l.y % 2 ≡ 1;
  gcd : (g : ℕ) → IsGcd l.x l.y g → IsGcd l.fn.a l.fn.b g;
}

abbrev pub decreases-loop-x : goal.decreases-loop-x
decreases-loop-x l = l.x + l.y
