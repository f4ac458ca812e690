use Rattle.std.proofs.Common.{◌+◌, ◌-◌, ◌%◌, ◌^◌, arith, refl}
use Rattle.std.proofs.Math.Nat.{one-dvd}
use Rattle.std.proofs.lemmas.Nat.Gcd.{dvd_refl}
use Rattle.fisca_num.proofs.Halving.{IsStep, step_gcd, step_odd}
use Rattle.fisca_num.proofs.divisors.odd_gcd.Goals as goal
use Rattle.fisca_num.proofs.divisors.odd_gcd.Goals.{then-a-eq1-via-then-a-eq1, then-a-eq1-via-else-a-eq1+then-b-eq1}

pub returns-then-a-eq1 : goal.returns-then-a-eq1
returns-then-a-eq1 c = (
  one-dvd _,
  one-dvd _,
  elim c.then-a-eq1.branch [
    | then-a-eq1-via-then-a-eq1 w ↦ λ d p q. rw w.if-a-eq1.true at p
    | then-a-eq1-via-else-a-eq1+then-b-eq1 w ↦ λ d p q. rw w.if-b-eq1.true at q
  ],
)

pub loop-x-preserved : goal.loop-x-preserved
loop-x-preserved c =
    let s : IsStep c.loop-x.x c.loop-x.y ((c.loop-x.x + (2 ^ 64 - c.loop-x.y)) % 2 ^ 64) c.halvings-twos.result c.abs_diff.result = record {
      x_odd = c.loop-x.invariant.x_odd;
      y_odd = c.loop-x.invariant.y_odd;
      x_word = omega arith;
      y_word = omega arith;
      other = c.loop-x-test.true;
      difference = refl;
      halved = c.halvings-twos.ensures;
      gap_is = c.abs_diff.ensures;
    } in
    let odd = step_odd _ _ _ _ _ s in
    record {
      x_odd = rw c.min-less.ensures odd.0;
      y_odd = odd.1;
      gcd = λ g h. c.loop-x.invariant.gcd g (step_gcd _ _ _ _ _ g s (rw c.min-less.ensures at h));
    }

pub returns : goal.returns
returns c = c.loop-x.invariant.gcd _ (dvd_refl _, rw c.loop-x-test.false (dvd_refl _), λ d p q. p)
