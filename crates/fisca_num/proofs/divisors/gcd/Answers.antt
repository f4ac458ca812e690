use Rattle.std.proofs.Common.{◌≡◌, arith, refl, min}
use Rattle.std.proofs.Math.Nat.{one-dvd}
use Rattle.fisca_num.proofs.Halving.{with_twos, word_gcd}
use Rattle.fisca_num.proofs.divisors.gcd.Goals as goal
use Rattle.fisca_num.proofs.divisors.gcd.Goals.{then-a-eq1-via-then-a-eq1, then-a-eq1-via-else-a-eq1+then-b-eq1}

pub returns-then-a-eq1 : goal.returns-then-a-eq1
returns-then-a-eq1 c = (
  one-dvd _,
  one-dvd _,
  elim c.then-a-eq1.branch [
    | then-a-eq1-via-then-a-eq1 w ↦ λ d p q. rw w.if-a-eq1.true at p
    | then-a-eq1-via-else-a-eq1+then-b-eq1 w ↦ λ d p q. rw w.if-b-eq1.true at q
  ],
)

pub returns : goal.returns
returns c =
    let least : c.min.result ≡ min c.halvings-twos.result c.halvings-more_twos.result = c.min.ensures in
    word_gcd c.args.a c.args.b _ _ (omega arith) (omega arith) (with_twos _ _ _ _ _ c.halvings-twos.ensures c.halvings-more_twos.ensures c.odd_gcd.ensures) (rw least refl)
