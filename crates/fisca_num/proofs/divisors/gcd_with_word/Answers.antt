use Rattle.std.proofs.lemmas.Nat.Gcd.{IsGcd-from_mod}
use Rattle.std.proofs.Math.Nat.{one-dvd}
use Rattle.fisca_num.proofs.divisors.gcd_with_word.Goals as goal

pub returns-then-b-eq1 : goal.returns-then-b-eq1
returns-then-b-eq1 c = (one-dvd _, one-dvd _, λ d p q. rw c.if-b-eq1.true at q)

pub returns-else-a-le-WORD : goal.returns-else-a-le-WORD
returns-else-a-le-WORD c = IsGcd-from_mod _ _ _ (rw c.from.ensures at c.gcd-else-a-le-WORD.ensures)
