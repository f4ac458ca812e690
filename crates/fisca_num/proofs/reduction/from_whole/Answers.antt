use Rattle.std.proofs.Common.{arith}
use Rattle.std.proofs.lemmas.Int.{ints}
use Rattle.fisca_num.specs.Number.{lowest-whole}
use Rattle.fisca_num.proofs.Cut.{outside}
use Rattle.fisca_num.proofs.reduction.from_whole.Goals as goal

pub returns-in-Err : goal.returns-in-Err
returns-in-Err c = outside _ (lowest-whole _) (λ p q. c.in-Err.ensures (omega (arith, ints, p)))
