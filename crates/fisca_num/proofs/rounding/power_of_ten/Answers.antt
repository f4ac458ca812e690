use Rattle.fisca_num.specs.Digits.{ten_pos}
use Rattle.fisca_num.proofs.rounding.power_of_ten.Goals as goal

pub returns-clause-some : goal.returns-clause-some
returns-clause-some c = rw c.pow.ensures (ten_pos _)
