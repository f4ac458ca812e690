use Rattle.std.proofs.Common.{◌∙◌}
use Rattle.fisca_num.specs.Lowest.{gcd_pos}
use Rattle.fisca_num.proofs.Cut.{cut_lowest, cut_same}
use Rattle.fisca_num.proofs.reduction.reduce_words.Goals as goal

pub quotient_by-requires : goal.quotient_by-requires
quotient_by-requires c = gcd_pos _ _ _ c.gcd-divisor.ensures c.requires

pub quotient_by-requires-2 : goal.quotient_by-requires-2
quotient_by-requires-2 c = gcd_pos _ _ _ c.gcd-divisor.ensures c.requires

pub from_lowest-requires : goal.from_lowest-requires
from_lowest-requires c = rw (c.from-size.ensures, c.from.ensures, c.quotient_by.ensures, c.quotient_by-2.ensures) (cut_lowest _ _ _ _ c.gcd-divisor.ensures c.requires)

pub returns : goal.returns
returns c = (rw (c.from-size.ensures, c.from.ensures, c.quotient_by.ensures, c.quotient_by-2.ensures) at c.from_lowest.ensures) ∙ cut_same _ _ _ _ c.gcd-divisor.ensures c.requires
