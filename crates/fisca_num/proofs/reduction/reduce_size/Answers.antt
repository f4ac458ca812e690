use Rattle.std.proofs.Common.{◌∙◌, arith, Err}
use Rattle.fisca_num.specs.declared.faults.NumFault.TheVariants.{ZeroDivisor}
use Rattle.fisca_num.specs.Lowest.{gcd_pos}
use Rattle.fisca_num.proofs.Cut.{cut_lowest, cut_same}
use Rattle.fisca_num.specs.Operations.{only_number_of}
use Rattle.fisca_num.proofs.reduction.reduce_size.Goals as goal

pub returns-then-denominator-eq0 : goal.returns-then-denominator-eq0
returns-then-denominator-eq0 c = only_number_of _ (Err ZeroDivisor) c.if-denominator-eq0.true

pub nonzero_div-size : goal.nonzero_div-size
nonzero_div-size c = gcd_pos _ _ _ c.wide_gcd-divisor.ensures (omega arith)

pub nonzero_div-denominator : goal.nonzero_div-denominator
nonzero_div-denominator c = gcd_pos _ _ _ c.wide_gcd-divisor.ensures (omega arith)

pub from_lowest-requires : goal.from_lowest-requires
from_lowest-requires c = cut_lowest _ _ _ _ c.wide_gcd-divisor.ensures (omega arith)

pub returns : goal.returns
returns c = c.from_lowest.ensures ∙ cut_same _ _ _ _ c.wide_gcd-divisor.ensures (omega arith)
