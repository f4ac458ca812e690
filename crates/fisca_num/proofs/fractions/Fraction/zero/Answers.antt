use Rattle.std.proofs.Common.{refl}
use Rattle.fisca_num.specs.Number.{same_number, zero_number}
use Rattle.fisca_num.proofs.fractions.Fraction.zero.Goals as goal

pub invariant_of-result : goal.invariant_of-result
invariant_of-result c = (zero_number.lowest, (zero_number.within, tt))

pub returns : goal.returns
returns c = same_number _ zero_number refl refl
