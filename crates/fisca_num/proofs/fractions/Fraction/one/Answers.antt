use Rattle.std.proofs.Common.{refl}
use Rattle.fisca_num.specs.Number.{same_number, one_number}
use Rattle.fisca_num.proofs.fractions.Fraction.one.Goals as goal

pub invariant_of-result : goal.invariant_of-result
invariant_of-result c = (one_number.lowest, (one_number.within, tt))

pub returns : goal.returns
returns c = same_number _ one_number refl refl
