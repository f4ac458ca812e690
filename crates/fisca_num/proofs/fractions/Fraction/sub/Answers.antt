use Rattle.std.proofs.Common.{◌∙◌, ap, sym}
use Rattle.fisca_num.specs.Operations.{sum_of}
use Rattle.fisca_num.proofs.Sums.{difference_is}
use Rattle.fisca_num.proofs.fractions.Fraction.sub.Goals as goal

pub returns : goal.returns
returns c = c.add.ensures ∙ ap (sum_of c.args.self) c.neg.ensures ∙ sym (difference_is c.args.self c.args.other)
