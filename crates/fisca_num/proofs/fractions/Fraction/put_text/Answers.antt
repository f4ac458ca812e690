use Rattle.std.proofs.Common.{◌∙◌, ap}
use Rattle.fisca_num.proofs.Written.{no_numeral}
use Rattle.fisca_num.proofs.fractions.Fraction.put_text.Goals as goal

pub returns-in-None-clause-text : goal.returns-in-None-clause-text
returns-in-None-clause-text c = c.put_fraction.ensures.text ∙ no_numeral c.args.self (rw (ap (λ n. n.denominator) c.self.view_is) at c.in-None.ensures)
