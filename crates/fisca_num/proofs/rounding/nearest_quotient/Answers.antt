use Rattle.std.specs.declared.cmp.Ordering.TheVariants.{Less, Equal, Greater}
use Rattle.fisca_num.proofs.Near.{by_rest, nearest_small}
use Rattle.fisca_num.proofs.rounding.nearest_quotient.Goals as goal

pub returns-in-Less-clause-value : goal.returns-in-Less-clause-value
returns-in-Less-clause-value c = by_rest c.args.size c.args.denominator c.requires.some Less c.in-Less.ensures

pub returns-in-Equal-clause-value : goal.returns-in-Equal-clause-value
returns-in-Equal-clause-value c = by_rest c.args.size c.args.denominator c.requires.some Equal c.in-Equal.ensures

pub returns-in-Greater-clause-value : goal.returns-in-Greater-clause-value
returns-in-Greater-clause-value c = by_rest c.args.size c.args.denominator c.requires.some Greater c.in-Greater.ensures

pub returns-in-Equal-clause-small : goal.returns-in-Equal-clause-small
returns-in-Equal-clause-small c = rw (by_rest c.args.size c.args.denominator c.requires.some Equal c.in-Equal.ensures) (nearest_small c.args.size c.args.denominator c.requires.some)

pub returns-in-Greater-clause-small : goal.returns-in-Greater-clause-small
returns-in-Greater-clause-small c = rw (by_rest c.args.size c.args.denominator c.requires.some Greater c.in-Greater.ensures) (nearest_small c.args.size c.args.denominator c.requires.some)
