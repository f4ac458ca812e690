use Rattle.std.proofs.Common.{◌≡◌, ◌+◌, ◌-◌, arith}
use Rattle.fisca_num.proofs.Division.{divided_more, divided_end, take_step}
use Rattle.fisca_num.proofs.spelling.put_division.Goals as goal

pub loop-index-preserved : goal.loop-index-preserved
loop-index-preserved c =
    let count : c.loop-index.index + 1 - c.args.start ≡ c.loop-index.index - c.args.start + 1 = omega arith in
    rw (take_step c.loop-index.buffer c.args.start c.loop-index.index _ (omega arith) (omega arith), count, c.from-tenfold.ensures, c.from-divisor.ensures) (divided_more _ _ _ _ _ c.loop-index.invariant)

pub returns-clause-value : goal.returns-clause-value
returns-clause-value c = divided_end _ _ c.loop-index.left _ c.loop-index.index _ _ (omega arith) (omega arith) c.requires.ends c.loop-index.invariant
