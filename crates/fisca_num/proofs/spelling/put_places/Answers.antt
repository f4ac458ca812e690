use Rattle.std.proofs.Common.{arith}
use Rattle.fisca_num.proofs.Spelled.{next_place, no_place}
use Rattle.fisca_num.proofs.spelling.put_places.Goals as goal

pub loop-preserved : goal.loop-preserved
loop-preserved c = record {
  place = omega arith;
  within = omega arith;
  text = next_place _ _ c.loop.rest _ _ _ (omega arith) c.put_byte-start.ensures.text c.loop.invariant.text;
}

pub returns-clause-text : goal.returns-clause-text
returns-clause-text c = no_place _ c.loop.rest _ _ (omega arith) c.loop.invariant.text
