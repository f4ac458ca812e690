use Rattle.std.proofs.Common.{◌/◌, arith}
use Rattle.std.proofs.lemmas.Fmt.{decimal_nonempty}
use Rattle.fisca_num.proofs.Spelled.{length_pair, next_pair}
use Rattle.fisca_num.proofs.spelling.put_number.Goals as goal

pub put_byte-start-requires-clause-some : goal.put_byte-start-requires-clause-some
put_byte-start-requires-clause-some c = let more = length_pair c.loop-rest.rest c.loop-rest-test.true (omega arith) in omega arith

pub put_byte-start-requires-in-loop-rest-clause-some : goal.put_byte-start-requires-in-loop-rest-clause-some
put_byte-start-requires-in-loop-rest-clause-some c =
    let more = length_pair c.loop-rest.rest c.loop-rest-test.true (omega arith) in
    omega (arith, decimal_nonempty (c.loop-rest.rest / 100) (omega arith))

pub loop-rest-preserved : goal.loop-rest-preserved
loop-rest-preserved c =
    let more = length_pair c.loop-rest.rest c.loop-rest-test.true (omega arith) in
    record {
      room = omega arith;
      place = omega arith;
      within = omega arith;
      text = next_pair c.loop-rest.rest _ _ _ _ c.loop-rest-test.true (omega arith) c.put_byte-start.ensures.text c.put_byte-start-in-loop-rest.ensures.text c.loop-rest.invariant.text;
    }
