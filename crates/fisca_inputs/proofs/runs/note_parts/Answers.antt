use Rattle.std.proofs.Common.{arith}
use Rattle.fisca_inputs.proofs.Filled.{rest_filled}
use Rattle.fisca_inputs.proofs.runs.note_parts.Goals as goal

pub loop-i-preserved : goal.loop-i-preserved
loop-i-preserved c =
    let g = c.args.given.now in
    let i = c.loop-i.i in
    let noted = c.in_ok-i.ensures in
    record {
      filled = λ es there all. noted.filled es (rest_filled c.args.unit g es i c.part_at.result c.part_at.ensures c.args.count c.requires there) (c.loop-i.invariant.filled es there all);
      bound = omega (arith, noted.some, c.loop-i-test.true);
    }
