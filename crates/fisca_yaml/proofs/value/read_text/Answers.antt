use Rattle.std.proofs.Common.{ap, arith}
use Rattle.fisca_yaml_scalars.specs.Rows.{last_number}
use Rattle.fisca_yaml.proofs.value.read_text.Goals as goal

pub returns-then-inside-indent-clause-told : goal.returns-then-inside-indent-clause-told
returns-then-inside-indent-clause-told c =
    let taken = ap last_number c.in-Some.ensures.some.0 in
    (omega (arith, taken, c.loop-inside.invariant.2, c.misplaced.ensures.0), c.misplaced.ensures.1)
