use Rattle.std.proofs.Common.{◌≡◌, ◌∙◌, ap, sym, pos, arith}
use Rattle.std.proofs.lemmas.Int.{ints}
use Rattle.fisca_num.specs.Operations.{number_over}
use Rattle.fisca_inputs.specs.Steps.Sharing.{computed}
use Rattle.fisca_inputs.proofs.Parting.{whole_there, part_by}
use Rattle.fisca_inputs.proofs.sharing.share_of.Goals as goal
use mir.Syntax.{w64}
use mir.Val.{to_z, of_z}

pub unreachable-requires : goal.unreachable-requires
unreachable-requires c =
    let same : to_z w64 (of_z w64 c.from.result) ≡ pos c.args.count = omega (arith, ints) in
    whole_there c.args.count c.in-Err.field-0 (omega (arith, c.ranges.count)) (sym (c.in-Err.ensures ∙ ap (λ z. number_over z (pos 1)) same))

pub returns : goal.returns
returns c =
    let same : to_z w64 (of_z w64 c.from.result) ≡ pos c.args.count = omega (arith, ints) in
    let part = part_by c.args.number c.in-Ok.parts c.args.count (omega (arith, c.ranges.count)) (sym (c.in-Ok.ensures ∙ ap (λ z. number_over z (pos 1)) same)) in
    c.computed.ensures ∙ ap (computed c.args.line) (c.div.ensures ∙ part)
