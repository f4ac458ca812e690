use Rattle.std.proofs.Common.{◌≡◌, pos, ◌∙◌, ap, sym, arith}
use Rattle.std.proofs.lemmas.Int.{ints}
use Rattle.fisca_num.specs.Operations.{number_over}
use Rattle.fisca_situations.proofs.Wholes.{part_is}
use Rattle.fisca_situations.proofs.cuts.whole_part.Goals as goal
use mir.Syntax.{w64}
use mir.Val.{to_z, of_z}

pub unreachable-requires : goal.unreachable-requires
unreachable-requires c =
    let same : to_z w64 (of_z w64 c.trunc.result) ≡ c.trunc.result = omega (arith, ints) in
    let is = part_is c.args.value in
    let there = sym is ∙ ap (λ z. number_over z (pos 1)) (sym c.trunc.ensures ∙ sym same) ∙ sym c.new.ensures ∙ c.in-Err.is in
    cc

pub returns : goal.returns
returns c =
    let same : to_z w64 (of_z w64 c.trunc.result) ≡ c.trunc.result = omega (arith, ints) in
    let is = part_is c.args.value in
    let there = sym is ∙ ap (λ z. number_over z (pos 1)) (sym c.trunc.ensures ∙ sym same) ∙ sym c.new.ensures ∙ c.in-Ok.is in
    cc
