use Rattle.std.proofs.Common.{◌≡◌, ◌∙◌, ◌^◌, unsigned_abs, arith, ap}
use Rattle.std.proofs.lemmas.Int.{ints}
use Rattle.fisca_num.proofs.Rounded.{multiple_to, part_to}
use Rattle.fisca_num.proofs.fractions.Fraction.round_to.Goals as goal

pub returns-then-places-lt0 : goal.returns-then-places-lt0
returns-then-places-lt0 c =
    let size : c.unsigned_abs.result ≡ unsigned_abs c.args.places = omega (arith, ints) in
    multiple_to c.args.places c.args.self _ _ (omega (arith, ints)) (c.power_of_ten-unit.ensures.value ∙ ap (λ k. 10 ^ k) size) c.nearest_multiple.ensures

pub returns-else-places-lt0 : goal.returns-else-places-lt0
returns-else-places-lt0 c =
    let size : c.unsigned_abs.result ≡ unsigned_abs c.args.places = omega (arith, ints) in
    part_to c.args.places c.args.self _ _ (omega (arith, ints)) (c.power_of_ten-unit.ensures.value ∙ ap (λ k. 10 ^ k) size) c.nearest_part.ensures
