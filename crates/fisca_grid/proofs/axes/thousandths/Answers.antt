use Rattle.std.proofs.Common.{◌≡◌, ◌*ℤ◌, pos, to_z, of_z, w64, arith, ap, ◌∙◌}
use Rattle.std.proofs.lemmas.Int.{ints}
use Rattle.fisca_grid.proofs.Steps.{bound_value, bound_size}
use Rattle.fisca_grid.proofs.axes.thousandths.Goals as goal

pub times-requires-clause-within : goal.times-requires-clause-within
times-requires-clause-within c =
    let bits : to_z w64 (of_z w64 c.numerator.result) ≡ c.numerator.result = omega (arith, ints) in
    let size = bound_size c.args.bound c.requires in
    rw (bits, c.numerator.ensures, c.denominator.ensures) (omega (arith, size))

pub returns : goal.returns
returns c =
    let bits : to_z w64 (of_z w64 c.numerator.result) ≡ c.numerator.result = omega (arith, ints) in
    let product : to_z w64 (of_z w64 c.times.result) ≡ c.times.result = omega (arith, ints) in
    let value = rw (bits, c.numerator.ensures, c.denominator.ensures) at c.times.ensures.value in
    let size = rw (bits, c.numerator.ensures, c.denominator.ensures) at c.times.ensures.size in
    rw product (record {
      value = ap (λ z. z *ℤ pos c.args.bound.denominator) value ∙ bound_value c.args.bound c.requires;
      size = rw size (bound_size c.args.bound c.requires);
    })
