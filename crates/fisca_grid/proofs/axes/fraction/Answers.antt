use Rattle.std.proofs.Common.{◌≡◌, pos, to_z, of_z, w64, arith}
use Rattle.std.proofs.lemmas.Int.{ints}
use Rattle.fisca_grid.proofs.Steps.{number_fits}
use Rattle.fisca_num.specs.Operations.{number_over}
use Rattle.fisca_grid.proofs.axes.fraction.Goals as goal

pub unreachable-requires : goal.unreachable-requires
unfolding number_over
unreachable-requires c =
    let fits = number_fits c.args.numerator c.args.denominator c.requires.some c.requires.within c.requires.small in
    let numerator : to_z w64 (of_z w64 c.args.numerator) ≡ c.args.numerator = omega (arith, ints) in
    let denominator : to_z w64 c.args.denominator ≡ pos c.args.denominator = omega (arith, ints) in
    let answer = rw (numerator, denominator) at c.new.ensures in
    cc (answer, fits.1, c.in-Err.is)
