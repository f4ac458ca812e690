use Rattle.std.proofs.Common.{◌≡◌, unsigned_abs, to_z, of_z, w64, arith, refl}
use Rattle.std.proofs.lemmas.Int.{ints}
use Rattle.fisca_grid.proofs.Sizes.{abs-line}
use Rattle.fisca_grid.proofs.Steps.{below_within}
use Rattle.fisca_grid.proofs.axes.Axis.numerator_at.Goals as goal

pub along-requires-clause-within : goal.along-requires-clause-within
along-requires-clause-within c =
    let axis = c.args.self.now in
    let first : to_z w64 (of_z w64 axis.first) ≡ axis.first = omega (arith, ints) in
    let increment : to_z w64 (of_z w64 axis.increment) ≡ axis.increment = omega (arith, ints) in
    rw (first, increment) (below_within c.args.place axis.spec.count (unsigned_abs axis.first) (unsigned_abs axis.increment) c.requires axis.line.within)

pub returns : goal.returns
returns c =
    let axis = c.args.self.now in
    let first : to_z w64 (of_z w64 axis.first) ≡ axis.first = omega (arith, ints) in
    let increment : to_z w64 (of_z w64 axis.increment) ≡ axis.increment = omega (arith, ints) in
    let place = rw (first, increment) at c.along.ensures in
    let size = abs-line axis.first axis.increment c.args.place in
    let bits : to_z w64 (of_z w64 c.along.result) ≡ c.along.result = omega (arith, ints) in
    rw (bits, place) (record {
      value = refl;
      within = omega (arith, size, below_within c.args.place axis.spec.count (unsigned_abs axis.first) (unsigned_abs axis.increment) c.requires axis.line.within);
    })
