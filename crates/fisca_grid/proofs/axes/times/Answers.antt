use Rattle.std.proofs.Common.{◌≡◌, ◌*ℤ◌, pos, SFits, to_z, of_z, w64, arith, refl}
use Rattle.std.proofs.lemmas.Int.{ints, unsigned_abs-mul}
use Rattle.fisca_grid.proofs.Sizes.{product_fits}
use Rattle.fisca_grid.proofs.axes.times.Goals as goal

pub overflow_mul-result : goal.overflow_mul-result
overflow_mul-result c =
    let a : to_z w64 (of_z w64 c.args.a) ≡ c.args.a = omega (arith, ints) in
    let by : to_z w64 c.args.by ≡ pos c.args.by = omega (arith, ints) in
    rw (a, by) (product_fits c.args.a (pos c.args.by) c.requires.within)

pub returns : goal.returns
returns c =
    let a : to_z w64 (of_z w64 c.args.a) ≡ c.args.a = omega (arith, ints) in
    let by : to_z w64 c.args.by ≡ pos c.args.by = omega (arith, ints) in
    let fits : SFits w64 (c.args.a *ℤ pos c.args.by) = product_fits c.args.a (pos c.args.by) c.requires.within in
    let product : to_z w64 (of_z w64 (c.args.a *ℤ pos c.args.by)) ≡ c.args.a *ℤ pos c.args.by = omega (arith, ints) in
    rw (a, by, product) (record { value = refl; size = unsigned_abs-mul c.args.a (pos c.args.by) })
