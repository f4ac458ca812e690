use Rattle.std.proofs.Common.{◌≡◌, ◌/◌, ◌≤◌, ◌-ℤ◌, ◌<ℤ◌, ◌≤ℤ◌, pos, to_z, of_z, w64, arith}
use Rattle.std.proofs.lemmas.Int.{ints}
use Rattle.std.specs.Int.{◌∣◌}
use Rattle.std.proofs.Math.Nat.{div-le_self}
use Rattle.fisca_grid.proofs.Steps.{back_above, back_below}
use Rattle.fisca_grid.proofs.axes.divided.Goals as goal

pub returns-then-a-lt0 : goal.returns-then-a-lt0
returns-then-a-lt0 c =
    let size = c.unsigned_abs.result in
    let a : to_z w64 (of_z w64 c.args.a) ≡ c.args.a = omega (arith, ints) in
    let is = rw a at c.unsigned_abs.ensures.value in
    let below : c.args.a <ℤ pos 0 = omega (arith, ints) in
    let divides : c.args.by ∣ size = rw is c.requires.divides in
    let less : size / c.args.by ≤ size = div-le_self size c.args.by in
    let word : to_z w64 (size / c.args.by) ≡ pos (size / c.args.by) = omega (arith, ints) in
    let bits : to_z w64 (of_z w64 (pos 0 -ℤ pos (size / c.args.by))) ≡ pos 0 -ℤ pos (size / c.args.by) = omega (arith, ints) in
    rw (word, bits) (back_below c.args.a size c.args.by is divides below)

pub returns-else-a-lt0 : goal.returns-else-a-lt0
returns-else-a-lt0 c =
    let size = c.unsigned_abs.result in
    let a : to_z w64 (of_z w64 c.args.a) ≡ c.args.a = omega (arith, ints) in
    let is = rw a at c.unsigned_abs.ensures.value in
    let above : pos 0 ≤ℤ c.args.a = omega (arith, ints) in
    let divides : c.args.by ∣ size = rw is c.requires.divides in
    let less : size / c.args.by ≤ size = div-le_self size c.args.by in
    let word : to_z w64 (size / c.args.by) ≡ pos (size / c.args.by) = omega (arith, ints) in
    rw word (back_above c.args.a size c.args.by is divides above)
