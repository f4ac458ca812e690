use Rattle.std.proofs.Common.{◌≡◌, ℕ, to_z, of_z, w64, arith, subst}
use Rattle.std.proofs.lemmas.Int.{ints}
use Rattle.std.specs.Int.{◌∣◌}
use Rattle.fisca_grid.proofs.Steps.{line-divided, dvd-common, some_divisor, increment_within}
use Rattle.fisca_grid.proofs.axes.Axis.on_line.Goals as goal

pub divided-requires-clause-some : goal.divided-requires-clause-some
divided-requires-clause-some c = some_divisor _ _ c.common_divisor-factor.ensures.1 c.requires.line.positive

pub divided-requires-clause-divides : goal.divided-requires-clause-divides
divided-requires-clause-divides c =
    let both = dvd-common _ _ _ _ c.common_divisor-shared.ensures c.common_divisor-factor.ensures.0 in
    subst (λ (n : ℕ). c.common_divisor-factor.result ∣ n) c.unsigned_abs.ensures.value both.0

pub divided-requires-2-clause-some : goal.divided-requires-2-clause-some
divided-requires-2-clause-some c = some_divisor _ _ c.common_divisor-factor.ensures.1 c.requires.line.positive

pub divided-requires-2-clause-divides : goal.divided-requires-2-clause-divides
divided-requires-2-clause-divides c =
    let both = dvd-common _ _ _ _ c.common_divisor-shared.ensures c.common_divisor-factor.ensures.0 in
    subst (λ (n : ℕ). c.common_divisor-factor.result ∣ n) c.unsigned_abs-2.ensures.value both.1

pub divided-requires-2-clause-within : goal.divided-requires-2-clause-within
divided-requires-2-clause-within c =
    let increment : to_z w64 (of_z w64 c.args.increment) ≡ c.args.increment = omega (arith, ints) in
    rw increment (increment_within _ _ _ _ c.requires.some c.requires.line)

pub nonzero_div-result : goal.nonzero_div-result
nonzero_div-result c = some_divisor _ _ c.common_divisor-factor.ensures.1 c.requires.line.positive

pub invariant_of-result : goal.invariant_of-result
invariant_of-result c =
    let first : to_z w64 (of_z w64 c.args.first) ≡ c.args.first = omega (arith, ints) in
    let increment : to_z w64 (of_z w64 c.args.increment) ≡ c.args.increment = omega (arith, ints) in
    let one : to_z w64 (of_z w64 c.divided.result) ≡ c.divided.result = omega (arith, ints) in
    let two : to_z w64 (of_z w64 c.divided-2.result) ≡ c.divided-2.result = omega (arith, ints) in
    let first_is = rw first at c.divided.ensures in
    let increment_is = rw increment at c.divided-2.ensures in
    let some = some_divisor _ _ c.common_divisor-factor.ensures.1 c.requires.line.positive in
    rw (one, two) (record { some = c.requires.some; line = line-divided _ _ _ _ _ _ _ c.requires.line some c.common_divisor-factor.ensures.1 first_is increment_is })
