use Rattle.std.proofs.Common.{◌≡◌, to_z, of_z, w64, IfOk, arith, sym, subst}
use Rattle.std.proofs.lemmas.Int.{ints}
use Rattle.std.specs.Int.{w128}
use Rattle.std.specs.declared.cmp.Ordering.{Ordering}
use Rattle.fisca_num.specs.Number.{number_cmp}
use Rattle.fisca_grid.specs.Axes.{step_of}
use Rattle.fisca_grid.proofs.Orders.{order_on_line}
use Rattle.fisca_grid.proofs.axes.Axis.compare.Goals as goal

pub returns : goal.returns
returns c =
    let axis = c.args.self.now in
    let number = c.args.number in
    let place : to_z w64 (of_z w64 c.numerator_at.result) ≡ c.numerator_at.result = omega (arith, ints) in
    let numerator : to_z w64 (of_z w64 c.numerator.result) ≡ c.numerator.result = omega (arith, ints) in
    let left : to_z w128 (of_z w128 c.wide_product-left.result) ≡ c.wide_product-left.result = omega (arith, ints) in
    let right : to_z w128 (of_z w128 c.wide_product-right.result) ≡ c.wide_product-right.result = omega (arith, ints) in
    let one = rw (place, c.numerator_at.ensures.value, c.denominator.ensures) at c.wide_product-left.ensures in
    let two = rw (numerator, c.numerator.ensures) at c.wide_product-right.ensures in
    let is = rw (left, right, one, two) at c.cmp.ensures in
    subst (λ (order : Ordering). IfOk (step_of axis.spec c.args.place) (λ v. order ≡ number_cmp v number)) (sym is)
    (order_on_line axis.spec axis.first axis.increment axis.denominator axis.line c.args.place number)
