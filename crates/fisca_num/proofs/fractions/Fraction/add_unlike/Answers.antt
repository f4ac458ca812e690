use Rattle.std.proofs.Common.{◌≡◌, ◌∙◌, ◌/◌, arith, ap, to_z, of_z, w64}
use mir.Syntax.{w128}
use Rattle.std.proofs.lemmas.Int.{ints}
use Rattle.fisca_num.specs.Lowest.{gcd_pos}
use Rattle.fisca_num.proofs.Sums.{IsSum, crossed_sum, left_some, sum_only, sum_number}
use Rattle.fisca_num.proofs.fractions.Fraction.add_unlike.Goals as goal

pub quotient_by-left-requires : goal.quotient_by-left-requires
quotient_by-left-requires c = gcd_pos _ _ _ c.gcd-shared.ensures c.other.inside.lowest.positive

pub quotient_by-right-requires : goal.quotient_by-right-requires
quotient_by-right-requires c = gcd_pos _ _ _ c.gcd-shared.ensures c.other.inside.lowest.positive

pub reduce_shared-requires-clause-left : goal.reduce_shared-requires-clause-left
reduce_shared-requires-clause-left c =
    let b : c.self.inside.denominator ≡ c.args.self.denominator = ap (λ x. x.denominator) c.self.view_is in
    let d : c.other.inside.denominator ≡ c.args.other.denominator = ap (λ x. x.denominator) c.other.view_is in
    let sum : IsSum c.args.self c.args.other c.gcd-shared.result c.quotient_by-left.result c.quotient_by-right.result = record {
      gcd = rw (b, d) at c.gcd-shared.ensures;
      left_is = c.quotient_by-left.ensures ∙ ap (λ z. z / c.gcd-shared.result) b;
      right_is = c.quotient_by-right.ensures ∙ ap (λ z. z / c.gcd-shared.result) d;
    } in
    left_some c.args.self c.args.other c.gcd-shared.result c.quotient_by-left.result c.quotient_by-right.result sum

pub reduce_shared-requires-clause-only : goal.reduce_shared-requires-clause-only
reduce_shared-requires-clause-only c =
    let b : c.self.inside.denominator ≡ c.args.self.denominator = ap (λ x. x.denominator) c.self.view_is in
    let d : c.other.inside.denominator ≡ c.args.other.denominator = ap (λ x. x.denominator) c.other.view_is in
    let sum : IsSum c.args.self c.args.other c.gcd-shared.result c.quotient_by-left.result c.quotient_by-right.result = record {
      gcd = rw (b, d) at c.gcd-shared.ensures;
      left_is = c.quotient_by-left.ensures ∙ ap (λ z. z / c.gcd-shared.result) b;
      right_is = c.quotient_by-right.ensures ∙ ap (λ z. z / c.gcd-shared.result) d;
    } in
    let n : to_z w64 (of_z w64 c.self.inside.numerator) ≡ c.args.self.numerator = let e : to_z w64 (of_z w64 c.self.inside.numerator) ≡ c.self.inside.numerator = omega (arith, ints) in e ∙ ap (λ x. x.numerator) c.self.view_is in
    let m : to_z w64 (of_z w64 c.other.inside.numerator) ≡ c.args.other.numerator = let e : to_z w64 (of_z w64 c.other.inside.numerator) ≡ c.other.inside.numerator = omega (arith, ints) in e ∙ ap (λ x. x.numerator) c.other.view_is in
    let same : to_z w128 (of_z w128 c.crossed-sum.result) ≡ crossed_sum c.args.self c.args.other c.quotient_by-left.result c.quotient_by-right.result =
    let e : to_z w128 (of_z w128 c.crossed-sum.result) ≡ c.crossed-sum.result = omega (arith, ints) in e ∙ (rw (n, m) at c.crossed-sum.ensures.value) in
    rw (same, d) (sum_only c.args.self c.args.other c.gcd-shared.result c.quotient_by-left.result c.quotient_by-right.result sum)

pub returns : goal.returns
returns c =
    let b : c.self.inside.denominator ≡ c.args.self.denominator = ap (λ x. x.denominator) c.self.view_is in
    let d : c.other.inside.denominator ≡ c.args.other.denominator = ap (λ x. x.denominator) c.other.view_is in
    let sum : IsSum c.args.self c.args.other c.gcd-shared.result c.quotient_by-left.result c.quotient_by-right.result = record {
      gcd = rw (b, d) at c.gcd-shared.ensures;
      left_is = c.quotient_by-left.ensures ∙ ap (λ z. z / c.gcd-shared.result) b;
      right_is = c.quotient_by-right.ensures ∙ ap (λ z. z / c.gcd-shared.result) d;
    } in
    let n : to_z w64 (of_z w64 c.self.inside.numerator) ≡ c.args.self.numerator = let e : to_z w64 (of_z w64 c.self.inside.numerator) ≡ c.self.inside.numerator = omega (arith, ints) in e ∙ ap (λ x. x.numerator) c.self.view_is in
    let m : to_z w64 (of_z w64 c.other.inside.numerator) ≡ c.args.other.numerator = let e : to_z w64 (of_z w64 c.other.inside.numerator) ≡ c.other.inside.numerator = omega (arith, ints) in e ∙ ap (λ x. x.numerator) c.other.view_is in
    let same : to_z w128 (of_z w128 c.crossed-sum.result) ≡ crossed_sum c.args.self c.args.other c.quotient_by-left.result c.quotient_by-right.result =
    let e : to_z w128 (of_z w128 c.crossed-sum.result) ≡ c.crossed-sum.result = omega (arith, ints) in e ∙ (rw (n, m) at c.crossed-sum.ensures.value) in
    (rw (same, d) at c.reduce_shared.ensures) ∙ sum_number c.args.self c.args.other c.gcd-shared.result c.quotient_by-left.result c.quotient_by-right.result sum
