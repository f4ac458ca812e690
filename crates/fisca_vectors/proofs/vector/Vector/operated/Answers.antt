use Rattle.std.proofs.Common.{arith, ◌≡◌, ◌*◌, length, ap, sym, ◌∙◌}
use Rattle.fisca_vectors.specs.Numerators.{on_brought, on_numbers, size_of, IsMade}
use Rattle.fisca_vectors.proofs.Operated.{IsBeside, Makes, operates, made_operated}
use Rattle.fisca_vectors.proofs.Fitting.{left_fits, right_fits, both_fit}
use Rattle.fisca_vectors.proofs.Terms.{count}
use Rattle.fisca_vectors.proofs.vector.Vector.operated.Goals as goal

pub made_of-requires-clause-has : goal.made_of-requires-clause-has
made_of-requires-clause-has g c =
    let ns = c.self.inside.numerators.items in
    let e : length c.args.self.now ≡ length ns = sym (ap length c.self.view_is) ∙ count c.self.inside.denominator ns in
    rw c.deref.ensures.value (λ k lt. c.requires.has k (omega (arith, e)))

pub made_of-requires-clause-left_fits : goal.made_of-requires-clause-left_fits
made_of-requires-clause-left_fits g c =
    rw c.deref.ensures.value (left_fits _ _ _ c.in-Some.level.left_bound c.self.inside.numerators.items c.self.invariant c.in-Some.ensures.left_bound c.in-Some.ensures.left_fits)

pub made_of-requires-clause-right_fits : goal.made_of-requires-clause-right_fits
made_of-requires-clause-right_fits g c =
    let ns = c.self.inside.numerators.items in
    let e : length c.args.self.now ≡ length ns = sym (ap length c.self.view_is) ∙ count c.self.inside.denominator ns in
    let beside : IsBeside (length ns) c.args.denominator c.args.bound (g.S.Side.at c.args.right.now) = record { positive = c.requires.some; below = c.requires.below; bound_below = c.requires.bound_below; bounded = λ k lt. c.requires.bounded k (omega (arith, e)) } in
    rw c.deref.ensures.value (right_fits (length ns) _ _ _ c.in-Some.level.right_bound (g.S.Side.at c.args.right.now) beside c.in-Some.ensures.right_bound c.in-Some.ensures.right_fits)

pub made_of-requires-clause-fits : goal.made_of-requires-clause-fits
made_of-requires-clause-fits g c =
    let ns = c.self.inside.numerators.items in
    let e : length c.args.self.now ≡ length ns = sym (ap length c.self.view_is) ∙ count c.self.inside.denominator ns in
    let beside : IsBeside (length ns) c.args.denominator c.args.bound (g.S.Side.at c.args.right.now) = record { positive = c.requires.some; below = c.requires.below; bound_below = c.requires.bound_below; bounded = λ k lt. c.requires.bounded k (omega (arith, e)) } in
    let bound : c.in-Some-bound.bound ≡ size_of c.args.operation (c.self.inside.bound * c.in-Some.level.factors.left) (c.args.bound * c.in-Some.level.factors.right) = rw (c.in-Some.ensures.left_bound, c.in-Some.ensures.right_bound) at c.in-Some-bound.ensures.value in
    rw c.deref.ensures.value (both_fit c.args.operation _ _ _ _ _ _ _ ns (g.S.Side.at c.args.right.now) c.self.invariant beside bound c.in-Some-bound.ensures.below)

pub invariant_of-result : goal.invariant_of-result
invariant_of-result g c =
    let ns = c.self.inside.numerators.items in
    let e : length c.args.self.now ≡ length ns = sym (ap length c.self.view_is) ∙ count c.self.inside.denominator ns in
    let beside : IsBeside (length ns) c.args.denominator c.args.bound (g.S.Side.at c.args.right.now) = record { positive = c.requires.some; below = c.requires.below; bound_below = c.requires.bound_below; bounded = λ k lt. c.requires.bounded k (omega (arith, e)) } in
    let made : IsMade (on_brought c.args.operation c.in-Some.level.factors.left c.in-Some.level.factors.right) ns (g.S.Side.at c.args.right.now) c.in_ok-numerators.numerators.items = rw c.deref.ensures.value at c.in_ok-numerators.ensures in
    let bound : c.in-Some-bound.bound ≡ size_of c.args.operation (c.self.inside.bound * c.in-Some.level.factors.left) (c.args.bound * c.in-Some.level.factors.right) = rw (c.in-Some.ensures.left_bound, c.in-Some.ensures.right_bound) at c.in-Some-bound.ensures.value in
    (operates c.args.operation _ _ _ _ _ _ _ _ _ _ _ c.self.invariant beside c.in-Some.ensures.level c.in-Some.ensures.below bound c.in-Some-bound.ensures.below made).vector

pub returns : goal.returns
returns g c =
    let ns = c.self.inside.numerators.items in
    let e : length c.args.self.now ≡ length ns = sym (ap length c.self.view_is) ∙ count c.self.inside.denominator ns in
    let beside : IsBeside (length ns) c.args.denominator c.args.bound (g.S.Side.at c.args.right.now) = record { positive = c.requires.some; below = c.requires.below; bound_below = c.requires.bound_below; bounded = λ k lt. c.requires.bounded k (omega (arith, e)) } in
    let made : IsMade (on_brought c.args.operation c.in-Some.level.factors.left c.in-Some.level.factors.right) ns (g.S.Side.at c.args.right.now) c.in_ok-numerators.numerators.items = rw c.deref.ensures.value at c.in_ok-numerators.ensures in
    let bound : c.in-Some-bound.bound ≡ size_of c.args.operation (c.self.inside.bound * c.in-Some.level.factors.left) (c.args.bound * c.in-Some.level.factors.right) = rw (c.in-Some.ensures.left_bound, c.in-Some.ensures.right_bound) at c.in-Some-bound.ensures.value in
    rw (← c.self.view_is) (made_operated c.args.operation _ _ _ _ _ _ _ (operates c.args.operation _ _ _ _ _ _ _ _ _ _ _ c.self.invariant beside c.in-Some.ensures.level c.in-Some.ensures.below bound c.in-Some-bound.ensures.below made))
