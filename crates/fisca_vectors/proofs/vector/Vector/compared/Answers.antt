use Rattle.std.proofs.Common.{arith, ◌≡◌, length, ap, sym, ◌∙◌}
use Rattle.fisca_vectors.specs.Compared.{brought_test, IsTested}
use Rattle.fisca_vectors.proofs.Compared.{compares}
use Rattle.fisca_vectors.proofs.Fitting.{left_fits, right_fits}
use Rattle.fisca_vectors.proofs.Operated.{IsBeside}
use Rattle.fisca_vectors.proofs.Terms.{count}
use Rattle.fisca_vectors.proofs.vector.Vector.compared.Goals as goal

pub tested-requires-clause-has : goal.tested-requires-clause-has
tested-requires-clause-has g c =
    let ns = c.self.inside.numerators.items in
    let e : length c.args.self.now ≡ length ns = sym (ap length c.self.view_is) ∙ count c.self.inside.denominator ns in
    rw c.deref.ensures.value (λ k lt. c.requires.has k (omega (arith, e)))

pub tested-requires-clause-left_fits : goal.tested-requires-clause-left_fits
tested-requires-clause-left_fits g c =
    rw c.deref.ensures.value (left_fits _ _ _ c.in-Some.level.left_bound c.self.inside.numerators.items c.self.invariant c.in-Some.ensures.left_bound c.in-Some.ensures.left_fits)

pub tested-requires-clause-right_fits : goal.tested-requires-clause-right_fits
tested-requires-clause-right_fits g c =
    let ns = c.self.inside.numerators.items in
    let e : length c.args.self.now ≡ length ns = sym (ap length c.self.view_is) ∙ count c.self.inside.denominator ns in
    let beside : IsBeside (length ns) c.args.denominator c.args.bound (g.S.Side.at c.args.right.now) = record { positive = c.requires.some; below = c.requires.below; bound_below = c.requires.bound_below; bounded = λ k lt. c.requires.bounded k (omega (arith, e)) } in
    rw c.deref.ensures.value (right_fits (length ns) _ _ _ c.in-Some.level.right_bound (g.S.Side.at c.args.right.now) beside c.in-Some.ensures.right_bound c.in-Some.ensures.right_fits)

pub returns : goal.returns
returns g c =
    let ns = c.self.inside.numerators.items in
    let e : length c.args.self.now ≡ length ns = sym (ap length c.self.view_is) ∙ count c.self.inside.denominator ns in
    let beside : IsBeside (length ns) c.args.denominator c.args.bound (g.S.Side.at c.args.right.now) = record { positive = c.requires.some; below = c.requires.below; bound_below = c.requires.bound_below; bounded = λ k lt. c.requires.bounded k (omega (arith, e)) } in
    let tested : IsTested (brought_test c.args.comparison c.in-Some.level.factors.left c.in-Some.level.factors.right) ns (g.S.Side.at c.args.right.now) c.in_ok-flags.flags.items = rw c.deref.ensures.value at c.in_ok-flags.ensures in
    rw (← c.self.view_is) (compares c.args.comparison _ _ _ _ _ _ _ _ _ _ c.self.invariant beside c.in-Some.ensures.level tested)
