use Rattle.std.proofs.Common.{arith, ◌≡◌, length, ap, sym, ◌∙◌, ◌<◌, ◌≤◌, ◌*◌, ◌^◌}
use Rattle.fisca_vectors.specs.Moved.{widened}
use Rattle.fisca_vectors.specs.Numerators.{lanes_of}
use Rattle.fisca_vectors.specs.Selected.{scattered}
use Rattle.fisca_vectors.proofs.Moved.{scatters, Scatters}
use Rattle.fisca_vectors.proofs.vector.Vector.scatter.Goals as goal
use Rattle.fisca_vectors.proofs.vector.Vector.scatter.Goals.{In_ok-numerators}

made : (c : In_ok-numerators) → Scatters c.args.places.now c.self.inside.denominator c.other.inside.denominator c.in-Some.level.denominator c.max-bound.result c.self.inside.numerators.items c.other.inside.numerators.items c.in_ok-numerators.numerators.items
made c =
    let m : c.in_ok-numerators.numerators.items ≡ scattered c.args.places.now (widened c.in-Some.level.factors.left c.self.inside.numerators.items) (widened c.in-Some.level.factors.right c.other.inside.numerators.items) = rw (c.deref.ensures.value, c.deref-2.ensures.value) at c.in_ok-numerators.ensures in
    let e = c.in-Some.ensures in
    let h = c.max-bound.ensures in
    let left : c.self.inside.bound * c.in-Some.level.factors.left ≤ c.max-bound.result = omega arith in
    let right : c.other.inside.bound * c.in-Some.level.factors.right ≤ c.max-bound.result = omega arith in
    let fits : c.max-bound.result < 2 ^ 63 = omega arith in
    scatters _ _ _ _ _ _ _ _ _ _ _ _ c.self.invariant c.other.invariant c.in-Some.ensures.level c.in-Some.ensures.below left right fits m

pub invariant_of-result : goal.invariant_of-result
invariant_of-result c = (made c).vector

pub returns : goal.returns
returns c = (made c).lanes ∙ ap (λ z. scattered c.args.places.now z (lanes_of c.other.inside.denominator c.other.inside.numerators.items)) c.self.view_is ∙ ap (λ z. scattered c.args.places.now c.args.self.now z) c.other.view_is
