use Rattle.std.proofs.Common.{arith, length, ap, sym, ◌∙◌, ◌<◌, ◌≤◌, ◌*◌, ◌^◌}
use Rattle.fisca_vectors.specs.Moved.{IsMerged}
use Rattle.fisca_vectors.proofs.Terms.{same_lanes}
use Rattle.fisca_vectors.proofs.Moved.{chooses, Chooses}
use Rattle.fisca_vectors.proofs.vector.Vector.choose.Goals as goal
use Rattle.fisca_vectors.proofs.vector.Vector.choose.Goals.{In_ok-numerators}

made : (c : In_ok-numerators) → Chooses c.args.mask.now c.self.inside.denominator c.other.inside.denominator c.in-Some.level.denominator c.max-bound.result c.self.inside.numerators.items c.other.inside.numerators.items c.in_ok-numerators.numerators.items
made c =
    let m : IsMerged c.in-Some.level.factors.left c.in-Some.level.factors.right c.args.mask.now c.self.inside.numerators.items c.other.inside.numerators.items c.in_ok-numerators.numerators.items = rw (c.deref.ensures.value, c.deref-2.ensures.value, c.deref-3.ensures.value, c.mask.view_is) at c.in_ok-numerators.ensures in
    let same = same_lanes _ _ _ _ (ap length c.self.view_is ∙ c.requires.same ∙ sym (ap length c.other.view_is)) in
    let e = c.in-Some.ensures in
    let h = c.max-bound.ensures in
    let left : c.self.inside.bound * c.in-Some.level.factors.left ≤ c.max-bound.result = omega arith in
    let right : c.other.inside.bound * c.in-Some.level.factors.right ≤ c.max-bound.result = omega arith in
    let fits : c.max-bound.result < 2 ^ 63 = omega arith in
    chooses _ _ _ _ _ _ _ _ _ _ _ _ c.self.invariant c.other.invariant c.in-Some.ensures.level c.in-Some.ensures.below left right fits same m

pub invariant_of-result : goal.invariant_of-result
invariant_of-result c = (made c).vector

pub returns : goal.returns
returns c = rw (← c.self.view_is, ← c.other.view_is) (made c).lanes
