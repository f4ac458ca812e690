use Rattle.std.proofs.Common.{◌≡◌, ◌*◌, ◌∙◌}
use Rattle.std.proofs.Math.Nat.{mul_comm}
use Rattle.fisca_vectors.specs.Numerators.{lanes_of}
use Rattle.fisca_vectors.proofs.Lifted.{raised}
use Rattle.fisca_vectors.proofs.Moved.{narrower}
use Rattle.fisca_vectors.proofs.vector.Vector.tidied.Goals as goal

pub returns-in-Some-2 : goal.returns-in-Some-2
returns-in-Some-2 c =
    let d = c.self.inside.denominator in
    let by = c.common_divisor-by.result in
    let f : c.in-Some.denominator * by ≡ d = mul_comm c.in-Some.denominator by ∙ c.in-Some.ensures.value in
    let said = rw (c.in-Some-2.is, c.deref-2.ensures.value) at c.in_ok-numerators.ensures in
    raised (λ v. v ≡ lanes_of c.in-Some.denominator c.in-Some-2.numerators.items) (λ v. v ≡ c.args.self.now)
    (λ v h. h ∙ narrower c.in-Some.denominator by d _ _ c.in-Some.ensures.some c.self.invariant.positive f said.lanes said.each ∙ c.self.view_is) _ c.new.ensures
