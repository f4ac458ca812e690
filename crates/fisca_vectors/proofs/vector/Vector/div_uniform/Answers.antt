use Rattle.std.proofs.Common.{◌≡◌, ap, sym, ◌∙◌, Ok}
use Rattle.fisca_num.specs.Number.{one_number}
use Rattle.fisca_num.specs.Operations.{product_of, quotient_of}
use Rattle.fisca_vectors.specs.Vectors.{lane, IsOfEach}
use Rattle.fisca_vectors.proofs.Lifted.{lifted}
use Rattle.fisca_vectors.proofs.Multiplied.{quotient_is}
use Rattle.fisca_vectors.proofs.vector.Vector.div_uniform.Goals as goal

pub returns-in-Ok : goal.returns-in-Ok
returns-in-Ok c =
    let a = c.args.self.now in
    let v = c.args.other in
    let r = c.in-Ok.inverse in
    let one : quotient_of one_number v ≡ Ok r = ap (λ z. quotient_of z v) (sym c.one.ensures) ∙ sym c.in-Ok.ensures in
    lifted (λ w. IsOfEach (λ x. product_of x r) a w) (λ w. IsOfEach (λ x. quotient_of x v) a w)
    (λ w h. record { lanes = h.lanes; each = λ k lt. quotient_is (lane a k) v r one ∙ h.each k lt }) _ c.mul_uniform.ensures
