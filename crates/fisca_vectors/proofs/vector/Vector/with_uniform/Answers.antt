use Rattle.std.proofs.Common.{rules, ◌≡◌, ◌∙◌, w64, to_z, of_z, FitsSigned}
use Rattle.std.proofs.lemmas.Int.{to_z-of_z}
use Rattle.fisca_vectors.specs.Vectors.{IsOfEach}
use Rattle.fisca_vectors.specs.Numerators.{lane_of, on_numbers, IsOperated}
use Rattle.fisca_vectors.proofs.Lifted.{lifted}
use Rattle.fisca_vectors.proofs.Operated.{by_uniform}
use Rattle.fisca_vectors.proofs.vector.Vector.with_uniform.Goals as goal

pub returns : goal.returns
returns c =
    let v = c.args.other in
    let fits : FitsSigned w64 c.numerator-numerator.result = search rules in
    let e : to_z w64 (of_z w64 c.numerator-numerator.result) ≡ v.numerator = to_z-of_z w64 c.numerator-numerator.result fits ∙ c.numerator-numerator.ensures in
    lifted (λ c'. IsOperated c.args.operation c.args.self.now (λ _. lane_of v.denominator v.numerator) c') (λ c'. IsOfEach (λ x. on_numbers c.args.operation x v) c.args.self.now c')
    (λ c' h. by_uniform c.args.operation v c.args.self.now c' h) _ (rw (e, c.denominator-denominator.ensures) at c.operated.ensures)
