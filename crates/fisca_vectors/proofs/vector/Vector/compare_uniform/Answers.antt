use Rattle.std.proofs.Common.{rules, ◌≡◌, ◌∙◌, w64, to_z, of_z, FitsSigned}
use Rattle.std.proofs.lemmas.Int.{to_z-of_z}
use Rattle.fisca_vectors.specs.Vectors.{IsComparedWith}
use Rattle.fisca_vectors.specs.Numerators.{lane_of}
use Rattle.fisca_vectors.specs.Compared.{IsComparedBeside}
use Rattle.fisca_vectors.proofs.Lifted.{lifted}
use Rattle.fisca_vectors.proofs.Compared.{compared_by_uniform}
use Rattle.fisca_vectors.proofs.vector.Vector.compare_uniform.Goals as goal

pub returns : goal.returns
returns c =
    let v = c.args.other in
    let fits : FitsSigned w64 c.numerator-numerator.result = search rules in
    let e : to_z w64 (of_z w64 c.numerator-numerator.result) ≡ v.numerator = to_z-of_z w64 c.numerator-numerator.result fits ∙ c.numerator-numerator.ensures in
    lifted (λ m. IsComparedBeside c.args.comparison c.args.self.now (λ _. lane_of v.denominator v.numerator) m) (λ m. IsComparedWith c.args.comparison c.args.self.now v m)
    (λ m h. compared_by_uniform c.args.comparison v c.args.self.now m h) _ (rw (e, c.denominator-denominator.ensures) at c.compared.ensures)
