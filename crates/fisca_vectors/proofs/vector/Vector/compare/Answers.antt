use Rattle.std.proofs.Common.{arith, ◌≡◌, length, ap, sym, ◌∙◌}
use Rattle.fisca_vectors.specs.Vectors.{IsCompared}
use Rattle.fisca_vectors.specs.Numerators.{at, lane_of}
use Rattle.fisca_vectors.specs.Compared.{IsComparedBeside}
use Rattle.fisca_vectors.proofs.Lifted.{lifted}
use Rattle.fisca_vectors.proofs.Compared.{compared_by_vector}
use Rattle.fisca_vectors.proofs.Terms.{count}
use Rattle.fisca_vectors.proofs.vector.Vector.compare.Goals as goal

pub compared-requires-clause-has : goal.compared-requires-clause-has
compared-requires-clause-has c =
    let ms = c.other.inside.numerators.items in
    let e : length c.args.other.now ≡ length ms = sym (ap length c.other.view_is) ∙ count c.other.inside.denominator ms in
    rw c.deref.ensures.value (λ k lt. omega (arith, e, c.requires))

pub compared-requires-clause-bounded : goal.compared-requires-clause-bounded
compared-requires-clause-bounded c =
    let ms = c.other.inside.numerators.items in
    let e : length c.args.other.now ≡ length ms = sym (ap length c.other.view_is) ∙ count c.other.inside.denominator ms in
    rw c.deref.ensures.value (λ k lt. c.other.invariant.bounded k (omega (arith, e, c.requires)))

pub returns : goal.returns
returns c =
    let e = c.other.inside.denominator in
    let ms = c.other.inside.numerators.items in
    lifted (λ m. IsComparedBeside c.args.comparison c.args.self.now (λ k. lane_of e (at ms k)) m) (λ m. IsCompared c.args.comparison c.args.self.now c.args.other.now m)
    (λ m h. compared_by_vector c.args.comparison e ms c.args.self.now c.args.other.now m c.requires c.other.view_is h) _ (rw c.deref.ensures.value at c.compared.ensures)
