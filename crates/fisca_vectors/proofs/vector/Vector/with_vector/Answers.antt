use Rattle.std.proofs.Common.{arith, ◌≡◌, length, ap, sym, ◌∙◌}
use Rattle.fisca_vectors.specs.Vectors.{IsLanewise}
use Rattle.fisca_vectors.specs.Numerators.{at, lane_of, on_numbers, IsOperated}
use Rattle.fisca_vectors.proofs.Lifted.{lifted}
use Rattle.fisca_vectors.proofs.Operated.{by_vector}
use Rattle.fisca_vectors.proofs.Terms.{count}
use Rattle.fisca_vectors.proofs.vector.Vector.with_vector.Goals as goal

pub operated-requires-clause-has : goal.operated-requires-clause-has
operated-requires-clause-has c =
    let ms = c.other.inside.numerators.items in
    let e : length c.args.other.now ≡ length ms = sym (ap length c.other.view_is) ∙ count c.other.inside.denominator ms in
    rw c.deref.ensures.value (λ k lt. omega (arith, e, c.requires))

pub operated-requires-clause-bounded : goal.operated-requires-clause-bounded
operated-requires-clause-bounded c =
    let ms = c.other.inside.numerators.items in
    let e : length c.args.other.now ≡ length ms = sym (ap length c.other.view_is) ∙ count c.other.inside.denominator ms in
    rw c.deref.ensures.value (λ k lt. c.other.invariant.bounded k (omega (arith, e, c.requires)))

pub returns : goal.returns
returns c =
    let e = c.other.inside.denominator in
    let ms = c.other.inside.numerators.items in
    lifted (λ v. IsOperated c.args.operation c.args.self.now (λ k. lane_of e (at ms k)) v) (λ v. IsLanewise (on_numbers c.args.operation) c.args.self.now c.args.other.now v)
    (λ v h. by_vector c.args.operation e ms c.args.self.now c.args.other.now v c.requires c.other.view_is h) _ (rw c.deref.ensures.value at c.operated.ensures)
