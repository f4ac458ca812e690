use Rattle.std.proofs.Common.{pos, ◌*ℤ◌, ◌∙◌, ap, arith, rules, w64, FitsSigned}
use Rattle.std.proofs.lemmas.Int.{to_z-of_z}
use Rattle.fisca_vectors.specs.Numerators.{at}
use Rattle.fisca_vectors.proofs.Steps.{set_done, set_left}
use Rattle.fisca_vectors.proofs.loops.multiply_each.Goals as goal

pub loop-i-preserved : goal.loop-i-preserved
loop-i-preserved g c =
    let i = c.loop-i.i in
    let p : FitsSigned w64 (at c.loop-i.out c.loop-i.i) = search rules in
    let q : FitsSigned w64 c.numerator.result = search rules in
    let r : FitsSigned w64 c.product_of.result = search rules in
    record {
      done = set_done (pos 0) c.loop-i.out (λ k. at c.args.out.now k *ℤ g.S.Side.at c.args.right.now k) i _ (omega arith)
          (to_z-of_z w64 c.product_of.result r ∙ (simp to_z-of_z at c.product_of.ensures)
          ∙ ap (λ z. z *ℤ c.numerator.result) (c.loop-i.invariant.left i (omega arith))
          ∙ ap (λ z. at c.args.out.now i *ℤ z) c.numerator.ensures) c.loop-i.invariant.done;
      left = set_left (pos 0) c.loop-i.out c.args.out.now i _ c.loop-i.invariant.left;
    }
