use Rattle.std.proofs.Common.{pos, ◌*ℤ◌, ◌∙◌, ap, arith, rules, w64, FitsSigned}
use Rattle.std.proofs.lemmas.Int.{to_z-of_z}
use Rattle.fisca_vectors.specs.Numerators.{at}
use Rattle.fisca_vectors.proofs.Steps.{set_done, set_left}
use Rattle.fisca_vectors.proofs.loops.apply_each.Goals as goal

pub loop-i-preserved : goal.loop-i-preserved
loop-i-preserved g c =
    let i = c.loop-i.i in
    let p : FitsSigned w64 (at c.loop-i.out c.loop-i.i) = search rules in
    let q : FitsSigned w64 c.numerator.result = search rules in
    let r : FitsSigned w64 c.brought.result = search rules in
    record {
      done = set_done (pos 0) c.loop-i.out (λ k. g.O.Pairwise.op c.args.operation.now (at c.args.out.now k *ℤ pos (g.B.Bring.left c.args.by.now)) (g.S.Side.at c.args.right.now k *ℤ pos (g.B.Bring.right c.args.by.now))) i _ (omega arith)
          (to_z-of_z w64 c.brought.result r ∙ (simp to_z-of_z at c.brought.ensures)
          ∙ ap (λ z. g.O.Pairwise.op c.args.operation.now (z *ℤ pos (g.B.Bring.left c.args.by.now)) (c.numerator.result *ℤ pos (g.B.Bring.right c.args.by.now))) (c.loop-i.invariant.left i (omega arith))
          ∙ ap (λ z. g.O.Pairwise.op c.args.operation.now (at c.args.out.now i *ℤ pos (g.B.Bring.left c.args.by.now)) (z *ℤ pos (g.B.Bring.right c.args.by.now))) c.numerator.ensures) c.loop-i.invariant.done;
      left = set_left (pos 0) c.loop-i.out c.args.out.now i _ c.loop-i.invariant.left;
    }
