use Rattle.std.proofs.Common.{pos, ◌∙◌, ap, arith, rules, w64, FitsSigned}
use Rattle.std.proofs.lemmas.Int.{to_z-of_z}
use Rattle.fisca_vectors.specs.Numerators.{at}
use Rattle.fisca_vectors.specs.Vectors.{flag}
use Rattle.fisca_vectors.specs.Moved.{merged_of}
use Rattle.fisca_vectors.proofs.Steps.{set_done, set_left}
use Rattle.fisca_vectors.proofs.moves.merge_into.Goals as goal

pub loop-i-preserved : goal.loop-i-preserved
loop-i-preserved g c =
    let p : FitsSigned w64 (at c.loop-i.out c.loop-i.i) = search rules in
    let q : FitsSigned w64 (at c.args.right.now c.loop-i.i) = search rules in
    let r : FitsSigned w64 c.merged_one.result = search rules in
    record {
      done = set_done (pos 0) c.loop-i.out (λ k. merged_of (g.B.Bring.left c.args.by.now) (g.B.Bring.right c.args.by.now) (flag c.args.flags.now k) (at c.args.out.now k) (at c.args.right.now k)) c.loop-i.i _ (omega arith)
          (to_z-of_z w64 c.merged_one.result r ∙ (simp to_z-of_z at c.merged_one.ensures) ∙ ap (λ z. merged_of (g.B.Bring.left c.args.by.now) (g.B.Bring.right c.args.by.now) (flag c.args.flags.now c.loop-i.i) z (at c.args.right.now c.loop-i.i)) (c.loop-i.invariant.left c.loop-i.i (omega arith))) c.loop-i.invariant.done;
      left = set_left (pos 0) c.loop-i.out c.args.out.now c.loop-i.i _ c.loop-i.invariant.left;
    }
