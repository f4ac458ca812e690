use Rattle.std.proofs.Common.{◌∙◌}
use Rattle.fisca_writer.proofs.Grown.{grown, failures_after-some}
use Rattle.fisca_writer.proofs.sink.hand_over.Goals as goal

pub loop-rest-preserved : goal.loop-rest-preserved
loop-rest-preserved g c =
    record {
      split = grown _ _ _ _ _ _ c.loop-rest.invariant.split c.in_ok-taken.ensures.within c.in_ok-taken.ensures.bytes;
      unfailed = c.take.ensures.counted ∙ (failures_after-some _ _ _ _ c.in_ok-taken.was c.if-taken-eq0.false ∙ c.loop-rest.invariant.unfailed);
    }
