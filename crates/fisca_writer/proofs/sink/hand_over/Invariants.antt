use Rattle.std.proofs.Common.{◌≡◌, length}
use Rattle.fisca_writer.proofs.Grown.{IsTaken}
use Rattle.fisca_writer.proofs.sink.hand_over.Given as goal

-- what is left, and what was taken; no failure so far
abbrev pub invariant-loop-rest : goal.invariant-loop-rest
invariant-loop-rest g l =
    record {
      split : IsTaken l.fn.piece l.rest (g.S.RowSink.taken l.initial.sink) (g.S.RowSink.taken l.sink);
      unfailed : g.S.RowSink.failures l.sink ≡ g.S.RowSink.failures l.initial.sink;
    }

abbrev pub decreases-loop-rest : goal.decreases-loop-rest
decreases-loop-rest g l = length l.rest
