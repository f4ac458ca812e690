use Rattle.std.specs.Io.KnownBytes.{Keeps}
use Rattle.fisca_writer.proofs.stream_sink.write_uninterrupted.Given as goal

-- an interrupted write took nothing
abbrev pub invariant-loop : goal.invariant-loop
invariant-loop g l = Keeps (g.W.Write.contents l.initial.writer) (g.W.Write.contents l.writer)
