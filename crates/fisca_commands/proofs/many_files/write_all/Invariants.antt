use Rattle.std.proofs.Common.{◌≡◌}
use Rattle.fisca_commands.specs.CalcLines.{streams_of}
use Rattle.fisca_grid_run.specs.Forms.{shown_form}
use Rattle.fisca_commands.proofs.LinesPassed.{AreSoFar}
use Rattle.fisca_commands.proofs.many_files.write_all.Given as goal

-- the lines so far
abbrev pub invariant-loop-number : goal.invariant-loop-number
invariant-loop-number g l =
    let old = streams_of (g.L.LineSource.left l.initial.source) (g.S.RowSink.taken l.initial.sink) (g.S.RowSink.failures l.initial.sink) (g.T.RowSink.taken l.initial.told) (g.T.RowSink.failures l.initial.told) in
    let now = streams_of (g.L.LineSource.left l.source) (g.S.RowSink.taken l.sink) (g.S.RowSink.failures l.sink) (g.T.RowSink.taken l.told) (g.T.RowSink.failures l.told) in
    AreSoFar l.rules (shown_form l.form) l.path old now l.number l.worst
