use Rattle.std.proofs.Common.{inl, inr, refl, subst}
use Rattle.std.proofs.KnownBytes.{Appends-nil}
use Rattle.fisca_forms.specs.LineForms.{Form}
use Rattle.fisca_commands.specs.CalcLines.{AreWorkedOut, Sink, Streams, streams_of}
use Rattle.fisca_grid_run.specs.Forms.{shown_form}
use Rattle.fisca_commands.proofs.LinesReady.{files_ready}
use Rattle.fisca_commands.proofs.many_files.calc_lines.Goals as goal

pub returns-in-Err : goal.returns-in-Err
returns-in-Err g c =
    inl (c.in-Err.refusal, c.in-Err.ensures.err, c.refused.ensures, (Appends-nil (g.S.RowSink.taken c.args.sink.now), refl), (Appends-nil (g.T.RowSink.taken c.args.told.now), refl))

pub write_all-requires : goal.write_all-requires
write_all-requires g c = files_ready c.args.files.now c.in-Ok.rules c.rule_sets_are_safe.ensures c.calc_inputs_fit.ensures c.in-Ok.ensures.ok

pub returns-in-Ok-begin_lines : goal.returns-in-Ok-begin_lines
returns-in-Ok-begin_lines g c =
    let between : Sink = record { taken = g.S.RowSink.taken c.begin_lines.new.sink; failures = g.S.RowSink.failures c.begin_lines.new.sink } in
    let told : Sink = record { taken = g.T.RowSink.taken c.args.told.now; failures = g.T.RowSink.failures c.args.told.now } in
    let old : Streams = record { left = g.L.LineSource.left c.args.source.now; sink = between; told = told } in
    let new = streams_of (g.L.LineSource.left c.write_all.new.source) (g.S.RowSink.taken c.write_all.new.sink) (g.S.RowSink.failures c.write_all.new.sink) (g.T.RowSink.taken c.write_all.new.told) (g.T.RowSink.failures c.write_all.new.told) in
    let begun = c.in-Ok-begin_lines.ensures in
    let worked = subst (λ (form : Form). AreWorkedOut c.in-Ok.rules (shown_form form) c.args.path.now old new c.write_all.result) begun.ok.0 c.write_all.ensures in
    inr (c.in-Ok.rules, c.in-Ok.ensures.ok, inr (between, (begun.ok.1, begun.failures), worked))

pub returns : goal.returns
returns g c =
    inr (
      c.in-Ok.rules,
      c.in-Ok.ensures.ok,
      inl (c.in-Err-begin_lines.refusal, c.in-Err-begin_lines.ensures.err, c.in-Err-begin_lines.ensures.failures, (Appends-nil (g.T.RowSink.taken c.args.told.now), refl), c.refused-in-Err-begin_lines.ensures),
    )
