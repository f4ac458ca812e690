use Rattle.std.proofs.Common.{◌≡◌, ◌∙◌, false, cond, inl, inr, Err, refl, ap, sym, subst, rules}
use Rattle.std.proofs.lemmas.Result.{err_from_is_err_and}
use Rattle.std.specs.Io.KnownBytes.{Appends, Keeps}
use Rattle.fisca_writer.specs.Run.{AppendsPart}
use Rattle.fisca_writer.specs.Steps.Sink.{one_more}
use Rattle.fisca_rule_files.specs.Refusal.{is_write}
use Rattle.fisca_run.specs.Counted.{size_line}
use Rattle.fisca_grid_run.proofs.Telling.{begin_unwritten}
use Rattle.fisca_commands.proofs.size.size_rules.Goals as goal

pub returns-in_err-rules-clause-answer : goal.returns-in_err-rules-clause-answer
returns-in_err-rules-clause-answer g c =
    let told = err_from_is_err_and c.from_residual.result c.from_residual.ensures.1 in
    let keeps : Keeps (g.S.RowSink.taken c.args.sink.now) (g.S.RowSink.taken c.args.sink.now) = search rules in
    inl (c.in_err-rules.field-0.0, told.1 ∙ ap Err told.2, inl c.in_err-rules.ensures.err, keeps)

pub returns-in_err-size-clause-answer : goal.returns-in_err-size-clause-answer
returns-in_err-size-clause-answer g c =
    let told = err_from_is_err_and c.from_residual-in_err-size.result c.from_residual-in_err-size.ensures.1 in
    let keeps : Keeps (g.S.RowSink.taken c.args.sink.now) (g.S.RowSink.taken c.args.sink.now) = search rules in
    inl (c.in_err-size.field-0.0, told.1 ∙ ap Err told.2, inr (c.in_ok-rules.rules, c.in_ok-rules.ensures.ok, c.in_err-size.ensures.err), keeps)

pub returns-in_err-size-clause-failures : goal.returns-in_err-size-clause-failures
returns-in_err-size-clause-failures g c =
    let told = err_from_is_err_and c.from_residual-in_err-size.result c.from_residual-in_err-size.ensures.1 in
    let unwritten : is_write c.from_residual-in_err-size.result ≡ false = ap is_write (told.1 ∙ ap Err told.2) ∙ begin_unwritten c.in_ok-rules.rules c.args.text.now c.in_err-size.field-0.0 c.in_err-size.ensures.err in
    ap (λ failed. cond failed (one_more (g.S.RowSink.failures c.args.sink.now)) (g.S.RowSink.failures c.args.sink.now)) (sym unwritten)

pub returns-in-Ok-clause-answer : goal.returns-in-Ok-clause-answer
returns-in-Ok-clause-answer g c =
    let f = c.in_ok-size.ensures.ok in
    let old = g.S.RowSink.taken c.args.sink.now in
    let new = g.S.RowSink.taken c.write_size.new.sink in
    inr (c.in_ok-rules.rules, f.0, c.in_ok-rules.ensures.ok, f.1, subst (λ n. Appends old new (size_line n)) f.2 c.in-Ok.ensures.all)

pub returns-clause-answer : goal.returns-clause-answer
returns-clause-answer g c =
    let f = c.in_ok-size.ensures.ok in
    let old = g.S.RowSink.taken c.args.sink.now in
    let new = g.S.RowSink.taken c.write_size.new.sink in
    inr (c.in_ok-rules.rules, f.0, c.in_ok-rules.ensures.ok, f.1, (refl, subst (λ n. AppendsPart (size_line n) old new) f.2 c.in-Err.ensures.part))
