use Rattle.std.proofs.Common.{◌≡◌, ◌∙◌, false, cond, inl, inr, map, string_bytes, Err, ap, sym, rules}
use Rattle.std.proofs.lemmas.Result.{err_from_is_err_and}
use Rattle.std.specs.Io.KnownBytes.{Keeps}
use Rattle.fisca_writer.specs.Steps.Sink.{one_more}
use Rattle.fisca_rule_files.specs.Refusal.{is_write}
use Rattle.fisca_rules.specs.Views.{rule_set}
use Rattle.fisca_grid_run.specs.Ends.{end_of}
use Rattle.fisca_run_file.specs.Views.{run_start}
use Rattle.fisca_grid_run.specs.Run.{Running}
use Rattle.fisca_rule_files.proofs.Built.{built}
use Rattle.fisca_grid_run.proofs.Ranged.{are_counted}
use Rattle.fisca_grid_run.proofs.Telling.{begin_unwritten}
use Rattle.fisca_grid_run.proofs.run.run_rules.Goals as goal

pub returns-in_err-rules-clause-answer : goal.returns-in_err-rules-clause-answer
returns-in_err-rules-clause-answer g c =
    let told = err_from_is_err_and c.from_residual.result c.from_residual.ensures.1 in
    let keeps : Keeps (g.S.RowSink.taken c.args.sink.now) (g.S.RowSink.taken c.args.sink.now) = search rules in
    inl (c.in_err-rules.field-0.0, ap end_of (told.1 ∙ ap Err told.2), inl c.in_err-rules.ensures.err, keeps)

pub returns-in_err-begun-clause-answer : goal.returns-in_err-begun-clause-answer
returns-in_err-begun-clause-answer g c =
    let told = err_from_is_err_and c.from_residual-in_err-begun.result c.from_residual-in_err-begun.ensures.1 in
    let keeps : Keeps (g.S.RowSink.taken c.args.sink.now) (g.S.RowSink.taken c.args.sink.now) = search rules in
    inl (c.in_err-begun.field-0.0, ap end_of (told.1 ∙ ap Err told.2), inr (c.in_ok-rules.rules, c.in_ok-rules.ensures.ok, c.in_err-begun.ensures.err), keeps)

pub returns-in_err-begun-clause-failures : goal.returns-in_err-begun-clause-failures
returns-in_err-begun-clause-failures g c =
    let told = err_from_is_err_and c.from_residual-in_err-begun.result c.from_residual-in_err-begun.ensures.1 in
    let unwritten : is_write c.from_residual-in_err-begun.result ≡ false = ap is_write (told.1 ∙ ap Err told.2) ∙ begin_unwritten c.in_ok-rules.rules c.args.text.now c.in_err-begun.field-0.0 c.in_err-begun.ensures.err in
    ap (λ failed. cond failed (one_more (g.S.RowSink.failures c.args.sink.now)) (g.S.RowSink.failures c.args.sink.now)) (sym unwritten)

pub write_range-requires : goal.write_range-requires
write_range-requires g c =
    let rules = c.in_ok-rules.rules in
    let made = built c.args.files.now (rule_set rules) c.in_ok-rules.ensures.ok in
    let says = c.in_ok-begun.ensures.says in
    record {
      accepted = record {
        tree = says.0;
        asked = record { safe = c.rule_sets_are_safe.ensures made.0 made.1.0 (rule_set rules) made.1.1; read = says.2 };
      };
      begun = c.in_ok-begun.ensures.begins;
    }

pub returns-clause-answer : goal.returns-clause-answer
returns-clause-answer g c =
    let running : Running = record { rules = c.in_ok-rules.rules; run = run_start c.in_ok-begun.begun.0; names = map (λ name. string_bytes name) c.in_ok-begun.begun.1.items } in
    inr (running, (c.in_ok-rules.ensures.ok, c.in_ok-begun.ensures.says, c.in_ok-begun.ensures.names), c.write_range.ensures.answer)

pub returns-clause-counts : goal.returns-clause-counts
returns-clause-counts g c =
    let running : Running = record { rules = c.in_ok-rules.rules; run = run_start c.in_ok-begun.begun.0; names = map (λ name. string_bytes name) c.in_ok-begun.begun.1.items } in
    are_counted c.args.files.now c.args.text.now c.args.options.now (g.S.RowSink.taken c.args.sink.now) (g.S.RowSink.taken c.write_range.new.sink) running c.args.lacks.now c.write_range.new.lacks
    c.write_range.result (c.in_ok-rules.ensures.ok, c.in_ok-begun.ensures.says, c.in_ok-begun.ensures.names) c.write_range.ensures.ended
