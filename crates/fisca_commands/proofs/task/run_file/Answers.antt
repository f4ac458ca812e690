use Rattle.std.proofs.Common.{◌≡◌, ◌∙◌, false, Result, Ok, Err, refl, sym, ap, subst, cond}
use Rattle.fisca_writer.specs.Steps.Sink.{one_more}
use Rattle.fisca_writer.specs.declared.fault.RunEnd.{RunEnd}
use Rattle.fisca_evaluator.specs.declared.counts.Counts.{Counts}
use Rattle.fisca_rule_files.specs.Refusal.{is_write, paths_of}
use Rattle.fisca_rule_files.specs.declared.refusal.Refusal.{Refusal}
use Rattle.fisca_grid_run.specs.Ends.{end_of}
use Rattle.fisca_commands.proofs.Endings.{counted}
use Rattle.fisca_commands.proofs.Ranged.{lacking_of}
use Rattle.fisca_grid_run.specs.Forms.{is_table}
use Rattle.fisca_grid_run.specs.Run.{IsRunAnswer}
use Rattle.fisca_commands.proofs.task.run_file.Goals as goal

written_alike : (answer : Result (RunEnd × Counts) Refusal) → is_write answer ≡ is_write (end_of answer)
written_alike (Ok ended) = refl
written_alike (Err refusal) = refl

pub returns-clause-failures : goal.returns-clause-failures
returns-clause-failures g c =
    let same : is_write c.run_rules-answer.result ≡ is_write c.without_counts-end.result = written_alike c.run_rules-answer.result ∙ ap is_write (sym c.without_counts-end.ensures) in
    let failed = c.run_rules-answer.ensures.failures ∙ ap (λ failed. cond failed (one_more (g.S.RowSink.failures c.args.sink.now)) (g.S.RowSink.failures c.args.sink.now)) same in
    counted (paths_of c.args.path.now c.args.told_paths.now) c.run_rules-answer.new.lacks (is_table c.args.options.now.form) (g.S.RowSink.taken c.run_rules-answer.new.sink) (g.S.RowSink.taken c.end_run.new.sink) c.without_counts-end.result c.end_run.result
    (g.S.RowSink.failures c.args.sink.now) (g.S.RowSink.failures c.run_rules-answer.new.sink) (g.S.RowSink.failures c.end_run.new.sink)
    c.end_run.ensures.ending failed c.end_run.ensures.failures

pub returns-clause-ending : goal.returns-clause-ending
returns-clause-ending g c =
    let old = g.S.RowSink.taken c.args.sink.now in
    let between = g.S.RowSink.taken c.run_rules-answer.new.sink in
    let answer = c.without_counts-end.result in
    record {
      answer = answer;
      between = between;
      run = subst (IsRunAnswer c.args.files.now c.args.text.now c.args.options.now old between) (sym c.without_counts-end.ensures) c.run_rules-answer.ensures.answer;
      lacks = c.run_rules-answer.new.lacks;
      lacking = lacking_of c.args.files.now c.args.text.now c.args.options.now old between false c.run_rules-answer.new.lacks c.run_rules-answer.result answer
          c.without_counts-end.ensures c.run_rules-answer.ensures.counts;
      end = c.end_run.ensures.ending;
    }
