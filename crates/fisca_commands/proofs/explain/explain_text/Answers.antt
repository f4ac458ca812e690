use Rattle.std.proofs.Common.{◌≡◌, ◌∙◌, false, cond, inl, inr, Err, ap, sym, rules}
use Rattle.std.proofs.lemmas.Result.{err_from_is_err_and}
use Rattle.std.specs.Io.KnownBytes.{Keeps}
use Rattle.fisca_columns.specs.Views.{calc}
use Rattle.fisca_writer.specs.Steps.Sink.{one_more}
use Rattle.fisca_yaml.specs.Views.{node}
use Rattle.fisca_commands.specs.Calc.{Calculation}
use Rattle.fisca_rule_files.specs.Refusal.{is_write}
use Rattle.fisca_commands.proofs.Calculated.{ready}
use Rattle.fisca_commands.proofs.Telling.{text_unwritten}
use Rattle.fisca_grid_run.proofs.Telling.{yaml_unwritten}
use Rattle.fisca_commands.proofs.explain.explain_text.Goals as goal

pub returns-in_err-file-clause-answer : goal.returns-in_err-file-clause-answer
returns-in_err-file-clause-answer g c =
    let told = err_from_is_err_and c.from_residual.result c.from_residual.ensures.1 in
    let keeps : Keeps (g.S.RowSink.taken c.args.sink.now) (g.S.RowSink.taken c.args.sink.now) = search rules in
    inl (c.in_err-file.field-0.0, told.1 ∙ ap Err told.2, c.in_err-file.ensures.err, keeps)

pub returns-in_err-tree-clause-answer : goal.returns-in_err-tree-clause-answer
returns-in_err-tree-clause-answer g c =
    let told = err_from_is_err_and c.from_residual-in_err-tree.result c.from_residual-in_err-tree.ensures.1 in
    let keeps : Keeps (g.S.RowSink.taken c.args.sink.now) (g.S.RowSink.taken c.args.sink.now) = search rules in
    inl (c.in_err-tree.field-0.0, told.1 ∙ ap Err told.2, inl c.in_err-tree.ensures.err, keeps)

pub explain_named-requires : goal.explain_named-requires
explain_named-requires g c =
    let asked : Calculation = record { rules = c.args.from.rules.now; asked = calc c.in_ok-file.file } in
    ready c.args.from.files.now c.args.text.now asked c.rule_sets_are_safe.ensures c.calc_inputs_fit.ensures c.requires c.in_ok-file.ensures.ok

pub returns-in_err-file-clause-failures : goal.returns-in_err-file-clause-failures
returns-in_err-file-clause-failures g c =
    let told = err_from_is_err_and c.from_residual.result c.from_residual.ensures.1 in
    let unwritten : is_write c.from_residual.result ≡ false = ap is_write (told.1 ∙ ap Err told.2) ∙ text_unwritten c.args.from.rules.now c.args.text.now c.in_err-file.field-0.0 c.in_err-file.ensures.err in
    ap (λ failed. cond failed (one_more (g.S.RowSink.failures c.args.sink.now)) (g.S.RowSink.failures c.args.sink.now)) (sym unwritten)

pub returns-in_err-tree-clause-failures : goal.returns-in_err-tree-clause-failures
returns-in_err-tree-clause-failures g c =
    let told = err_from_is_err_and c.from_residual-in_err-tree.result c.from_residual-in_err-tree.ensures.1 in
    let unwritten : is_write c.from_residual-in_err-tree.result ≡ false = ap is_write (told.1 ∙ ap Err told.2) ∙ yaml_unwritten c.args.text.now c.in_err-tree.field-0.0 c.in_err-tree.ensures.err in
    ap (λ failed. cond failed (one_more (g.S.RowSink.failures c.args.sink.now)) (g.S.RowSink.failures c.args.sink.now)) (sym unwritten)

pub returns-clause-answer : goal.returns-clause-answer
returns-clause-answer g c = inr (calc c.in_ok-file.file, node c.in_ok-tree.tree, c.in_ok-file.ensures.ok, c.in_ok-tree.ensures.ok, c.explain_named.ensures.answer)
