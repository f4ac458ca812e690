use Rattle.std.proofs.Common.{◌≡◌, ◌∙◌, false, cond, inl, Err, ap, option_map, subst, sym, rules}
use Rattle.std.proofs.lemmas.Result.{err_from_is_err_and}
use Rattle.std.specs.Io.KnownBytes.{Keeps}
use Rattle.fisca_writer.specs.Steps.Sink.{one_more}
use Rattle.fisca_rule_files.specs.Refusal.{is_write}
use Rattle.fisca_yaml.specs.Node.{Node}
use Rattle.fisca_yaml.specs.Views.{node}
use Rattle.fisca_commands.specs.Test.{IsTreeTested}
use Rattle.fisca_grid_run.proofs.Telling.{yaml_unwritten}
use Rattle.fisca_commands.proofs.TestsPassed.{tree_tested}
use Rattle.fisca_commands.proofs.test.test_text.Goals as goal

pub returns-in_err-tree-clause-answer : goal.returns-in_err-tree-clause-answer
returns-in_err-tree-clause-answer g c =
    let told = err_from_is_err_and c.from_residual.result c.from_residual.ensures.1 in
    let keeps : Keeps (g.S.RowSink.taken c.args.sink.now) (g.S.RowSink.taken c.args.sink.now) = search rules in
    inl (c.in_err-tree.field-0.0, told.1 ∙ ap Err told.2, inl c.in_err-tree.ensures.err, keeps)

pub returns-in_err-tree-clause-failures : goal.returns-in_err-tree-clause-failures
returns-in_err-tree-clause-failures g c =
    let told = err_from_is_err_and c.from_residual.result c.from_residual.ensures.1 in
    let unwritten : is_write c.from_residual.result ≡ false = ap is_write (told.1 ∙ ap Err told.2) ∙ yaml_unwritten c.args.text.now c.in_err-tree.field-0.0 c.in_err-tree.ensures.err in
    ap (λ failed. cond failed (one_more (g.S.RowSink.failures c.args.sink.now)) (g.S.RowSink.failures c.args.sink.now)) (sym unwritten)

pub returns-clause-answer : goal.returns-clause-answer
returns-clause-answer g c =
    let tested = subst (λ (n : Node). IsTreeTested c.args.rules.now n (g.S.RowSink.taken c.args.sink.now) (g.S.RowSink.taken c.report_of.new.sink) c.report_of.result) c.named-tree.ensures c.report_of.ensures.answer in
    tree_tested c.args.rules.now c.args.text.now (option_map (λ text. text.now) c.args.name) (node c.in_ok-tree.tree) _ _ _ c.in_ok-tree.ensures.ok tested
