use Rattle.std.proofs.Common.{◌∙◌, inl, inr, Err, ap, option_map, rules}
use Rattle.std.proofs.lemmas.Result.{err_from_is_err_and}
use Rattle.std.specs.Io.KnownBytes.{Keeps}
use Rattle.fisca_commands.proofs.Tested.{ready}
use Rattle.fisca_commands.proofs.TestsPassed.{text_tested}
use Rattle.fisca_commands.proofs.test.test_rules.Goals as goal

pub returns-in_err-rules-clause-answer : goal.returns-in_err-rules-clause-answer
returns-in_err-rules-clause-answer g c =
    let told = err_from_is_err_and c.from_residual.result c.from_residual.ensures.1 in
    let keeps : Keeps (g.S.RowSink.taken c.args.sink.now) (g.S.RowSink.taken c.args.sink.now) = search rules in
    inl (c.in_err-rules.field-0.0, told.1 ∙ ap Err told.2, inl c.in_err-rules.ensures.err, keeps)

pub test_text-requires : goal.test_text-requires
test_text-requires g c line n t read =
    ready c.args.files.now c.in_ok-rules.rules c.rule_sets_are_safe.ensures c.inputs_fit.ensures c.in_ok-rules.ensures.ok t.situation
    (c.situations_are_read.ensures c.in_ok-rules.rules.tables line n t read)

pub returns-clause-answer : goal.returns-clause-answer
returns-clause-answer g c =
    text_tested c.args.files.now c.args.text.now (option_map (λ text. text.now) c.args.name) c.in_ok-rules.rules _ _ _ c.in_ok-rules.ensures.ok c.test_text.ensures.answer
