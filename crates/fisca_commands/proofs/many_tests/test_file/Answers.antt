use Rattle.std.proofs.Common.{◌≡◌, ◌∙◌, ℕ, List, false, cond, inl, inr, Err, ap, option_map, refl, subst, sym}
use Rattle.std.specs.Io.KnownBytes.{Appends}
use Rattle.std.proofs.KnownBytes.{Keeps-refl}
use Rattle.std.proofs.lemmas.Result.{err_from_is_err_and}
use Rattle.fisca_writer.specs.Run.{AppendsPart}
use Rattle.fisca_writer.specs.Steps.Sink.{one_more}
use Rattle.fisca_rule_files.specs.Refusal.{is_write}
use Rattle.fisca_rule_files.specs.declared.refusal.Refusal.TheVariants.{Memory, Write}
use Rattle.fisca_run.specs.Counted.{path_line}
use Rattle.fisca_commands.specs.ManyTests.{IsTextTested}
use Rattle.fisca_commands.proofs.many_tests.test_file.Goals as goal

pub returns-in_err-line-clause-answer : goal.returns-in_err-line-clause-answer
returns-in_err-line-clause-answer g c =
    let told = err_from_is_err_and c.from_residual.result c.from_residual.ensures.1 in
    inl (Memory, told.1 ∙ ap Err told.2, inr (refl, Keeps-refl (g.S.RowSink.taken c.args.sink.now)))

pub returns-in_err-line-clause-failures : goal.returns-in_err-line-clause-failures
returns-in_err-line-clause-failures g c =
    let told = err_from_is_err_and c.from_residual.result c.from_residual.ensures.1 in
    let unwritten : is_write c.from_residual.result ≡ false = ap is_write (told.1 ∙ ap Err told.2) in
    ap (λ failed. cond failed (one_more (g.S.RowSink.failures c.args.sink.now)) (g.S.RowSink.failures c.args.sink.now)) (sym unwritten)

pub returns-in-Ok-clause-answer : goal.returns-in-Ok-clause-answer
returns-in-Ok-clause-answer g c =
    let name = option_map (λ text. text.now) c.args.name in
    let old = g.S.RowSink.taken c.args.sink.now in
    let between = g.S.RowSink.taken c.hand_over.new.sink in
    let new = g.S.RowSink.taken c.test_text.new.sink in
    let line : c.as_bytes.result.now ≡ path_line c.args.file.now.path = c.as_bytes.ensures.value ∙ c.in_ok-line.ensures ∙ ap path_line c.path.ensures in
    let tested = subst (λ (text : List ℕ). IsTextTested c.args.rules.now text name between new c.test_text.result) c.text.ensures c.test_text.ensures.answer in
    inr (between, subst (λ (bytes : List ℕ). Appends old between bytes) line c.in-Ok.ensures.all, tested)

pub returns-clause-answer : goal.returns-clause-answer
returns-clause-answer g c =
    let old = g.S.RowSink.taken c.args.sink.now in
    let new = g.S.RowSink.taken c.hand_over.new.sink in
    let line : c.as_bytes.result.now ≡ path_line c.args.file.now.path = c.as_bytes.ensures.value ∙ c.in_ok-line.ensures ∙ ap path_line c.path.ensures in
    inl (Write, refl, inl (refl, subst (λ (bytes : List ℕ). AppendsPart bytes old new) line c.in-Err.ensures.part))
