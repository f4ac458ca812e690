use Rattle.std.proofs.Common.{◌≡◌, ◌∙◌, ℕ, Bor, List, ap₂, subst, sym}
use Rattle.std.specs.Prelude.{OnErr, option_map}
use Rattle.std.specs.List.{flat_map}
use Rattle.std.proofs.lemmas.Result.{err_from_is_err_and}
use Rattle.fisca_expected.specs.Views.{expected_outputs}
use Rattle.fisca_symbols.specs.Known.{tables as known}
use Rattle.fisca_test_file.proofs.Refused.{unwritten}
use Rattle.fisca_test_file.proofs.VerdictTexts.{head_broken, lines_broken}
use Rattle.fisca_test_file.specs.Handing.{AppendsSome}
use Rattle.fisca_test_file.specs.Report.{output_lines, test_context, verdict_text}
use Rattle.fisca_test_file.proofs.handing.hand_verdict.Goals as goal

pub returns-in_err-passed-clause-failures : goal.returns-in_err-passed-clause-failures
returns-in_err-passed-clause-failures g c =
    let told = err_from_is_err_and c.from_residual.result c.from_residual.ensures.1 in
    unwritten c.from_residual.result told.0 (g.S.RowSink.failures c.args.sink.now) told.1 told.2

pub returns-in_err-hand_head-clause-part : goal.returns-in_err-hand_head-clause-part
returns-in_err-hand_head-clause-part g c =
    let name = g.F.KeyFault.fault_name in
    let key = g.F.KeyFault.fault_key in
    let s = test_context (known c.args.tables.now) (g.A.Answers.members c.args.answers.now) (g.A.Answers.answer c.args.answers.now) name key in
    let m = c.args.margins.now in
    let os = flat_map expected_outputs c.args.outputs.now in
    let called = option_map (λ (t : Bor (List ℕ)). t.now) c.args.name in
    let old = g.S.RowSink.taken c.args.sink.now in
    let new = g.S.RowSink.taken c.hand_head.new.sink in
    let some = head_broken s c.args.number called m os c.in_ok-passed.passed c.in_ok-passed.ensures.passed old new c.in_err-hand_head.ensures.part in
    let is = err_from_is_err_and c.from_residual-in_err-hand_head.result c.from_residual-in_err-hand_head.ensures.1 in
    subst (λ r. OnErr r (AppendsSome (verdict_text s c.args.number called m os) old new)) (sym is.1) some

pub hand_lines-requires-clause-answers : goal.hand_lines-requires-clause-answers
hand_lines-requires-clause-answers g c s is =
    let here = c.requires.answers s is in
    (c.all_pass.ensures.same_answers ∙ here.0, c.all_pass.ensures.same_members ∙ here.1, here.2)

pub returns-in_err-hand_lines-clause-part : goal.returns-in_err-hand_lines-clause-part
returns-in_err-hand_lines-clause-part g c =
    let name = g.F.KeyFault.fault_name in
    let key = g.F.KeyFault.fault_key in
    let s = test_context (known c.args.tables.now) (g.A.Answers.members c.args.answers.now) (g.A.Answers.answer c.args.answers.now) name key in
    let m = c.args.margins.now in
    let os = flat_map expected_outputs c.args.outputs.now in
    let called = option_map (λ (t : Bor (List ℕ)). t.now) c.args.name in
    let old = g.S.RowSink.taken c.args.sink.now in
    let mid = g.S.RowSink.taken c.hand_head.new.sink in
    let new = g.S.RowSink.taken c.hand_lines.new.sink in
    let same = ap₂ (λ ms answer. output_lines (test_context (known c.args.tables.now) ms answer name key) m os) c.all_pass.ensures.same_members c.all_pass.ensures.same_answers in
    let part = subst (λ x. AppendsSome x mid new) same c.in_err-hand_lines.ensures.part in
    let some = lines_broken s c.args.number called m os c.in_ok-passed.passed c.in_ok-passed.ensures.passed old mid new c.in_ok-hand_head.ensures.all part in
    let is = err_from_is_err_and c.from_residual-in_err-hand_lines.result c.from_residual-in_err-hand_lines.ensures.1 in
    subst (λ r. OnErr r (AppendsSome (verdict_text s c.args.number called m os) old new)) (sym is.1) some
