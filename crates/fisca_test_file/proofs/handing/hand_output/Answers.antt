use Rattle.std.proofs.Common.{subst, sym}
use Rattle.std.specs.Prelude.{OnErr}
use Rattle.std.proofs.lemmas.Result.{err_from_is_err_and}
use Rattle.fisca_symbols.specs.Known.{tables as known}
use Rattle.fisca_test_file.proofs.Handed.{none_yet}
use Rattle.fisca_test_file.proofs.Refused.{unwritten}
use Rattle.fisca_test_file.specs.Handing.{AppendsSome}
use Rattle.fisca_test_file.specs.Report.{output_line, test_context}
use Rattle.fisca_test_file.proofs.handing.hand_output.Goals as goal

pub returns-in_err-renew_before-clause-part : goal.returns-in_err-renew_before-clause-part
returns-in_err-renew_before-clause-part g c =
    let s = test_context (known c.args.tables.now) (g.A.Answers.members c.args.answers.now) (g.A.Answers.answer c.args.answers.now) g.F.KeyFault.fault_name g.F.KeyFault.fault_key in
    let line = output_line s c.args.margins.now c.args.output.now in
    let old = g.S.RowSink.taken c.args.sink.now in
    let is = err_from_is_err_and c.from_residual.result c.from_residual.ensures.1 in
    subst (λ r. OnErr r (AppendsSome line old old)) (sym is.1) (none_yet line old)

pub returns-in_err-renew_before-clause-failures : goal.returns-in_err-renew_before-clause-failures
returns-in_err-renew_before-clause-failures g c =
    let told = err_from_is_err_and c.from_residual.result c.from_residual.ensures.1 in
    unwritten c.from_residual.result told.0 (g.S.RowSink.failures c.args.sink.now) told.1 told.2

pub returns-in_err-write_output-clause-failures : goal.returns-in_err-write_output-clause-failures
returns-in_err-write_output-clause-failures g c =
    let refusal = c.from_residual-in_err-write_output in
    let told = err_from_is_err_and refusal.result refusal.ensures.1 in
    unwritten refusal.result told.0 (g.S.RowSink.failures c.args.sink.now) told.1 told.2
