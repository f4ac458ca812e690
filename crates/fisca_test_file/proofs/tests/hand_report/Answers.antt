use Rattle.std.proofs.Common.{◌≡◌, ◌∙◌, ap, subst, sym}
use Rattle.std.specs.Prelude.{Err, IfErr}
use Rattle.std.proofs.lemmas.Result.{err_from_is_err_and}
use Rattle.fisca_symbols.specs.Known.{tables as known}
use Rattle.fisca_writer.specs.Run.{AppendsPart}
use Rattle.fisca_yaml.specs.Views.{node}
use Rattle.fisca_test_file.proofs.Stopped.{stopped_in_counts}
use Rattle.fisca_test_file.specs.Handing.{IsStopped}
use Rattle.fisca_test_file.specs.Report.{report_text, test_context_of}
use Rattle.fisca_test_file.specs.Steps.Tests.{tests_of}
use Rattle.fisca_test_file.proofs.tests.hand_report.Goals as goal

pub returns-in_err-hand_counts-clause-stopped : goal.returns-in_err-hand_counts-clause-stopped
returns-in_err-hand_counts-clause-stopped g c =
    let test_context = test_context_of (known c.args.tables.now) (g.M.SimulationBuilder.answer_in c.args.builder.now) g.F.KeyFault.fault_name g.F.KeyFault.fault_key in
    let outcome = tests_of c.args.tables.now (node c.args.tree.now) in
    let old = g.S.RowSink.taken c.args.sink.now in
    let mid = g.S.RowSink.taken c.hand_tests.new.sink in
    let new = g.S.RowSink.taken c.hand_counts.new.sink in
    let fault = c.in_err-hand_counts.field-0.0 in
    let stop = stopped_in_counts test_context outcome old mid new c.in_ok-verdict.verdict c.in_ok-verdict.ensures.told fault c.in_err-hand_counts.ensures.cut c.in_err-hand_counts.ensures.part in
    let is = err_from_is_err_and c.from_residual-in_err-hand_counts.result c.from_residual-in_err-hand_counts.ensures.1 in
    subst (λ r. IfErr r (IsStopped outcome (λ ts. AppendsPart (report_text test_context ts) old new))) (sym (is.1 ∙ ap Err is.2)) stop
