use Rattle.std.proofs.Common.{◌≡◌, ◌∙◌, [], ◌∷◌, Ok, ap, subst, sym}
use Rattle.std.specs.Prelude.{Err, IfErr}
use Rattle.std.proofs.lemmas.Result.{err_from_is_err_and}
use Rattle.fisca_num.specs.Results.{and_then}
use Rattle.fisca_symbols.specs.Known.{tables as known}
use Rattle.fisca_yaml.specs.Views.{node}
use Rattle.fisca_test_file.proofs.Reports.{Told, all_told, begun, step}
use Rattle.fisca_test_file.proofs.Stopped.{only_one, stopped_more}
use Rattle.fisca_test_file.specs.Handing.{AppendsSome, IsStopped}
use Rattle.fisca_test_file.specs.Report.{test_context_of, tests_text}
use Rattle.fisca_test_file.specs.Tests.{Test}
use Rattle.fisca_test_file.specs.Steps.Tests.{only_test, test_of}
use Rattle.fisca_test_file.specs.declared.all.Verdict.{Verdict}
use Rattle.fisca_test_file.proofs.tests.hand_only.Goals as goal

pub hand_test-requires : goal.hand_test-requires
hand_test-requires g c = c.requires 1 (node c.args.tree.now)

pub returns-clause-told : goal.returns-clause-told
returns-clause-told g c =
    let test_context = test_context_of (known c.args.tables.now) (g.M.SimulationBuilder.answer_in c.args.builder.now) g.F.KeyFault.fault_name g.F.KeyFault.fault_key in
    let old = g.S.RowSink.taken c.args.sink.now in
    let new = g.S.RowSink.taken c.hand_test.new.sink in
    let none : Verdict = record { passed = 0; failed = 0 } in
    let handed = c.in_ok-passed.ensures.told in
    let here = handed.0 in
    let outcome : only_test c.args.tables.now (node c.args.tree.now) ≡ Ok (here ∷ []) = ap (λ r. and_then r (λ (t : Test). Ok (t ∷ []))) handed.1 in
    let one = step test_context [] here none old old new c.in_ok-passed.passed (begun test_context old) handed.2 handed.3 in
    all_told test_context (only_test c.args.tables.now (node c.args.tree.now)) (here ∷ []) c.with.result old new outcome (subst (λ (v : Verdict). Told test_context (here ∷ []) v old new) (sym c.with.ensures) one)

pub returns-in_err-passed-clause-stopped : goal.returns-in_err-passed-clause-stopped
returns-in_err-passed-clause-stopped g c =
    let test_context = test_context_of (known c.args.tables.now) (g.M.SimulationBuilder.answer_in c.args.builder.now) g.F.KeyFault.fault_name g.F.KeyFault.fault_key in
    let old = g.S.RowSink.taken c.args.sink.now in
    let new = g.S.RowSink.taken c.hand_test.new.sink in
    let none : Verdict = record { passed = 0; failed = 0 } in
    let fault = c.in_err-passed.field-0.0 in
    let stop = stopped_more test_context [] (test_of c.args.tables.now 1 (node c.args.tree.now)) (λ (t : Test). Ok (t ∷ [])) none old old new only_one (begun test_context old) fault c.in_err-passed.ensures.stopped in
    let is = err_from_is_err_and c.from_residual.result c.from_residual.ensures.1 in
    subst (λ r. IfErr r (IsStopped (only_test c.args.tables.now (node c.args.tree.now)) (λ ts. AppendsSome (tests_text test_context 1 ts) old new))) (sym (is.1 ∙ ap Err is.2)) stop
