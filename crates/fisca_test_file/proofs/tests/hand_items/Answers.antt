use Rattle.std.proofs.Common.{◌≡◌, ◌∙◌, ◌+◌, ◌<◌, [], ◌∷◌, ◌++◌, drop, length, ap, arith, refl, subst, sym}
use Rattle.std.specs.Prelude.{Err, IfErr}
use Rattle.std.proofs.lemmas.List.{length-append}
use Rattle.std.proofs.lemmas.Result.{err_from_is_err_and}
use Rattle.fisca_num.specs.Results.{and_then}
use Rattle.fisca_symbols.specs.Known.{tables as known}
use Rattle.fisca_yaml.specs.Views.{items_view, node}
use Rattle.fisca_test_file.proofs.Items.{items-drop}
use Rattle.fisca_test_file.proofs.Reports.{Told, begun, step}
use Rattle.fisca_test_file.proofs.Stopped.{behind_one, stopped_more}
use Rattle.fisca_test_file.specs.Handing.{AppendsSome, IsStopped}
use Rattle.fisca_test_file.specs.Report.{test_context_of, tests_text}
use Rattle.fisca_test_file.specs.Tests.{Test}
use Rattle.fisca_test_file.specs.Steps.Tests.{test_of, tests_from}
use Rattle.fisca_test_file.specs.declared.all.Verdict.{Verdict}
use Rattle.fisca_test_file.proofs.tests.hand_items.Goals as goal

pub hand_test-requires : goal.hand_test-requires
hand_test-requires g c = c.requires c.item-item.result.line (node c.item-item.result.value)

pub loop-item-init : goal.loop-item-init
loop-item-init g c =
    let test_context = test_context_of (known c.args.tables.now) (g.M.SimulationBuilder.answer_in c.args.builder.now) g.F.KeyFault.fault_name g.F.KeyFault.fault_key in
    ([], refl, begun test_context (g.S.RowSink.taken c.args.sink.now), refl, refl)

pub loop-item-preserved : goal.loop-item-preserved
loop-item-preserved g c =
    let test_context = test_context_of (known c.args.tables.now) (g.M.SimulationBuilder.answer_in c.args.builder.now) g.F.KeyFault.fault_name g.F.KeyFault.fault_key in
    let l = c.loop-item in
    let items = c.args.items.now in
    let told = l.invariant.0 in
    let handed = c.in_ok-passed.ensures.told in
    let here = handed.0 in
    let left = items_view (drop (l.item-index + 1) items) in
    let inside : l.item-index < length items = omega (arith, c.loop-item-test.true, l.auto.item-index-end) in
    let cut = items-drop items l.item-index c.item-item.result inside c.item-item.is in
    let read = l.invariant.1 ∙ ap (λ is. tests_from c.args.tables.now told is) cut
    ∙ ap (λ r. and_then r (λ (t : Test). tests_from c.args.tables.now (told ++ t ∷ []) left)) handed.1 in
    let old = g.S.RowSink.taken c.args.sink.now in
    let new = g.S.RowSink.taken c.hand_test.new.sink in
    let more = step test_context told here l.verdict old _ new c.in_ok-passed.passed l.invariant.2 handed.2 handed.3 in
    let longer : length (told ++ here ∷ []) ≡ length told + 1 = length-append told (here ∷ []) in
    let count : length (told ++ here ∷ []) ≡ l.item-index + 1 = longer ∙ ap (λ n. n + 1) l.invariant.3 in
    (told ++ here ∷ [], read, subst (λ (v : Verdict). Told test_context (told ++ here ∷ []) v old new) (sym c.with-verdict.ensures) more, count, c.in_ok-passed.ensures.failures ∙ l.invariant.4)

pub returns-in_err-passed-clause-stopped : goal.returns-in_err-passed-clause-stopped
returns-in_err-passed-clause-stopped g c =
    let test_context = test_context_of (known c.args.tables.now) (g.M.SimulationBuilder.answer_in c.args.builder.now) g.F.KeyFault.fault_name g.F.KeyFault.fault_key in
    let l = c.loop-item in
    let items = c.args.items.now in
    let told = l.invariant.0 in
    let left = items_view (drop (l.item-index + 1) items) in
    let inside : l.item-index < length items = omega (arith, c.loop-item-test.true, l.auto.item-index-end) in
    let cut = items-drop items l.item-index c.item-item.result inside c.item-item.is in
    let read = l.invariant.1 ∙ ap (λ is. tests_from c.args.tables.now told is) cut in
    let old = g.S.RowSink.taken c.args.sink.now in
    let new = g.S.RowSink.taken c.hand_test.new.sink in
    let fault = c.in_err-passed.field-0.0 in
    let stop = stopped_more test_context told _ (λ (t : Test). tests_from c.args.tables.now (told ++ t ∷ []) left) l.verdict old _ new (behind_one c.args.tables.now told left) l.invariant.2 fault c.in_err-passed.ensures.stopped in
    let all = subst (λ r. IsStopped r (λ ts. AppendsSome (tests_text test_context 1 ts) old new) fault) (sym read) stop in
    let is = err_from_is_err_and c.from_residual.result c.from_residual.ensures.1 in
    subst (λ r. IfErr r (IsStopped (tests_from c.args.tables.now [] (items_view items)) (λ ts. AppendsSome (tests_text test_context 1 ts) old new))) (sym (is.1 ∙ ap Err is.2)) all
