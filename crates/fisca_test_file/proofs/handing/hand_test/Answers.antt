use Rattle.std.proofs.Common.{◌≡◌, ◌∙◌, ap, subst}
use Rattle.std.specs.List.{flat_map}
use Rattle.std.proofs.lemmas.Result.{err_from_is_err_and}
use Rattle.fisca_expected.specs.Views.{expected_outputs}
use Rattle.fisca_situations.specs.Situations.{Situation}
use Rattle.fisca_symbols.specs.Known.{tables as known}
use Rattle.fisca_yaml.specs.Views.{node}
use Rattle.fisca_test_file.proofs.OneTest.{test_stopped, test_told}
use Rattle.fisca_test_file.proofs.ReadTests.{situation_of_test}
use Rattle.fisca_test_file.proofs.Refused.{unwritten}
use Rattle.fisca_test_file.specs.Steps.Tests.{test_of}
use Rattle.fisca_test_file.specs.Views.{test}
use Rattle.fisca_test_file.proofs.handing.hand_test.Goals as goal

pub answers-requires : goal.answers-requires
answers-requires g c = record { fits = c.requires (test c.in_ok-test.test) c.in_ok-test.ensures }

pub hand_verdict-requires-clause-answers : goal.hand_verdict-requires-clause-answers
hand_verdict-requires-clause-answers g c s is =
    let here = test c.in_ok-test.test in
    let same : here.situation ≡ s = situation_of_test c.args.tables.now c.args.place.line (node c.args.place.tree.now) here s c.in_ok-test.ensures is in (
      c.in_ok-answers.ensures.answers ∙ ap (g.M.SimulationBuilder.answer_in c.args.builder.now) same,
      c.in_ok-answers.ensures.members ∙ ap (λ (x : Situation). x.members) same,
      subst (g.M.SimulationBuilder.fits c.args.builder.now) same (c.requires here c.in_ok-test.ensures),
    )

pub returns-in_err-answers-clause-failures : goal.returns-in_err-answers-clause-failures
returns-in_err-answers-clause-failures g c =
    let told = err_from_is_err_and c.from_residual-in_err-answers.result c.from_residual-in_err-answers.ensures.1 in
    unwritten c.from_residual-in_err-answers.result told.0 (g.S.RowSink.failures c.args.sink.now) told.1 told.2

pub returns-clause-told : goal.returns-clause-told
returns-clause-told g c =
    let here = test c.in_ok-test.test in
    let one = test_of c.args.tables.now c.args.place.line (node c.args.place.tree.now) in
    let answers = c.in_ok-answers.answers in
    let os = flat_map expected_outputs c.as_slice.result.now in
    test_told (known c.args.tables.now) (g.M.SimulationBuilder.answer_in c.args.builder.now) g.F.KeyFault.fault_name g.F.KeyFault.fault_key one here c.args.number
    (g.A.Answers.answer answers) (g.A.Answers.members answers) os (g.S.RowSink.taken c.args.sink.now) (g.S.RowSink.taken c.hand_verdict.new.sink) c.in_ok-test.ensures
    (c.in_ok-answers.ensures.answers, c.in_ok-answers.ensures.members, c.as_slice.ensures) c.hand_verdict.result c.hand_verdict.ensures.passed c.hand_verdict.ensures.all

pub returns-clause-stopped : goal.returns-clause-stopped
returns-clause-stopped g c =
    let here = test c.in_ok-test.test in
    let one = test_of c.args.tables.now c.args.place.line (node c.args.place.tree.now) in
    let answers = c.in_ok-answers.answers in
    let os = flat_map expected_outputs c.as_slice.result.now in
    test_stopped (known c.args.tables.now) (g.M.SimulationBuilder.answer_in c.args.builder.now) g.F.KeyFault.fault_name g.F.KeyFault.fault_key one here c.args.number
    (g.A.Answers.answer answers) (g.A.Answers.members answers) os (g.S.RowSink.taken c.args.sink.now) (g.S.RowSink.taken c.hand_verdict.new.sink) c.in_ok-test.ensures
    (c.in_ok-answers.ensures.answers, c.in_ok-answers.ensures.members, c.as_slice.ensures) c.hand_verdict.result c.hand_verdict.ensures.cut c.hand_verdict.ensures.part
