use Rattle.std.proofs.Common.{◌≡◌, ◌∙◌, ◌+◌, ◌<◌, [], ◌++◌, length, ap, ap₂, arith, append_assoc, drop, refl, subst, sym}
use Rattle.std.specs.Prelude.{OnErr}
use Rattle.std.specs.List.{flat_map}
use Rattle.std.specs.Io.KnownBytes.{Appends}
use Rattle.std.proofs.KnownBytes.{Appends-nil, Appends-trans}
use Rattle.std.proofs.lemmas.Result.{err_from_is_err_and}
use Rattle.fisca_expected.specs.Views.{expected_outputs}
use Rattle.fisca_symbols.specs.Known.{tables as known}
use Rattle.fisca_test_file.proofs.Handed.{behind, in_front}
use Rattle.fisca_test_file.proofs.OutputLines.{lines_from}
use Rattle.fisca_test_file.specs.Handing.{AppendsSome}
use Rattle.fisca_test_file.specs.Report.{output_lines, test_context}
use Rattle.fisca_test_file.proofs.handing.hand_lines.Goals as goal

pub loop-expected-init : goal.loop-expected-init
loop-expected-init g c = ([], refl, Appends-nil (g.S.RowSink.taken c.args.sink.now), refl, c.requires.ready, refl, refl)

pub hand_expected-requires-clause-answers : goal.hand_expected-requires-clause-answers
hand_expected-requires-clause-answers g c s is =
    let l = c.loop-expected in
    let here = c.requires.answers s is in
    (l.invariant.5 ∙ here.0, l.invariant.6 ∙ here.1, here.2)

pub loop-expected-preserved : goal.loop-expected-preserved
loop-expected-preserved g c =
    let l = c.loop-expected in
    let name = g.F.KeyFault.fault_name in
    let key = g.F.KeyFault.fault_key in
    let s = test_context (known c.args.tables.now) (g.A.Answers.members c.args.answers.now) (g.A.Answers.answer c.args.answers.now) name key in
    let m = c.args.margins.now in
    let es = c.args.outputs.now in
    let here = c.expected-item.result in
    let inside : l.expected-index < length es = omega (arith, c.loop-expected-test.true, l.auto.expected-index-end) in
    let told = l.invariant.0 in
    let line = output_lines s m (expected_outputs here) in
    let left = output_lines s m (flat_map expected_outputs (drop (l.expected-index + 1) es)) in
    let split = l.invariant.1 ∙ ap (λ x. told ++ x) (lines_from s m es l.expected-index here inside c.expected-item.is) ∙ sym (append_assoc told line left) in
    let same = ap₂ (λ ms answer. output_lines (test_context (known c.args.tables.now) ms answer name key) m (expected_outputs here)) l.invariant.6 l.invariant.5 in
    let more = subst (Appends (g.S.RowSink.taken l.sink) (g.S.RowSink.taken c.hand_expected.new.sink)) same c.in_ok-hand_expected.ensures.all in
    let written = Appends-trans (g.S.RowSink.taken c.args.sink.now) (g.S.RowSink.taken l.sink) (g.S.RowSink.taken c.hand_expected.new.sink) told line l.invariant.2 more in (
      told ++ line,
      split,
      written,
      c.in_ok-hand_expected.ensures.failures ∙ l.invariant.3,
      c.hand_expected.ensures.ready,
      c.hand_expected.ensures.same_answers ∙ l.invariant.5,
      c.hand_expected.ensures.same_members ∙ l.invariant.6,
    )

pub returns-in_err-hand_expected-clause-part : goal.returns-in_err-hand_expected-clause-part
returns-in_err-hand_expected-clause-part g c =
    let l = c.loop-expected in
    let name = g.F.KeyFault.fault_name in
    let key = g.F.KeyFault.fault_key in
    let s = test_context (known c.args.tables.now) (g.A.Answers.members c.args.answers.now) (g.A.Answers.answer c.args.answers.now) name key in
    let m = c.args.margins.now in
    let es = c.args.outputs.now in
    let here = c.expected-item.result in
    let inside : l.expected-index < length es = omega (arith, c.loop-expected-test.true, l.auto.expected-index-end) in
    let told = l.invariant.0 in
    let line = output_lines s m (expected_outputs here) in
    let left = output_lines s m (flat_map expected_outputs (drop (l.expected-index + 1) es)) in
    let old = g.S.RowSink.taken c.args.sink.now in
    let mid = g.S.RowSink.taken l.sink in
    let new = g.S.RowSink.taken c.hand_expected.new.sink in
    let whole = l.invariant.1 ∙ ap (λ x. told ++ x) (lines_from s m es l.expected-index here inside c.expected-item.is) in
    let same = ap₂ (λ ms answer. output_lines (test_context (known c.args.tables.now) ms answer name key) m (expected_outputs here)) l.invariant.6 l.invariant.5 in
    let part = subst (λ x. AppendsSome x mid new) same c.in_err-hand_expected.ensures.part in
    let some = behind told (line ++ left) old mid new l.invariant.2 (in_front line left mid new part) in
    let is = err_from_is_err_and c.from_residual.result c.from_residual.ensures.1 in
    subst (λ r. OnErr r (AppendsSome (output_lines s m (flat_map expected_outputs es)) old new)) (sym is.1) (subst (λ x. AppendsSome x old new) (sym whole) some)
