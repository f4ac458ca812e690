use Rattle.std.proofs.Common.{◌≡◌, ◌∙◌, ◌+◌, ◌-◌, ◌<◌, [], ◌++◌, ap, ap₂, arith, append_assoc, map, refl, subst, sym}
use Rattle.std.specs.Prelude.{OnErr}
use Rattle.std.specs.List.{range_with_len}
use Rattle.std.specs.Io.KnownBytes.{Appends}
use Rattle.std.proofs.KnownBytes.{Appends-nil, Appends-trans}
use Rattle.std.proofs.lemmas.Result.{err_from_is_err_and}
use Rattle.fisca_expected.specs.Views.{output_of}
use Rattle.fisca_symbols.specs.Known.{tables as known}
use Rattle.fisca_test_file.proofs.Handed.{behind, in_front}
use Rattle.fisca_test_file.proofs.OutputLines.{all_left, lines_from_member}
use Rattle.fisca_test_file.specs.Handing.{AppendsSome}
use Rattle.fisca_test_file.specs.Report.{output_line, output_lines, test_context}
use Rattle.fisca_test_file.proofs.handing.hand_each.Goals as goal

pub loop-member-init : goal.loop-member-init
loop-member-init g c =
    let name = g.F.KeyFault.fault_name in
    let key = g.F.KeyFault.fault_key in
    let s = test_context (known c.args.tables.now) (g.A.Answers.members c.args.answers.now) (g.A.Answers.answer c.args.answers.now) name key in
    let all = ap (λ k. output_lines s c.args.margins.now (map (output_of c.args.expected.now) (range_with_len 0 k))) (all_left c.args.count) in
    ([], all, Appends-nil (g.S.RowSink.taken c.args.sink.now), refl, c.requires.ready, refl, refl)

pub hand_output-requires-clause-answers : goal.hand_output-requires-clause-answers
hand_output-requires-clause-answers g c s is =
    let l = c.loop-member in
    let here = c.requires.answers s is in
    (l.invariant.5 ∙ here.0, l.invariant.6 ∙ here.1, here.2)

pub loop-member-preserved : goal.loop-member-preserved
loop-member-preserved g c =
    let l = c.loop-member in
    let name = g.F.KeyFault.fault_name in
    let key = g.F.KeyFault.fault_key in
    let s = test_context (known c.args.tables.now) (g.A.Answers.members c.args.answers.now) (g.A.Answers.answer c.args.answers.now) name key in
    let m = c.args.margins.now in
    let f = output_of c.args.expected.now in
    let n = c.args.count in
    let inside : l.member < n = omega (arith, c.loop-member-test.true) in
    let told = l.invariant.0 in
    let line = output_line s m (f l.member) in
    let left = output_lines s m (map f (range_with_len (l.member + 1) (n - (l.member + 1)))) in
    let split = l.invariant.1 ∙ ap (λ x. told ++ x) (lines_from_member s m f l.member n inside) ∙ sym (append_assoc told line left) in
    let same = ap₂ (λ t o. output_line t m o) (ap₂ (λ ms answer. test_context (known c.args.tables.now) ms answer name key) l.invariant.6 l.invariant.5) c.of_member-output.ensures in
    let more = subst (Appends (g.S.RowSink.taken l.sink) (g.S.RowSink.taken c.hand_output.new.sink)) same c.in_ok-hand_output.ensures.all in
    let written = Appends-trans (g.S.RowSink.taken c.args.sink.now) (g.S.RowSink.taken l.sink) (g.S.RowSink.taken c.hand_output.new.sink) told line l.invariant.2 more in (
      told ++ line,
      split,
      written,
      c.in_ok-hand_output.ensures.failures ∙ l.invariant.3,
      c.hand_output.ensures.ready,
      c.hand_output.ensures.same_answers ∙ l.invariant.5,
      c.hand_output.ensures.same_members ∙ l.invariant.6,
    )

pub returns-in_err-hand_output-clause-part : goal.returns-in_err-hand_output-clause-part
returns-in_err-hand_output-clause-part g c =
    let l = c.loop-member in
    let name = g.F.KeyFault.fault_name in
    let key = g.F.KeyFault.fault_key in
    let s = test_context (known c.args.tables.now) (g.A.Answers.members c.args.answers.now) (g.A.Answers.answer c.args.answers.now) name key in
    let m = c.args.margins.now in
    let f = output_of c.args.expected.now in
    let n = c.args.count in
    let inside : l.member < n = omega (arith, c.loop-member-test.true) in
    let told = l.invariant.0 in
    let line = output_line s m (f l.member) in
    let left = output_lines s m (map f (range_with_len (l.member + 1) (n - (l.member + 1)))) in
    let old = g.S.RowSink.taken c.args.sink.now in
    let mid = g.S.RowSink.taken l.sink in
    let new = g.S.RowSink.taken c.hand_output.new.sink in
    let whole = l.invariant.1 ∙ ap (λ x. told ++ x) (lines_from_member s m f l.member n inside) in
    let same = ap₂ (λ t o. output_line t m o) (ap₂ (λ ms answer. test_context (known c.args.tables.now) ms answer name key) l.invariant.6 l.invariant.5) c.of_member-output.ensures in
    let part = subst (λ x. AppendsSome x mid new) same c.in_err-hand_output.ensures.part in
    let some = behind told (line ++ left) old mid new l.invariant.2 (in_front line left mid new part) in
    let is = err_from_is_err_and c.from_residual.result c.from_residual.ensures.1 in
    subst (λ r. OnErr r (AppendsSome (output_lines s m (map f (range_with_len 0 n))) old new)) (sym is.1) (subst (λ x. AppendsSome x old new) (sym whole) some)
