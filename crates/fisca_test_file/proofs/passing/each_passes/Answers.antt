use Rattle.std.proofs.Common.{◌≡◌, ◌∙◌, ◌+◌, ◌-◌, ◌<◌, ap, ap₂, arith, map, rules, sym, true}
use Rattle.std.specs.Prelude.{◌&&◌}
use Rattle.std.specs.List.{range_with_len}
use Rattle.fisca_expected.specs.Views.{output_of}
use Rattle.fisca_symbols.specs.Known.{tables as known}
use Rattle.fisca_test_file.proofs.OutputLines.{pass_from_member}
use Rattle.fisca_test_file.specs.Report.{output_passes, passes, test_context}
use Rattle.fisca_test_file.proofs.passing.each_passes.Goals as goal

pub output_passes-requires-clause-answers : goal.output_passes-requires-clause-answers
output_passes-requires-clause-answers g c s is =
    let l = c.loop-member in
    let here = c.requires.answers s is in
    (l.invariant.2 ∙ here.0, l.invariant.3 ∙ here.1, here.2)

pub loop-member-preserved : goal.loop-member-preserved
loop-member-preserved g c =
    let l = c.loop-member in
    let name = g.F.KeyFault.fault_name in
    let key = g.F.KeyFault.fault_key in
    let s = test_context (known c.args.tables.now) (g.A.Answers.members c.args.answers.now) (g.A.Answers.answer c.args.answers.now) name key in
    let m = c.args.margins.now in
    let f = output_of c.args.expected.now in
    let n = c.args.count in
    let inside : l.member < n = omega (arith, c.loop-member-test.true) in
    let rest = passes s m (map f (range_with_len (l.member + 1) (n - (l.member + 1)))) in
    let now = ap₂ (λ ms answer. test_context (known c.args.tables.now) ms answer name key) l.invariant.3 l.invariant.2 in
    let told = c.in_ok-passed.ensures.passed ∙ ap₂ (λ t o. output_passes t m o) now c.of_member-output.ensures in
    let here : c.in_ok-passed.passed ≡ true = search rules in
    let left = l.invariant.0 ∙ pass_from_member s m f l.member n inside ∙ ap (λ b. b && rest) (sym told ∙ here) in
    (left, c.output_passes.ensures.ready, c.output_passes.ensures.same_answers ∙ l.invariant.2, c.output_passes.ensures.same_members ∙ l.invariant.3)
