use Rattle.std.proofs.Common.{◌≡◌, ◌-◌, map}
use Rattle.std.specs.List.{range_with_len}
use Rattle.fisca_expected.specs.Views.{output_of}
use Rattle.fisca_symbols.specs.Known.{tables as known}
use Rattle.fisca_test_file.specs.Report.{passes, test_context}
use Rattle.fisca_test_file.proofs.passing.each_passes.Given as goal

abbrev pub invariant-loop-member : goal.invariant-loop-member
invariant-loop-member g l =
    let s = test_context (known l.tables) (g.A.Answers.members l.initial.answers) (g.A.Answers.answer l.initial.answers) g.F.KeyFault.fault_name g.F.KeyFault.fault_key in
    let f = output_of l.expected in
    (passes s l.margins (map f (range_with_len 0 l.count)) ≡ passes s l.margins (map f (range_with_len l.member (l.count - l.member))))
    × g.A.Answers.ready l.answers
    × (g.A.Answers.answer l.answers ≡ g.A.Answers.answer l.initial.answers)
    × (g.A.Answers.members l.answers ≡ g.A.Answers.members l.initial.answers)
