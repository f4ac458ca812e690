use Rattle.std.proofs.Common.{◌≡◌, drop}
use Rattle.std.specs.List.{flat_map}
use Rattle.fisca_expected.specs.Views.{expected_outputs}
use Rattle.fisca_symbols.specs.Known.{tables as known}
use Rattle.fisca_test_file.specs.Report.{passes, test_context}
use Rattle.fisca_test_file.proofs.passing.all_pass.Given as goal

abbrev pub invariant-loop-expected : goal.invariant-loop-expected
invariant-loop-expected g l =
    let s = test_context (known l.tables) (g.A.Answers.members l.initial.answers) (g.A.Answers.answer l.initial.answers) g.F.KeyFault.fault_name g.F.KeyFault.fault_key in
    (passes s l.margins (flat_map expected_outputs l.outputs) ≡ passes s l.margins (flat_map expected_outputs (drop l.expected-index l.outputs)))
    × g.A.Answers.ready l.answers
    × (g.A.Answers.answer l.answers ≡ g.A.Answers.answer l.initial.answers)
    × (g.A.Answers.members l.answers ≡ g.A.Answers.members l.initial.answers)
