use Rattle.std.proofs.Common.{◌≡◌, ◌++◌, ℕ, List, drop}
use Rattle.std.specs.List.{flat_map}
use Rattle.std.specs.Io.KnownBytes.{Appends}
use Rattle.fisca_expected.specs.Views.{expected_outputs}
use Rattle.fisca_symbols.specs.Known.{tables as known}
use Rattle.fisca_test_file.specs.Report.{output_lines, test_context}
use Rattle.fisca_test_file.proofs.handing.hand_lines.Given as goal

abbrev pub invariant-loop-expected : goal.invariant-loop-expected
invariant-loop-expected g l =
    let s = test_context (known l.tables) (g.A.Answers.members l.initial.answers) (g.A.Answers.answer l.initial.answers) g.F.KeyFault.fault_name g.F.KeyFault.fault_key in
    (told : List ℕ)
    × (output_lines s l.margins (flat_map expected_outputs l.outputs) ≡ told ++ output_lines s l.margins (flat_map expected_outputs (drop l.expected-index l.outputs)))
    × Appends (g.S.RowSink.taken l.initial.sink) (g.S.RowSink.taken l.sink) told
    × (g.S.RowSink.failures l.sink ≡ g.S.RowSink.failures l.initial.sink)
    × g.A.Answers.ready l.answers
    × (g.A.Answers.answer l.answers ≡ g.A.Answers.answer l.initial.answers)
    × (g.A.Answers.members l.answers ≡ g.A.Answers.members l.initial.answers)
