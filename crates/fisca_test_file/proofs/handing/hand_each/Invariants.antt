use Rattle.std.proofs.Common.{◌≡◌, ◌++◌, ℕ, List, ◌-◌, map}
use Rattle.std.specs.List.{range_with_len}
use Rattle.std.specs.Io.KnownBytes.{Appends}
use Rattle.fisca_expected.specs.Views.{output_of}
use Rattle.fisca_symbols.specs.Known.{tables as known}
use Rattle.fisca_test_file.specs.Report.{output_lines, test_context}
use Rattle.fisca_test_file.proofs.handing.hand_each.Given as goal

abbrev pub invariant-loop-member : goal.invariant-loop-member
invariant-loop-member g l =
    let s = test_context (known l.tables) (g.A.Answers.members l.initial.answers) (g.A.Answers.answer l.initial.answers) g.F.KeyFault.fault_name g.F.KeyFault.fault_key in
    let f = output_of l.expected in
    (told : List ℕ)
    × (output_lines s l.margins (map f (range_with_len 0 l.count)) ≡ told ++ output_lines s l.margins (map f (range_with_len l.member (l.count - l.member))))
    × Appends (g.S.RowSink.taken l.initial.sink) (g.S.RowSink.taken l.sink) told
    × (g.S.RowSink.failures l.sink ≡ g.S.RowSink.failures l.initial.sink)
    × g.A.Answers.ready l.answers
    × (g.A.Answers.answer l.answers ≡ g.A.Answers.answer l.initial.answers)
    × (g.A.Answers.members l.answers ≡ g.A.Answers.members l.initial.answers)
