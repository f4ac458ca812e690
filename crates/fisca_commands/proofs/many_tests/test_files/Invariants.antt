use Rattle.std.proofs.Common.{◌≡◌, drop, option_map}
use Rattle.fisca_commands.proofs.TestsPassed.{IsUnderWay}
use Rattle.fisca_commands.proofs.many_tests.test_files.Given as goal

-- what the files that are left answer is what all answer
abbrev pub invariant-loop-file : goal.invariant-loop-file
invariant-loop-file g l =
    IsUnderWay l.rules l.told_paths (option_map (λ text. text.now) l.name) l.tests (g.S.RowSink.taken l.initial.sink) (drop l.file-index l.tests) l.total (g.S.RowSink.taken l.sink)
    × (g.S.RowSink.failures l.sink ≡ g.S.RowSink.failures l.initial.sink)
