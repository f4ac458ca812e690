use Rattle.std.proofs.Common.{◌≡◌, drop, string_bytes}
use Rattle.fisca_situations.proofs.Asking.{AreLeft}
use Rattle.fisca_symbols.specs.Known.{tables as known}
use Rattle.fisca_rows.specs.Asked.{keys_written}
use Rattle.fisca_rows.specs.Lines.{with_columns}
use Rattle.fisca_rows.proofs.lines.write_columns.Given as goal

-- those that are left come behind those so far, which were asked for
abbrev pub invariant-loop-key : goal.invariant-loop-key
invariant-loop-key g l =
    let c = known l.tables in
    let answer = g.A.Answers.answer l.initial.answers in
    record {
      ready : g.A.Answers.ready l.answers;
      same : g.A.Answers.answer l.answers ≡ answer;
      members : g.A.Answers.members l.answers ≡ g.A.Answers.members l.initial.answers;
      written : with_columns c answer l.columns (string_bytes l.fn.line) ≡ with_columns c answer (drop l.key-index l.columns) (string_bytes l.line);
      asked : AreLeft g.A.Answers.worked (keys_written answer l.columns) (keys_written answer (drop l.key-index l.columns)) l.initial.answers l.answers;
    }
