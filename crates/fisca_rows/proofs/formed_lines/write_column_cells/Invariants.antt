use Rattle.std.proofs.Common.{◌≡◌, drop, string_bytes}
use Rattle.fisca_situations.proofs.Asking.{AreLeft}
use Rattle.fisca_symbols.specs.Known.{tables as known}
use Rattle.fisca_rows.specs.Asked.{keys_written}
use Rattle.fisca_rows.proofs.FormedCells.{AreThere}
use Rattle.fisca_rows.proofs.formed_lines.write_column_cells.Given as goal

-- the columns before a place were asked for, and their cells are there
abbrev pub invariant-loop-place : goal.invariant-loop-place
invariant-loop-place g l =
    let answer = g.A.Answers.answer l.initial.answers in
    record {
      ready : g.A.Answers.ready l.answers;
      same : g.A.Answers.answer l.answers ≡ answer;
      members : g.A.Answers.members l.answers ≡ g.A.Answers.members l.initial.answers;
      written : AreThere l.form (known l.tables) answer l.columns l.first l.place (string_bytes l.fn.line) (string_bytes l.line);
      asked : AreLeft g.A.Answers.worked (keys_written answer l.columns) (keys_written answer (drop l.place l.columns)) l.initial.answers l.answers;
    }
