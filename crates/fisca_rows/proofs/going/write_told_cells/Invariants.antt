use Rattle.std.proofs.Common.{◌≡◌, ◌+◌, ◌||◌, ◌++◌, drop, is_err, string_bytes}
use Rattle.std.specs.List.{list_any}
use Rattle.fisca_forms.specs.LineForms.{cells_from}
use Rattle.fisca_situations.proofs.Asking.{AreLeft}
use Rattle.fisca_symbols.specs.Known.{tables as known}
use Rattle.fisca_rows.specs.Going.{told_cells}
use Rattle.fisca_rows.proofs.going.write_told_cells.Given as goal

-- those that are left come behind those so far, which were asked for
abbrev pub invariant-loop-place : goal.invariant-loop-place
invariant-loop-place g l =
    let c = known l.tables in
    let form = l.form in
    let answer = g.A.Answers.answer l.initial.answers in
    record {
      ready : g.A.Answers.ready l.answers;
      same : g.A.Answers.answer l.answers ≡ answer;
      members : g.A.Answers.members l.answers ≡ g.A.Answers.members l.initial.answers;
      written : string_bytes l.fn.line ++ cells_from form.format form.names l.first (told_cells c form.decimals answer l.columns)
          ≡ string_bytes l.line ++ cells_from form.format form.names (l.first + l.place) (told_cells c form.decimals answer (drop l.place l.columns));
      lacks : (l.fn.lacks || list_any (λ k. is_err (answer k)) l.columns) ≡ (l.lacks || list_any (λ k. is_err (answer k)) (drop l.place l.columns));
      asked : AreLeft g.A.Answers.worked l.columns (drop l.place l.columns) l.initial.answers l.answers;
    }
