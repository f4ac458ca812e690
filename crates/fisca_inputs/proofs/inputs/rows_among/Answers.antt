use Rattle.std.proofs.Common.{◌≡◌, ◌∷◌, ◌+◌, drop, true, ap, sym, subst, ◌∙◌}
use Rattle.std.proofs.lemmas.List.{drop_more}
use Rattle.std.specs.Map.{keys_of}
use Rattle.fisca_inputs.specs.Defaults.{and_row, rows_with}
use Rattle.fisca_inputs.specs.Entries.{key}
use Rattle.fisca_inputs.specs.Steps.Entries.{has}
use Rattle.fisca_model.specs.declared.key.Key.{Key}
use Rattle.fisca_inputs.proofs.Numbered.{has_own}
use Rattle.fisca_inputs.proofs.inputs.rows_among.Goals as goal

pub loop-entry-preserved : goal.loop-entry-preserved
loop-entry-preserved c =
    let es = c.args.entries.now in
    let i = c.loop-entry.entry-index in
    let e = c.entry-item.result in
    let before = keys_of c.loop-entry.rows.entries in
    let next = drop_more es i e c.loop-entry-test.true ∙ ap (λ x. x ∷ drop (i + 1) es) (sym c.entry-item.is) in
    let there : has es (key c.row_of.result.variable e.0.member c.row_of.result.period) ≡ true =
    subst (λ (row : Key). has es (key row.variable e.0.member row.period) ≡ true) (sym c.row_of.ensures) (has_own es i e c.loop-entry-test.true c.entry-item.is) in
    record {
      rows = ap (λ ks. rows_with ks (drop (i + 1) es)) (c.in_ok-note_member.ensures.keys ∙ ap (and_row before) c.row_of.ensures) ∙ sym (ap (rows_with before) next) ∙ c.loop-entry.invariant.rows;
      first = c.in_ok-note_member.ensures.first es there c.loop-entry.invariant.first;
    }
