use Rattle.std.proofs.Common.{◌≡◌, ◌<◌, ◌≤◌, ◌+◌, ◌-◌, ◌++◌, ◌∷◌, [], ◌∙◌, suc, length, drop, take, slice_get, string_bytes, arith, append_assoc, sym, ap}
use Rattle.std.proofs.lemmas.List.{length-drop}
use Rattle.fisca_num.specs.Text.{text_of}
use Rattle.fisca_grid.specs.Grid.{axes_at}
use Rattle.fisca_grid.specs.AxesRow.{tab, values_of}
use Rattle.fisca_grid.proofs.Groups.{length-axes_at}
use Rattle.fisca_grid.proofs.Rest.{slice_get-drop}
use Rattle.fisca_grid.proofs.Values.{values_more, cells_more}
use Rattle.fisca_grid.proofs.axis_rows.write_values.Goals as goal

pub loop-axis-preserved : goal.loop-axis-preserved
loop-axis-preserved c =
    let from = c.args.from in
    let i = c.loop-axis.axis in
    let axes = axes_at c.args.axes.now c.args.position in
    let others = drop from axes in
    let values = c.loop-axis.invariant.0 in
    let value = c.step.result in
    let behind : from ≤ i = c.loop-axis.auto.axis in
    let inside : i - from < length others = omega (arith, length-drop from axes, length-axes_at c.args.axes.now c.args.position, c.requires.within, c.loop-axis-test.true, behind) in
    let there : slice_get others (i - from) ≡ slice_get axes i = slice_get-drop from axes (i - from) ∙ ap (λ n. slice_get axes n) (omega (arith, behind)) in
    let more : suc (i - from) ≡ i + 1 - from = omega (arith, behind) in (
      values ++ value ∷ [],
      ap (λ n. values_of (take n others)) (sym more) ∙ values_more others (i - from) value values inside (λ at is. c.step.ensures at (sym there ∙ is)) c.loop-axis.invariant.1,
      c.in_ok-write_value.ensures ∙ ap (λ bytes. bytes ++ (tab ∷ text_of value)) c.loop-axis.invariant.2
          ∙ append_assoc (string_bytes c.args.line.now) _ (tab ∷ text_of value) ∙ ap (λ cells. string_bytes c.args.line.now ++ cells) (sym (cells_more values value)),
    )
