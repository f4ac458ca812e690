use Rattle.std.proofs.Common.{◌≡◌, ◌<◌, ◌≤◌, ◌+◌, ◌++◌, ◌∷◌, [], ◌∙◌, suc, length, take, take_all, string_bytes, arith, refl, sym, ap}
use Rattle.fisca_grid.specs.Grid.{axes_at}
use Rattle.fisca_grid.specs.AxesRow.{values_of}
use Rattle.fisca_grid.proofs.Formed.{formed_cells_more}
use Rattle.fisca_grid.proofs.Groups.{length-axes_at}
use Rattle.fisca_grid.proofs.Values.{values_more}
use Rattle.fisca_grid.proofs.formed_rows.write_values.Goals as goal

pub loop-axis-preserved : goal.loop-axis-preserved
loop-axis-preserved c =
    let i = c.loop-axis.axis in
    let axes = axes_at c.args.axes.now c.args.position in
    let values = c.loop-axis.invariant.0 in
    let value = c.step.result in
    let inside : i < length axes = omega (arith, length-axes_at c.args.axes.now c.args.position, c.count-axis-end.ensures, c.loop-axis-test.true) in
    let more : suc i ≡ i + 1 = omega arith in (
      values ++ value ∷ [],
      ap (λ n. values_of (take n axes)) (sym more) ∙ values_more axes i value values inside c.step.ensures c.loop-axis.invariant.1,
      formed_cells_more c.args.form.now axes i (i + 1) values value (string_bytes c.args.line.now) (string_bytes c.loop-axis.line) (string_bytes c.write_number_cell.new.line) inside c.loop-axis.invariant.1 refl
          c.loop-axis.invariant.2 c.in_ok-write_number_cell.ensures,
    )

pub returns : goal.returns
returns c =
    let axes = axes_at c.args.axes.now c.args.position in
    let over : length axes ≤ c.loop-axis.axis = omega (arith, length-axes_at c.args.axes.now c.args.position, c.count-axis-end.ensures, c.loop-axis-test.false) in
    (c.loop-axis.invariant.0, ap values_of (sym (take_all c.loop-axis.axis axes over)) ∙ c.loop-axis.invariant.1, c.loop-axis.invariant.2)
