use Rattle.std.proofs.Common.{◌<◌, ◌≤◌, ◌∙◌, length, take_all, arith, add-one, sym, ap, Some}
use Rattle.fisca_grid.specs.Grid.{axes_at}
use Rattle.fisca_grid.specs.AxesRow.{values_of}
use Rattle.fisca_grid.proofs.Groups.{length-axes_at}
use Rattle.fisca_grid.proofs.Values.{values_more}
use Rattle.fisca_run_file.proofs.positions.put_steps.Goals as goal

pub loop-axis-preserved : goal.loop-axis-preserved
loop-axis-preserved c =
    let axes = axes_at c.args.axes.now c.args.position in
    let i = c.loop-axis.axis in
    let inside : i < length axes = omega (arith, c.count-count.ensures, length-axes_at c.args.axes.now c.args.position) in
    rw add-one (values_more axes i c.step.result c.loop-axis.steps.items inside c.step.ensures c.loop-axis.invariant) ∙ ap Some (sym c.in_ok-push_number.ensures)

pub returns : goal.returns
returns c =
    let axes = axes_at c.args.axes.now c.args.position in
    let over : length axes ≤ c.loop-axis.axis = omega (arith, c.count-count.ensures, length-axes_at c.args.axes.now c.args.position) in
    ap values_of (sym (take_all c.loop-axis.axis axes over)) ∙ c.loop-axis.invariant
