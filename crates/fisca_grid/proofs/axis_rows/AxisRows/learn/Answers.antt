use Rattle.std.proofs.Common.{◌≡◌, ◌∙◌, ◌++◌, Some, ap, option_map, string_bytes, sym}
use Rattle.fisca_grid.specs.AxesRow.{cells}
use Rattle.fisca_grid.proofs.Rest.{later_values}
use Rattle.fisca_grid.proofs.axis_rows.AxisRows.learn.Goals as goal

pub invariant_of-self-2 : goal.invariant_of-self-2
invariant_of-self-2 c =
    let rows = c.args.self.now in
    let written = c.in_ok-write_values.ensures in
    let values = written.0 in
    let later = later_values rows.axes c.args.position c.leading-leading.result c.count-count.result values c.leading-leading.ensures.count c.count-count.ensures written.1 in
    let cells_alone : string_bytes c.write_values.new.line ≡ cells values = written.2 ∙ ap (λ bytes. bytes ++ cells values) c.clear.ensures.bytes in
    record { inside = rows.inside; remembered = λ known. rw c.requires.here (ap (option_map cells) later ∙ ap Some (sym cells_alone)) }
