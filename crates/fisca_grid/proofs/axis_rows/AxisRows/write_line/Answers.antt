use Rattle.std.proofs.Common.{◌≡◌, ◌-◌, ◌∙◌, ◌++◌, ◌∷◌, [], Some, take, ap, ap₂, sym, string_bytes, option_and_then}
use Rattle.std.specs.Fmt.{decimal}
use Rattle.fisca_grid.specs.AxesRow.{cells, line_feed, rest_of, values_of}
use Rattle.fisca_grid.specs.Grid.{axes_at, leading_in}
use Rattle.fisca_grid.proofs.Rest.{rest_values, where_pushed, whole_line, whole_values}
use Rattle.fisca_grid.proofs.axis_rows.AxisRows.write_line.Goals as goal

pub returns-clause-line : goal.returns-clause-line
unfolding lib.Utf8.encode
returns-clause-line c =
    let position = c.args.position in
    let rows = c.learn.new.self in
    let axes = c.args.self.now.axes in
    let here = c.in_ok-learn.ensures.here ∙ c.requires.here in
    let known : rest_of axes position ≡ Some (string_bytes rows.rest) =
    ap₂ (λ axes here. option_and_then (rest_of axes) here) (sym c.in_ok-learn.ensures.axes) (sym here) ∙ rows.remembered c.in_ok-learn.ensures.known in
    let rest = rest_values axes position (string_bytes rows.rest) known in
    let written = c.in_ok-write_values.ensures in
    let first = written.0 in
    let number : string_bytes c.push_str.new.self ≡ string_bytes c.args.line.now ++ decimal position = c.in_ok-push_str.ensures.bytes ∙ ap (λ text. string_bytes c.args.line.now ++ text) c.format.ensures.text in
    let start : string_bytes c.write_values.new.line ≡ (string_bytes c.args.line.now ++ decimal position) ++ cells first = written.2 ∙ ap (λ bytes. bytes ++ cells first) number in
    let first_values : values_of (take (c.leading.result - 0) (axes_at axes position)) ≡ Some first = ap (λ axes. values_of (take (c.leading.result - 0) (axes_at axes position))) (sym c.in_ok-learn.ensures.axes) ∙ written.1 in
    let all : string_bytes c.write_rest.new.line ≡ ((string_bytes c.args.line.now ++ decimal position) ++ cells first) ++ string_bytes rows.rest = c.in_ok-write_rest.ensures ∙ ap (λ bytes. bytes ++ string_bytes rows.rest) start in
    where_pushed c.push.result _ _ _ c.push.ensures.bytes
    (λ is. (first ++ rest.0, whole_values axes position c.leading.result first rest.0 (c.leading.ensures.count ∙ ap leading_in c.in_ok-learn.ensures.axes) first_values rest.1, is ∙ ap (λ bytes. bytes ++ line_feed ∷ []) all ∙ whole_line (string_bytes c.args.line.now) (decimal position) (string_bytes rows.rest) first rest.0 rest.2))
