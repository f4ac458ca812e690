use Rattle.std.proofs.Common.{◌<◌, map, option_map, string_bytes, sym, subst, List}
use Rattle.fisca_grid.specs.Grid.{axes_in}
use Rattle.fisca_grid.specs.declared.axes.AxisSpec.{AxisSpec}
use Rattle.fisca_commands.proofs.Named.{inside}
use Rattle.fisca_commands.proofs.axes.limit_rows.Goals as goal

pub new-requires : goal.new-requires
new-requires c =
    λ filter is.
    subst (λ (axes : List (List AxisSpec)). filter.axis < axes_in axes) (sym c.in_ok-axes.ensures.ok.0)
    (inside (map (λ word. string_bytes word) c.args.words.now) c.args.specs.now (option_map (λ text. text.now) c.args.keep) c.in_ok-keep.keep filter c.requires c.in_ok-keep.ensures is)
