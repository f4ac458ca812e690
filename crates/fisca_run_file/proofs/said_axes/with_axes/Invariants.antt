use Rattle.std.proofs.Common.{◌≡◌, ◌+◌, drop, length}
use Rattle.fisca_yaml.specs.Views.{items_view}
use Rattle.fisca_run_file.specs.Steps.SaidAxes.{with_axes}
use Rattle.fisca_run_file.specs.Views.{said_list}
use Rattle.fisca_run_file.proofs.said_axes.with_axes.Given as goal

abbrev pub invariant-loop-item : goal.invariant-loop-item
invariant-loop-item l =
    record {
      said : with_axes l.key (said_list l.fn.axes.items) (items_view l.items) ≡ with_axes l.key (said_list l.more.items) (items_view (drop l.item-index l.items));
      many : length l.more.items ≡ length l.fn.axes.items + l.item-index;
    }
