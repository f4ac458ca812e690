use Rattle.std.proofs.Common.{◌≡◌, drop}
use Rattle.fisca_yaml.specs.Views.{items_view}
use Rattle.fisca_run_file.specs.Steps.SaidAxes.{with_groups}
use Rattle.fisca_run_file.specs.Views.{said_axes}
use Rattle.fisca_run_file.proofs.said_axes.with_groups.Given as goal

abbrev pub invariant-loop-item : goal.invariant-loop-item
invariant-loop-item l = with_groups l.key (said_axes l.fn.said) (items_view l.items) ≡ with_groups l.key (said_axes l.more) (items_view (drop l.item-index l.items))
