use Rattle.std.proofs.Common.{◌≡◌, drop}
use Rattle.fisca_yaml.specs.Views.{items_view}
use Rattle.fisca_run_file.specs.Steps.Neutral.{with_names}
use Rattle.fisca_run_file.proofs.neutral.with_names.Given as goal

abbrev pub invariant-loop-item : goal.invariant-loop-item
invariant-loop-item l = with_names l.tables l.fn.marks.items (items_view l.items) ≡ with_names l.tables l.more.items (items_view (drop l.item-index l.items))
