use Rattle.std.proofs.Common.{◌≡◌, drop}
use Rattle.fisca_yaml.specs.Views.{entries_view}
use Rattle.fisca_run_file.specs.Steps.SaidAxes.{axis_keys_checked}
use Rattle.fisca_run_file.proofs.said_axis.check_axis_keys.Given as goal

abbrev pub invariant-loop-entry : goal.invariant-loop-entry
invariant-loop-entry l = axis_keys_checked (entries_view l.entries) ≡ axis_keys_checked (entries_view (drop l.entry-index l.entries))
