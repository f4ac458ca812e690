use Rattle.std.proofs.Common.{◌≡◌, drop}
use Rattle.fisca_yaml.specs.Views.{entries_view}
use Rattle.fisca_test_file.specs.Steps.Tests.{keys_checked}
use Rattle.fisca_test_file.proofs.keys.check_keys.Given as goal

abbrev pub invariant-loop-entry : goal.invariant-loop-entry
invariant-loop-entry l = keys_checked (entries_view l.entries) ≡ keys_checked (entries_view (drop l.entry-index l.entries))
