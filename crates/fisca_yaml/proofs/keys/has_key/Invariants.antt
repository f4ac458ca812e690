use Rattle.std.proofs.Common.{◌≡◌, take, false}
use Rattle.std.specs.List.{list_any}
use Rattle.std.specs.Str.{bytes_eq}
use Rattle.fisca_yaml.specs.Node.{keys}
use Rattle.fisca_yaml.specs.Views.{entries_view}
use Rattle.fisca_yaml.proofs.keys.has_key.Given as goal

abbrev pub invariant-loop-entry : goal.invariant-loop-entry
invariant-loop-entry l = list_any (bytes_eq l.key) (take l.entry-index (keys (entries_view l.entries))) ≡ false
