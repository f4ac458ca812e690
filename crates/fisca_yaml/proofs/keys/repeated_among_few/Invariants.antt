use Rattle.std.proofs.Common.{◌≡◌, take, false}
use Rattle.fisca_yaml.specs.Node.{keys, repeats}
use Rattle.fisca_yaml.specs.Views.{entries_view}
use Rattle.fisca_yaml.proofs.keys.repeated_among_few.Given as goal

abbrev pub invariant-loop-at : goal.invariant-loop-at
invariant-loop-at l = repeats (take l.at (keys (entries_view l.entries))) ≡ false
