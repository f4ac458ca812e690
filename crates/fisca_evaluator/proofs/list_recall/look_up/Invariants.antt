use Rattle.std.proofs.Common.{◌≡◌, drop}
use Rattle.std.specs.Map.{lookup}
use Rattle.fisca_inputs.specs.Entries.{same_key}
use Rattle.fisca_evaluator.proofs.list_recall.look_up.Given as goal

-- the key is in no pair before this one
abbrev pub invariant-loop-pair : goal.invariant-loop-pair
invariant-loop-pair l = lookup (same_key l.key) (drop l.pair-index l.pairs) ≡ lookup (same_key l.key) l.pairs
