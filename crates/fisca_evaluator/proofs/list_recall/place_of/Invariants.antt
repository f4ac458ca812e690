use Rattle.std.proofs.Common.{◌≡◌, drop}
use Rattle.fisca_evaluator.specs.Found.{place_from}
use Rattle.fisca_evaluator.proofs.list_recall.place_of.Given as goal

-- the key is in no pair before this one
abbrev pub invariant-loop-place : goal.invariant-loop-place
invariant-loop-place l = place_from l.place l.key (drop l.place l.pairs) ≡ place_from 0 l.key l.pairs
