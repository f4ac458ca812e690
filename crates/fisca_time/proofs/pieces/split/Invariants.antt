use Rattle.std.proofs.Common.{◌≡◌, ◌≢◌, ◌<◌, get_or, ℕ}
use Rattle.fisca_time.proofs.pieces.split.Given as goal

-- no byte before this one is the separator
abbrev pub invariant-loop-at : goal.invariant-loop-at
invariant-loop-at l = (k : ℕ) → k < l.at → get_or l.text k 0 ≢ l.separator
