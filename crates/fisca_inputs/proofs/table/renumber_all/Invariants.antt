use Rattle.std.proofs.Common.{◌≡◌, ◌≤◌, ◌<◌}
use Rattle.std.specs.Map.{keys_of}
use Rattle.fisca_inputs.specs.Places.{number_of, numbered_from}
use Rattle.fisca_model.specs.declared.key.Key.{Key}
use Rattle.fisca_inputs.proofs.table.renumber_all.Given as goal

-- keys of the entries before this one have their numbers, and those behind have some
abbrev pub invariant-loop-place : goal.invariant-loop-place
invariant-loop-place l = record {
  done : (k : Key) → numbered_from 1 (keys_of l.entries) k ≤ l.place → number_of l.pages.entries k ≡ numbered_from 1 (keys_of l.entries) k;
  noted : (k : Key) → 0 < numbered_from 1 (keys_of l.entries) k → 0 < number_of l.pages.entries k;
}
