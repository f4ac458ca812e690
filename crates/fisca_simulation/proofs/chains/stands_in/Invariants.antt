use Rattle.std.proofs.Common.{◌≡◌, drop, map}
use Rattle.fisca_key_semantics.specs.Keys.{has}
use Rattle.fisca_model.specs.Seen.{key_seen}
use Rattle.fisca_simulation.proofs.chains.stands_in.Given as goal

-- the key is none of those before this one
abbrev pub invariant-loop-one : goal.invariant-loop-one
invariant-loop-one l = has (map key_seen (drop l.one-index l.keys)) (key_seen l.key) ≡ has (map key_seen l.keys) (key_seen l.key)
