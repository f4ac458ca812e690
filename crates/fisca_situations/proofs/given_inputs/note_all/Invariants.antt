use Rattle.std.proofs.Common.{◌≡◌, ◌||◌, drop}
use Rattle.indexmap.specs.IndexSet.{contains}
use Rattle.fisca_inputs.specs.Entries.{same_key}
use Rattle.fisca_situations.specs.GivenKeys.{is_key_of}
use Rattle.fisca_model.specs.declared.key.Key.{Key}
use Rattle.fisca_situations.proofs.given_inputs.note_all.Given as goal

-- the keys so far, and those of the inputs that are left
abbrev pub invariant-loop-given : goal.invariant-loop-given
invariant-loop-given l = (k : Key) → (contains same_key l.keys k || is_key_of (drop l.given-index l.items) k) ≡ is_key_of l.items k
