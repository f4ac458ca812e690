-- The entries that are added to those that are remembered, and those that read no wheel, counted.
use Rattle.std.specs.Prelude.{◌≡◌, ◌⊎◌, ◌↔◌, ℕ, List, [], ◌∷◌, length, Some}
use Rattle.fisca_model.specs.Values.{Key}
use Rattle.fisca_key_semantics.specs.Keys.{In}
use Rattle.fisca_memo_theory.specs.Entries.{Entry, Entries, Remembered}

-- no key stands twice
abbrev pub AreDifferent : List Key → Type 0
AreDifferent [] = Unit {0}
AreDifferent (k ∷ ks) = (In k ks → ⊥) × AreDifferent ks

-- so many keys are remembered that were not
pub record AreAdded (old new : Entries) (count : ℕ) : Type 0 where
  pub keys : List Key
  pub different : AreDifferent keys
  pub fresh : (k : Key) → In k keys → Remembered old k → ⊥
  pub there : (k : Key) → In k keys → Remembered new k
  pub only : (k : Key) → Remembered new k → Remembered old k ⊎ In k keys
  pub kept : (k : Key) → Remembered old k → Remembered new k
  pub counted : length keys ≡ count

-- something is remembered of the key that reads no wheel
abbrev pub IsFreeKey : Entries → Key → Type 0
IsFreeKey entries k = (e : Entry) × (entries k ≡ Some e) × (e.reads ≡ 0)

-- there are so many of these keys
pub record IsFree (entries : Entries) (count : ℕ) : Type 0 where
  pub keys : List Key
  pub different : AreDifferent keys
  pub exact : (k : Key) → In k keys ↔ IsFreeKey entries k
  pub counted : length keys ≡ count
