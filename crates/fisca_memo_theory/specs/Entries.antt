-- What is remembered of each key.
use Rattle.std.specs.Prelude.{◌≡◌, ℕ, Option, Some, if◌then◌else◌}
use Rattle.fisca_model.specs.Values.{Value, Key}
use Rattle.fisca_key_semantics.specs.Keys.{same_key}

-- a value, its height, and the wheels that it reads, as the bits of a number
pub record Entry : Type 0 where
  pub value : Value
  pub height : ℕ
  pub reads : ℕ

abbrev pub Entries : Type 0
Entries = Key → Option Entry

-- one more entry, in place of what was remembered of the key
abbrev pub with_entry : Entries → Key → Entry → Entries
with_entry entries key e k = if same_key key k then Some e else entries k

abbrev pub Remembered : Entries → Key → Type 0
Remembered entries k = (e : Entry) × (entries k ≡ Some e)
