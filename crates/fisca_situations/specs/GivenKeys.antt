-- Keys of inputs while they are read.
use Rattle.std.specs.Prelude.{◌≡◌, ◌&&◌, nat_lt, length, List, Bool}
use Rattle.std.specs.List.{list_any}
use Rattle.fisca_inputs.specs.Entries.{same_key}
use Rattle.fisca_inputs.specs.Inputs.{key_given}
use Rattle.fisca_inputs.specs.declared.given.Given.{Given}
use Rattle.fisca_model.specs.declared.key.Key.{Key}

-- one of these inputs is of this key
abbrev pub is_key_of : List Given → Key → Bool
is_key_of gs k = list_any (λ g. same_key (key_given g) k) gs

-- a table has the keys of these inputs, where there are more than eight; else it has none
abbrev pub HasKeys : (Key → Bool) → List Given → Type 0
HasKeys has gs = (k : Key) → has k ≡ (nat_lt 8 (length gs) && is_key_of gs k)
