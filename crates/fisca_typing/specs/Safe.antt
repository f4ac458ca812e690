-- Dialogues that are never stuck.
use Rattle.std.specs.Prelude.{◌≡◌, length, nat_lt, Bool, true, false, Some}
use Rattle.fisca_model.specs.declared.value_type.ValueType.{ValueType}
use Rattle.fisca_model.specs.declared.value_type.ValueType.TheVariants as vt
use Rattle.fisca_model.specs.Tables.{Tables, members_at}
use Rattle.fisca_model.specs.Values.{Value, number, bool, member}
use Rattle.fisca_key_semantics.specs.Dialogues.{Dialogue, gives, fails, stuck, asks}
use Rattle.fisca_model.specs.Tables.{variable_type}

-- A value of a type; where a number is meant there may be a bool, which counts as 0 or 1. A member of an Enum is one that it has.
abbrev pub is_of : Tables → ValueType → Value → Bool
is_of c vt.Number (number n) = true
is_of c vt.Number (bool b) = true
is_of c vt.Bool (bool b) = true
is_of c (vt.Enum e) (member i) = nat_lt i (length (members_at c e))
is_of _ _ _ = false

-- As long as each question, which is for a variable that there is, is answered by a value of its type, the dialogue ends with a value
-- of this type or with a fault.
abbrev pub IsSafe : Tables → ValueType → Dialogue → Type 0
IsSafe c t (gives v) = is_of c t v ≡ true
IsSafe c t (fails e) = Unit {0}
IsSafe c t stuck = ⊥
IsSafe c t (asks k f) =
    (s : ValueType) × (variable_type c k.variable ≡ Some s) × ((v : Value) → is_of c s v ≡ true → IsSafe c t (f v))
