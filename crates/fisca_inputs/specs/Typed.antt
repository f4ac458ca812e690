-- Values of the types of their variables.
use Rattle.std.specs.Prelude.{◌≡◌, ⊤, ℕ, List, [], ◌∷◌, length, nat_lt, slice_get, Bool, true, false, Option, Some, None}
use Rattle.fisca_model.specs.Values as meaning
use Rattle.fisca_model.specs.Tables.{variable_type}
use Rattle.fisca_model.specs.Tables.{Tables, members_at}
use Rattle.fisca_model.specs.declared.value_type.ValueType.{ValueType}
use Rattle.fisca_model.specs.declared.value_type.ValueType.TheVariants as vt
use Rattle.fisca_inputs.specs.Entries.{Entries}
use Rattle.fisca_inputs.specs.Rules.{Rule}
use Rattle.fisca_model.specs.Seen.{value_seen}
use Rattle.fisca_inputs.specs.declared.given.Given.{Given}
use Rattle.fisca_model.specs.declared.value.Value.{Value}

-- A value of just this type: for a number no bool serves. A member of an Enum is one that it has.
abbrev pub is_just : Tables → ValueType → meaning.Value → Bool
is_just c vt.Number (meaning.number n) = true
is_just c vt.Bool (meaning.bool b) = true
is_just c (vt.Enum e) (meaning.member i) = nat_lt i (length (members_at c e))
is_just _ _ _ = false

-- days and texts have no values
abbrev pub is_typed : Tables → Option ValueType → meaning.Value → Bool
is_typed c None v = false
is_typed c (Some t) v = is_just c t v

-- of the type of the variable at this place
abbrev pub IsValueOf : Tables → ℕ → meaning.Value → Type 0
IsValueOf c x v = is_typed c (variable_type c x) v ≡ true

abbrev pub GivensTyped : Tables → List Given → Type 0
GivensTyped c [] = ⊤
GivensTyped c (g ∷ gs) = IsValueOf c g.variable (value_seen g.value) × GivensTyped c gs

abbrev pub EntriesTyped : Tables → Entries → Type 0
EntriesTyped c [] = ⊤
EntriesTyped c (e ∷ es) = IsValueOf c e.0.variable (value_seen e.1) × EntriesTyped c es

-- the defaults beside other members' inputs
abbrev pub DefaultsTyped : Tables → List Rule → Type 0
DefaultsTyped c rules = (x : ℕ) (r : Rule) (v : Value) → slice_get rules x ≡ Some r → r.default ≡ Some v → IsValueOf c x (value_seen v)
