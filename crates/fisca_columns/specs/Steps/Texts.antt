-- The steps of code behind `Texts`:
-- The texts of keys and values, as they are printed.
use Rattle.std.specs.Prelude.{ℕ, List, [], Option, Some, None, slice_get}
use Rattle.std.specs.Option.{unwrap_or}
use Rattle.fisca_groups.specs.Lookup.{name_at}
use Rattle.fisca_groups.specs.declared.entity_members.EntityMembers.{EntityMembers}
use Rattle.fisca_model.specs.Tables.{Tables, Variable, members_at}
use Rattle.fisca_model.specs.declared.value_type.ValueType.{ValueType}
use Rattle.fisca_model.specs.declared.value_type.ValueType.TheVariants as type

-- nothing where there is no such variable
abbrev pub name_of : Option Variable → List ℕ
name_of None = []
name_of (Some x) = x.name

-- the name of a member of the variable's entity, and nothing where there is none
abbrev pub member_of : List EntityMembers → ℕ → Option Variable → List ℕ
member_of ms member None = []
member_of ms member (Some x) = unwrap_or (name_at ms x.entity member) []

-- the name of a member of an Enum, and nothing where there is none
abbrev pub choice_of : Tables → Option ValueType → ℕ → List ℕ
choice_of c None i = []
choice_of c (Some type.Number) i = []
choice_of c (Some type.Bool) i = []
choice_of c (Some (type.Enum e)) i = unwrap_or (slice_get (members_at c e) i) []

abbrev pub choice_at : Tables → Option Variable → ℕ → List ℕ
choice_at c None i = []
choice_at c (Some x) i = choice_of c x.value_type i
