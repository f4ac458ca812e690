-- The steps of code behind `Persons`:
-- The persons of a group, one after another.
use Rattle.std.specs.Prelude.{ℕ, Bool, true, Option, Some, None}
use Rattle.fisca_model.specs.declared.role_place.RolePlace.{RolePlace}
use Rattle.fisca_model.specs.Groups.{Groups, has}

abbrev pub is_meant : Groups → ℕ → Option RolePlace → ℕ → Bool
is_meant g entity None p = true
is_meant g entity (Some r) p = has r (g.role_of entity p)
