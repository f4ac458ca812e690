-- How groups hold persons, and where a value is worked out.
use Rattle.std.specs.Prelude.{ℕ, ◌==◌, ◌&&◌, List, filter, Bool, true, false, Option, Some, None}
use Rattle.fisca_time.specs.Period.{Span}
use Rattle.fisca_model.specs.declared.role_place.RolePlace.{RolePlace}

-- how persons are grouped: the group of an entity that a person belongs to, the role there, and the persons of a group in order
pub record Groups : Type 0 where
  pub group_of : ℕ → ℕ → ℕ
  pub role_of : ℕ → ℕ → RolePlace
  pub persons : ℕ → ℕ → List ℕ

-- where a formula is worked out: a member of an entity, a person of the group where values of persons are taken, and a period
pub record Point : Type 0 where
  pub entity : ℕ
  pub member : ℕ
  pub person : Option ℕ
  pub period : Span

abbrev pub is_part : Option ℕ → Option ℕ → Bool
is_part None j = true
is_part (Some i) None = false
is_part (Some i) (Some j) = i == j

-- who has a subrole has its role
abbrev pub has : RolePlace → RolePlace → Bool
has wanted r = (wanted.role == r.role) && is_part wanted.subrole r.subrole

abbrev pub with_role : Groups → ℕ → Option RolePlace → List ℕ → List ℕ
with_role g entity None ps = ps
with_role g entity (Some r) ps = filter (λ p. has r (g.role_of entity p)) ps

-- the persons of the group, of the role alone if there is one
abbrev pub persons_at : Groups → Point → Option RolePlace → List ℕ
persons_at g p r = with_role g p.entity r (g.persons p.entity p.member)
