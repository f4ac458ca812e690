-- The persons of a group, one after another.
use Rattle.std.specs.Prelude.{ℕ, List, [], ◌∷◌, drop, Option, Some, None}
use Rattle.fisca_model.specs.declared.role_place.RolePlace.{RolePlace}
use Rattle.fisca_model.specs.Groups.{Groups, with_role}

-- those of the role from a place among all persons of the group on
abbrev pub persons_from : Groups → ℕ → ℕ → Option RolePlace → ℕ → List ℕ
persons_from g entity group role next = with_role g entity role (drop next (g.persons entity group))

abbrev pub first : List ℕ → Option ℕ
first [] = None
first (p ∷ ps) = Some p
