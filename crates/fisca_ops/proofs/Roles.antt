-- Persons with a role, one after another.
use Rattle.std.proofs.Common.{◌≡◌, ℕ, ◌+◌, List, ◌∷◌, ◌∙◌, drop, ap, refl}
use Rattle.std.proofs.lemmas.Bool.{true≢false}
use Rattle.std.specs.Prelude.{slice_get, Option, Some, None, true, false}
use Rattle.fisca_model.specs.Groups.{Groups, with_role}
use Rattle.fisca_model.specs.declared.role_place.RolePlace.{RolePlace}
use Rattle.fisca_ops.specs.Steps.Persons.{is_meant}
use Rattle.fisca_ops.proofs.Next.{next_item}

kept : (g : Groups) (entity : ℕ) (role : Option RolePlace) (p : ℕ) (ps : List ℕ) → is_meant g entity role p ≡ true → with_role g entity role (p ∷ ps) ≡ p ∷ with_role g entity role ps
kept g entity None p ps h = refl
kept g entity (Some r) p ps h = rw h refl

left_out : (g : Groups) (entity : ℕ) (role : Option RolePlace) (p : ℕ) (ps : List ℕ) → is_meant g entity role p ≡ false → with_role g entity role (p ∷ ps) ≡ with_role g entity role ps
left_out g entity None p ps h = absurd (true≢false h)
left_out g entity (Some r) p ps h = rw h refl

-- the person at a place has the role
pub taken : (g : Groups) (entity : ℕ) (role : Option RolePlace) (ps : List ℕ) (i p : ℕ) → slice_get ps i ≡ Some p → is_meant g entity role p ≡ true
    → with_role g entity role (drop i ps) ≡ p ∷ with_role g entity role (drop (i + 1) ps)
taken g entity role ps i p at h = ap (with_role g entity role) (next_item ps i p at) ∙ kept g entity role p (drop (i + 1) ps) h

-- it has not
pub passed : (g : Groups) (entity : ℕ) (role : Option RolePlace) (ps : List ℕ) (i p : ℕ) → slice_get ps i ≡ Some p → is_meant g entity role p ≡ false
    → with_role g entity role (drop i ps) ≡ with_role g entity role (drop (i + 1) ps)
passed g entity role ps i p at h = ap (with_role g entity role) (next_item ps i p at) ∙ left_out g entity role p (drop (i + 1) ps) h
