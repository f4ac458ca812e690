-- Groups of their own in one role, and the same groups in another.
use Rattle.std.proofs.Common.{◌≡◌, ℕ, zero, suc, List, [], ◌∷◌, ◌++◌, map, length, replicate, slice_get, Bool, true, false, Option, Some, None, option_map, Result, Ok, Err, refl, sym, ap, ◌∙◌, if◌then◌else◌}
use Rattle.fisca_num.specs.Results.{and_then}
use Rattle.fisca_groups.specs.declared.entity_members.EntityMembers.{EntityMembers}
use Rattle.fisca_groups.specs.declared.home.Home.{Home}
use Rattle.fisca_groups.specs.Homes.{held_by}
use Rattle.fisca_groups.specs.Lookup.{holders_from, if_held, is_in, named_in, size_of}
use Rattle.fisca_groups.specs.Steps.Homes.{is_held}
use Rattle.fisca_model.specs.declared.role_place.RolePlace.{RolePlace}
use Rattle.fisca_model.specs.Tables.{whole_role}
use Rattle.fisca_members.specs.declared.fault.MembersFault.{MembersFault}
use Rattle.fisca_members.specs.declared.person.Person.{Person}
use Rattle.fisca_members.specs.Owned.{in_role, retold, with_role}
use Rattle.fisca_members.specs.Steps.Drafts.{given_or}
use Rattle.fisca_members.specs.Steps.Groups.{own_from, with_own}
use Rattle.fisca_members.specs.Steps.Persons.{room}

abbrev with_homes : List (List ℕ) → List (Option Home) → EntityMembers
with_homes names homes = record { names = names; homes = homes }

abbrev home_of : ℕ → RolePlace → Home
home_of group role = record { group = group; role = role }

-- where a person is held
pub home_some : (role : RolePlace) (homes : List (Option Home)) (p : ℕ) (h : Home) → Some h ≡ if_held (slice_get homes p)
    → Some (with_role role h) ≡ if_held (slice_get (map (in_role role) homes) p)
home_some role [] p h e = cc
home_some role (None ∷ hs) zero h e = cc
home_some role (Some g ∷ hs) zero h e = ap (option_map (with_role role)) e
home_some role (g ∷ hs) (suc p) h e = home_some role hs p h e

pub home_none : (role : RolePlace) (homes : List (Option Home)) (p : ℕ) → None ≡ if_held (slice_get homes p) → None ≡ if_held (slice_get (map (in_role role) homes) p)
home_none role [] p e = refl
home_none role (None ∷ hs) zero e = refl
home_none role (Some g ∷ hs) zero e = cc
home_none role (g ∷ hs) (suc p) e = home_none role hs p e

same_group : (role : RolePlace) (group : ℕ) (home : Option Home) → is_in group (in_role role home) ≡ is_in group home
same_group role group None = refl
same_group role group (Some h) = refl

holders_retold : (role : RolePlace) (group p : ℕ) (homes : List (Option Home)) → holders_from group p homes ≡ holders_from group p (map (in_role role) homes)
holders_retold role group p [] = refl
holders_retold role group p (h ∷ hs) =
    ap (λ b. if b then p ∷ holders_from group (suc p) hs else holders_from group (suc p) hs) (sym (same_group role group h))
    ∙ ap (λ rest. if is_in group (in_role role h) then p ∷ rest else rest) (holders_retold role group (suc p) hs)

-- who is held
pub holders_in : (role : RolePlace) (group : ℕ) (homes : List (Option Home)) (persons : List ℕ) → persons ≡ holders_from group 0 homes
    → persons ≡ holders_from group 0 (map (in_role role) homes)
holders_in role group homes persons e = e ∙ holders_retold role group 0 homes

same_held : (role : RolePlace) (homes : List (Option Home)) (p : ℕ) → is_held (map (in_role role) homes) p ≡ is_held homes p
same_held role [] p = refl
same_held role (None ∷ hs) zero = refl
same_held role (Some h ∷ hs) zero = refl
same_held role (h ∷ hs) (suc p) = same_held role hs p

held_retold : (first role : RolePlace) (group : ℕ) (homes : List (Option Home)) (p : ℕ)
    → held_by (map (in_role role) homes) p (home_of group role) ≡ map (in_role role) (held_by homes p (home_of group first))
held_retold first role group [] p = refl
held_retold first role group (h ∷ hs) zero = refl
held_retold first role group (h ∷ hs) (suc p) = ap (λ xs. in_role role h ∷ xs) (held_retold first role group hs p)

none_retold : (role : RolePlace) (n : ℕ) → map (in_role role) (replicate n None) ≡ replicate n None
none_retold role zero = refl
none_retold role (suc n) = ap (λ hs. None ∷ hs) (none_retold role n)

abbrev then_retold : RolePlace → Result EntityMembers MembersFault → Result EntityMembers MembersFault
then_retold role r = and_then r (λ k. Ok (retold role k))

one_retold : (first role : RolePlace) (k : EntityMembers) (p : ℕ) (person : Person) → with_own role (retold role k) p person ≡ then_retold role (with_own first k p person)
one_retold first role k p person = by (room person.line (length k.names))
  where
    by : (r : Result (Unit {0}) MembersFault)
        → and_then r (λ u. Ok (with_homes (k.names ++ person.name ∷ []) (held_by (map (in_role role) k.homes) p (home_of (length k.names) role))))
        ≡ then_retold role (and_then r (λ u. Ok (with_homes (k.names ++ person.name ∷ []) (held_by k.homes p (home_of (length k.names) first)))))
    by (Ok u) = ap (λ hs. Ok (with_homes (k.names ++ person.name ∷ []) hs)) (held_retold first role (length k.names) k.homes p)
    by (Err f) = refl

-- groups of their own in one role are those in another, retold
from_retold : (first role : RolePlace) (k : EntityMembers) (p : ℕ) (ps : List Person) → own_from role (retold role k) p ps ≡ then_retold role (own_from first k p ps)
from_retold first role k p [] = refl
from_retold first role k p (person ∷ ps) =
    ap (λ b. and_then (if b then Ok (retold role k) else with_own role (retold role k) p person) (λ j. own_from role j (suc p) ps)) (same_held role k.homes p)
    ∙ ap (λ r. and_then (if is_held k.homes p then Ok (retold role k) else r) (λ j. own_from role j (suc p) ps)) (one_retold first role k p person)
    ∙ by (is_held k.homes p) (with_own first k p person) (λ j. from_retold first role j (suc p) ps)
  where
    by : (b : Bool) (r : Result EntityMembers MembersFault)
        → ((j : EntityMembers) → own_from role (retold role j) (suc p) ps ≡ then_retold role (own_from first j (suc p) ps))
        → and_then (if b then Ok (retold role k) else then_retold role r) (λ j. own_from role j (suc p) ps)
        ≡ then_retold role (and_then (if b then Ok k else r) (λ j. own_from first j (suc p) ps))
    by true r more = more k
    by false (Ok j) more = more j
    by false (Err f) more = refl

-- where no group is given
pub own_retold : (role : RolePlace) (ps : List Person) (owners : EntityMembers) → own_from (whole_role 0) (given_or ps None) 0 ps ≡ Ok owners
    → own_from role (given_or ps None) 0 ps ≡ Ok (retold role owners)
own_retold role ps owners h =
    ap (λ hs. own_from role (with_homes [] hs) 0 ps) (sym (none_retold role (length ps)))
    ∙ from_retold (whole_role 0) role (given_or ps None) 0 ps ∙ ap (then_retold role) h

-- what the names of an entity tell
pub count_some : (k : Option EntityMembers) (names : List (List ℕ)) → Some names ≡ option_map (λ (j : EntityMembers). j.names) k → length names ≡ size_of k
count_some None names h = cc
count_some (Some k) names h = cc

pub count_none : (k : Option EntityMembers) → None ≡ option_map (λ (j : EntityMembers). j.names) k → 0 ≡ size_of k
count_none None h = refl
count_none (Some k) h = cc

pub name_some : (k : Option EntityMembers) (place : ℕ) (names : List (List ℕ)) → Some names ≡ option_map (λ (j : EntityMembers). j.names) k
    → slice_get names place ≡ named_in place k
name_some None place names h = cc
name_some (Some k) place names h = cc

pub name_none : (k : Option EntityMembers) (place : ℕ) → None ≡ option_map (λ (j : EntityMembers). j.names) k → None ≡ named_in place k
name_none None place h = refl
name_none (Some k) place h = cc
