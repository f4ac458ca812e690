-- What a table of names leads to, when one more name is noted.
use Rattle.std.proofs.Common.{◌≡◌, ℕ, suc, ◌+◌, List, ◌∷◌, Bool, true, false, cond, Option, Some, None, option_map, refl, ap, if◌then◌else◌, add-one}
use Rattle.fisca_model.specs.declared.role_place.RolePlace.{RolePlace}
use Rattle.fisca_model.specs.Tables.{Role, otherwise, place_in, role_from, whole_role, subrole_of}

-- before it was noted, its place came first of what was left
pub noted : {V : Type 0} (new old : Option V) (b : Bool) (place : V) (rest : Option V)
    → new ≡ otherwise old (if b then Some place else None) → otherwise new rest ≡ otherwise old (cond b (Some place) rest)
noted new (Some v) b place rest h = ap (λ o. otherwise o rest) h
noted new None true place rest h = ap (λ o. otherwise o rest) h
noted new None false place rest h = ap (λ o. otherwise o rest) h

-- a role was noted, and then its subroles
pub noted_role : (is : List ℕ → Bool) (at : ℕ) (r : Role) (rs : List Role) (new old : Option RolePlace)
    → new ≡ otherwise (otherwise old (if is r.key then Some (whole_role at) else None)) (option_map (subrole_of at) (place_in is r.subroles))
    → otherwise new (role_from is (at + 1) rs) ≡ otherwise old (role_from is at (r ∷ rs))
noted_role is at r rs new old h = rw (h, add-one) (by (whole_role at) old (is r.key) (option_map (subrole_of at) (place_in is r.subroles)) (role_from is (suc at) rs))
  where
    by : {X : Type 0} (v : X) (o : Option X) (b : Bool) (s rest : Option X)
        → otherwise (otherwise (otherwise o (if b then Some v else None)) s) rest ≡ otherwise o (if b then Some v else otherwise s rest)
    by v (Some u) b s rest = refl
    by v None true s rest = refl
    by v None false s rest = refl
