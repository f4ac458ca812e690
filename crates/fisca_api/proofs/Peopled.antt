-- Members of situations: persons, groups that hold each of them, and the persons that a group holds.
use Rattle.std.proofs.Common.{◌≡◌, ℕ, suc, ◌+◌, List, [], ◌∷◌, length, Bool, true, false, refl, ap, sym, ◌∙◌, subst, arith, Option, Some, None, filter}
use Rattle.std.specs.Prelude.{⊤, cond, slice_get}
use Rattle.std.proofs.lemmas.Option.{slice_get_within}
use Rattle.fisca_groups.specs.Grouped.{grouped, group_in, persons_of, role_in}
use Rattle.fisca_groups.specs.Lookup.{count_at, holders_from, home_at, home_in, if_held, is_in}
use Rattle.fisca_groups.specs.declared.entity_members.EntityMembers.{EntityMembers}
use Rattle.fisca_groups.specs.declared.home.Home.{Home}
use Rattle.fisca_model.specs.Groups.{Groups, has, with_role}
use Rattle.fisca_model.specs.Tables.{Tables, is_person_at}
use Rattle.fisca_model.specs.declared.role_place.RolePlace.{RolePlace}
use Rattle.fisca_api.proofs.Placed.{IsGroup}
use Rattle.fisca_api.specs.Members.{Follows, HasGroup, IsMember}
use Rattle.fisca_typing.specs.Asks.{person_place}

-- what the members of an input have
pub record IsPeopled (c : Tables) (ms : List EntityMembers) : Type 0 where
  -- all persons stand at one place, and groups say of each where it belongs
  pub persons : (q : ℕ) → is_person_at c q ≡ true → count_at ms q ≡ count_at ms (person_place c)
  pub sized : (e : ℕ) (k : EntityMembers) → slice_get ms e ≡ Some k → is_person_at c e ≡ false → length k.homes ≡ count_at ms (person_place c)
  pub held : (e : ℕ) → IsGroup c e → (p : ℕ) → IsMember ms (person_place c) p → HasGroup ms e p

-- Lists

abbrev pub AllOf : (ℕ → Type 0) → List ℕ → Type 0
AllOf P [] = ⊤
AllOf P (m ∷ ms) = P m × AllOf P ms

pub all_map : (P Q : ℕ → Type 0) (ms : List ℕ) → ((m : ℕ) → P m → Q m) → AllOf P ms → AllOf Q ms
all_map P Q [] f all = tt
all_map P Q (m ∷ ms) f all = (f m all.0, all_map P Q ms f all.1)

cond_all : (P : ℕ → Type 0) (b : Bool) (m : ℕ) (ms : List ℕ) → P m → AllOf P ms → AllOf P (cond b (m ∷ ms) ms)
cond_all P true m ms p all = (p, all)
cond_all P false m ms p all = all

all_filter : (P : ℕ → Type 0) (test : ℕ → Bool) (ms : List ℕ) → AllOf P ms → AllOf P (filter test ms)
all_filter P test [] all = tt
all_filter P test (m ∷ ms) all = cond_all P (test m) m (filter test ms) all.0 (all_filter P test ms all.1)

filter_same : (test other : ℕ → Bool) (ms : List ℕ) → AllOf (λ m. test m ≡ other m) ms → filter test ms ≡ filter other ms
filter_same test other [] all = refl
filter_same test other (m ∷ ms) all = let rest = filter_same test other ms all.1 in λ i. cond (all.0 i) (m ∷ rest i) (rest i)

-- Who is held

-- so many persons before it
abbrev HeldFrom : ℕ → List (Option Home) → ℕ → Type 0
HeldFrom start homes m = (j : ℕ) × (m ≡ start + j) × ((home : Home) × (slice_get homes j ≡ Some (Some home)))

behind : (start : ℕ) (home : Option Home) (homes : List (Option Home)) (m : ℕ) → HeldFrom (suc start) homes m → HeldFrom start (home ∷ homes) m
behind start home homes m (j, is, held) = (suc j, omega (arith, is), held)

held_from : (group start : ℕ) (homes : List (Option Home)) → AllOf (HeldFrom start homes) (holders_from group start homes)
held_from group start [] = tt
held_from group start (None ∷ homes) = all_map (HeldFrom (suc start) homes) (HeldFrom start (None ∷ homes)) _ (behind start None homes) (held_from group (suc start) homes)
held_from group start (Some home ∷ homes) =
    cond_all (HeldFrom start (Some home ∷ homes)) (is_in group (Some home)) start (holders_from group (suc start) homes) (0, omega arith, (home, refl))
    (all_map (HeldFrom (suc start) homes) (HeldFrom start (Some home ∷ homes)) _ (behind start (Some home) homes) (held_from group (suc start) homes))

-- a person that is there, and has a group of this entity
abbrev pub IsHeld : Tables → List EntityMembers → ℕ → ℕ → Type 0
IsHeld c ms e m = IsMember ms (person_place c) m × ((home : Home) × (home_at ms e m ≡ Some home))

module _ (c : Tables) (ms : List EntityMembers) (people : IsPeopled c ms) where
  pub holders : (e group : ℕ) (o : Option EntityMembers) → slice_get ms e ≡ o → is_person_at c e ≡ false → AllOf (IsHeld c ms e) (persons_of group o)
  holders e group None is fits = tt
  holders e group (Some k) is fits = all_map (HeldFrom 0 k.homes) (IsHeld c ms e) (holders_from group 0 k.homes) there (held_from group 0 k.homes)
    where
      there : (m : ℕ) → HeldFrom 0 k.homes m → IsHeld c ms e m
      there m (j, same, (home, held)) =
          let place : m ≡ j = omega (arith, same) in
          let at : slice_get k.homes m ≡ Some (Some home) = ap (slice_get k.homes) place ∙ held in
          let below = slice_get_within k.homes m (Some home) at in
          let size = people.sized e k is fits in
          (omega (arith, below, size), (home, ap (home_in m) is ∙ ap if_held at))

  pub persons_held : (g : Groups) → Follows ms g → (e group : ℕ) → is_person_at c e ≡ false → AllOf (IsHeld c ms e) (g.persons e group)
  persons_held g follows e group fits = subst (AllOf (IsHeld c ms e)) (sym (follows.persons e group)) (holders e group (slice_get ms e) refl fits)

  module _ (g h : Groups) (one : Follows ms g) (two : Follows ms h) where
    role_same : (e : ℕ) (r : RolePlace) (m : ℕ) → IsHeld c ms e m → has r (g.role_of e m) ≡ has r (h.role_of e m)
    role_same e r m is = ap (has r) (one.role e m is.1.0 is.1.1 ∙ sym (two.role e m is.1.0 is.1.1))

    pub with_role_same : (e : ℕ) (r : Option RolePlace) (ps : List ℕ) → AllOf (IsHeld c ms e) ps → with_role g e r ps ≡ with_role h e r ps
    with_role_same e None ps all = refl
    with_role_same e (Some r) ps all = filter_same _ _ ps (all_map (IsHeld c ms e) (λ m. has r (g.role_of e m) ≡ has r (h.role_of e m)) ps (role_same e r) all)

    pub with_role_held : (e : ℕ) (r : Option RolePlace) (ps : List ℕ) → AllOf (IsHeld c ms e) ps → AllOf (IsHeld c ms e) (with_role g e r ps)
    with_role_held e None ps all = all
    with_role_held e (Some r) ps all = all_filter (IsHeld c ms e) _ ps all

-- how the definition groups persons
pub grouped_follows : (ms : List EntityMembers) → Follows ms (grouped ms)
grouped_follows ms = record {
  group = λ e p home is. ap group_in is;
  role = λ e p home is. ap role_in is;
  persons = λ e group. refl;
}
