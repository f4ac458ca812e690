-- The members of an input: each person has a group of each kind, which is there.
use Rattle.std.proofs.Common.{◌≡◌, ◌<◌, ◌⊎◌, inl, inr, ℕ, zero, suc, ◌+◌, List, [], ◌∷◌, ◌++◌, map, length, Bool, true, false, refl, ap, sym, ◌∙◌, subst, arith, Option, Some, None}
use Rattle.std.specs.Prelude.{cond, if◌then◌else◌, set, replicate, slice_get, Result, Ok, Err}
use Rattle.std.specs.List.{AllZip, find, position_from}
use Rattle.std.proofs.lemmas.List.{length-append}
use Rattle.std.proofs.lemmas.Option.{slice_get_within}
use Rattle.std.proofs.lemmas.Bool.{true≢false}
use Rattle.fisca_groups.specs.Homes.{held_by}
use Rattle.fisca_groups.specs.Lookup.{count_at, home_in, if_held, size_of}
use Rattle.fisca_groups.specs.Steps.Homes.{is_held, is_home}
use Rattle.fisca_groups.specs.declared.entity_members.EntityMembers.{EntityMembers}
use Rattle.fisca_groups.specs.declared.home.Home.{Home}
use Rattle.fisca_members.specs.Groups.{Post}
use Rattle.fisca_members.specs.Sections.{Input, Section, one_person, sections}
use Rattle.fisca_members.specs.Steps.Faults.{entries_at}
use Rattle.fisca_members.specs.Steps.Groups.{first_role, given_to, groups_from, groups_of, home_of, is_full, name_given, named_group, names_given, own_from, role_at, role_given, role_named, roles_from, with_group, with_own}
use Rattle.fisca_members.specs.Steps.Members.{changed_at, changed_by, groups_in, members_in, members_of, none_yet, own_of, owns_from, section_of, section_read, sections_read}
use Rattle.fisca_members.specs.Steps.Persons.{first_line, is_person_at as is_person_among, names_of, person_alone, person_named, persons_by, persons_in, room}
use Rattle.fisca_members.specs.Steps.Sections.{input_of, titles_of}
use Rattle.fisca_members.specs.declared.fault.MembersFault.{MembersFault}
use Rattle.fisca_members.specs.declared.person.Person.{Person}
use Rattle.fisca_model.specs.Tables.{Entity, Role, Tables, is_person, most, person_by, place_in}
use Rattle.fisca_model.specs.declared.role_place.RolePlace.{RolePlace}
use Rattle.fisca_num.specs.Results.{and_then}
use Rattle.fisca_api.proofs.Peopled.{IsPeopled}
use Rattle.fisca_typing.specs.Asks.{person_place}
use Rattle.fisca_yaml.specs.Node.{Entries, Items, Node, entry, item, list, map as map_node, no_entries, no_items, null, scalar}

-- Results and lists

then_ok : {X Y E : Type 0} (r : Result X E) (f : X → Result Y E) (y : Y) → and_then r f ≡ Ok y → (x : X) × (r ≡ Ok x) × (f x ≡ Ok y)
then_ok (Ok x) f y h = (x, refl, h)
then_ok (Err e) f y h = cc

ok_same : {X E : Type 0} (x y : X) → ◌≡◌ {A = Result X E} (Ok x) (Ok y) → x ≡ y
ok_same x y e = cc

some_same : {X : Type 0} (x y : X) → Some x ≡ Some y → x ≡ y
some_same x y e = cc

-- where a fault is told nothing is given
unless : {X : Type 0} (b : Bool) (e : MembersFault) (r : Result X MembersFault) (x : X) → (if b then Err e else r) ≡ Ok x → r ≡ Ok x
unless true e r x h = cc
unless false e r x h = h

below_next : (q p : ℕ) → q < suc p → (q < p) ⊎ (q ≡ p)
below_next zero zero h = inr refl
below_next zero (suc p) h = inl (omega arith)
below_next (suc q) zero h = absurd (omega (arith, h))
below_next (suc q) (suc p) h = up (below_next q p (omega (arith, h)))
  where
    up : (q < p) ⊎ (q ≡ p) → (suc q < suc p) ⊎ (suc q ≡ suc p)
    up (inl k) = inl (omega (arith, k))
    up (inr k) = inr (ap suc k)

set_length : {X : Type 0} (xs : List X) (i : ℕ) (x : X) → length (set xs i x) ≡ length xs
set_length [] i x = refl
set_length (y ∷ xs) zero x = refl
set_length (y ∷ xs) (suc i) x = ap suc (set_length xs i x)

-- what stands in a list of which one item is set
set_at : {X : Type 0} (xs : List X) (i j : ℕ) (x y : X) → slice_get (set xs i x) j ≡ Some y → (y ≡ x) ⊎ (slice_get xs j ≡ Some y)
set_at [] i j x y e = cc
set_at (z ∷ xs) zero zero x y e = inl (sym (some_same x y e))
set_at (z ∷ xs) zero (suc j) x y e = inr e
set_at (z ∷ xs) (suc i) zero x y e = inr e
set_at (z ∷ xs) (suc i) (suc j) x y e = set_at xs i j x y e

set_here : {X : Type 0} (xs : List X) (i : ℕ) (x y : X) → slice_get xs i ≡ Some y → slice_get (set xs i x) i ≡ Some x
set_here [] i x y e = cc
set_here (z ∷ xs) zero x y e = refl
set_here (z ∷ xs) (suc i) x y e = set_here xs i x y e

set_before : {X : Type 0} (xs : List X) (i j : ℕ) (x : X) → j < i → slice_get (set xs i x) j ≡ slice_get xs j
set_before [] i j x h = refl
set_before (z ∷ xs) zero j x h = absurd (omega (arith, h))
set_before (z ∷ xs) (suc i) zero x h = refl
set_before (z ∷ xs) (suc i) (suc j) x h = set_before xs i j x (omega (arith, h))

module _ {X Y : Type 0} (R : X → Y → Type 0) where
  zip_at : (xs : List X) (ys : List Y) (i : ℕ) (x : X) → AllZip R xs ys → slice_get xs i ≡ Some x → (y : Y) × (slice_get ys i ≡ Some y) × R x y
  zip_at [] ys i x all e = cc
  zip_at (z ∷ xs) [] i x all e = absurd all
  zip_at (z ∷ xs) (y ∷ ys) zero x all e = (y, refl, subst (λ k. R k y) (some_same z x e) all.0)
  zip_at (z ∷ xs) (y ∷ ys) (suc i) x all e = zip_at xs ys i x all.1 e

  zip_back : (xs : List X) (ys : List Y) (i : ℕ) (y : Y) → AllZip R xs ys → slice_get ys i ≡ Some y → (x : X) × (slice_get xs i ≡ Some x) × R x y
  zip_back [] [] i y all e = cc
  zip_back [] (w ∷ ys) i y all e = absurd all
  zip_back (z ∷ xs) [] i y all e = absurd all
  zip_back (z ∷ xs) (w ∷ ys) zero y all e = (z, refl, subst (λ k. R z k) (some_same w y e) all.0)
  zip_back (z ∷ xs) (w ∷ ys) (suc i) y all e = zip_back xs ys i y all.1 e

  zip_set : (xs : List X) (ys : List Y) (i : ℕ) (x : X) (y : Y) → AllZip R xs ys → slice_get xs i ≡ Some x → R x y → AllZip R xs (set ys i y)
  zip_set [] ys i x y all e r = cc
  zip_set (z ∷ xs) [] i x y all e r = absurd all
  zip_set (z ∷ xs) (w ∷ ys) zero x y all e r = (subst (λ k. R k y) (sym (some_same z x e)) r, all.1)
  zip_set (z ∷ xs) (w ∷ ys) (suc i) x y all e r = (all.0, zip_set xs ys i x y all.1 e r)

-- Homes

-- each home is in one of so many groups
abbrev HomesBelow : List (Option Home) → ℕ → Type 0
HomesBelow hs groups = (p : ℕ) (home : Home) → slice_get hs p ≡ Some (Some home) → home.group < groups

abbrev Homed : ℕ → ℕ → List (Option Home) → Type 0
Homed count groups hs = (length hs ≡ count) × HomesBelow hs groups

homed_held : (count groups : ℕ) (hs : List (Option Home)) (p : ℕ) (home : Home) → Homed count groups hs → home.group < groups → Homed count groups (held_by hs p home)
homed_held count groups hs p home homed below = (set_length hs p (Some home) ∙ homed.0, each)
  where
    by : (q : ℕ) (other : Home) → (Some other ≡ Some home) ⊎ (slice_get hs q ≡ Some (Some other)) → other.group < groups
    by q other (inl same) = subst (λ (h : Home). h.group < groups) (sym (some_same other home same)) below
    by q other (inr before) = homed.1 q other before

    each : HomesBelow (held_by hs p home) groups
    each q other e = by q other (set_at hs p q (Some home) (Some other) e)

homed_more : (count groups : ℕ) (hs : List (Option Home)) → Homed count groups hs → Homed count (suc groups) hs
homed_more count groups hs homed = (homed.0, λ p home e. let below = homed.1 p home e in omega (arith, below))

module _ (count groups : ℕ) (ps : List Person) where
  given_homed : (post : Post) (others : ℕ) (hs : List (Option Home)) (line : ℕ) (o : Option ℕ) (gs : List (Option Home)) → post.group < groups → Homed count groups hs
      → given_to post others hs line o ≡ Ok gs → Homed count groups gs
  given_homed post others hs line None gs below homed h = cc
  given_homed post others hs line (Some p) gs below homed h =
      let first = unless (is_held hs p) _ _ gs h in
      let second = unless (is_full (most post.role) others) _ _ gs first in
      subst (Homed count groups) (ok_same (held_by hs p (home_of post others)) gs second) (homed_held count groups hs p (home_of post others) homed below)

  name_homed : (post : Post) (others : ℕ) (hs : List (Option Home)) (line : ℕ) (n : Node) (gs : List (Option Home)) → post.group < groups → Homed count groups hs
      → name_given ps post others hs line n ≡ Ok gs → Homed count groups gs
  name_homed post others hs line null gs below homed h = cc
  name_homed post others hs line (scalar t q l) gs below homed h = given_homed post others hs l (person_named ps t) gs below homed h
  name_homed post others hs line (list is) gs below homed h = cc
  name_homed post others hs line (map_node es) gs below homed h = cc

  names_homed : (post : Post) (others : ℕ) (hs : List (Option Home)) (is : Items) (gs : List (Option Home)) → post.group < groups → Homed count groups hs
      → names_given ps post others hs is ≡ Ok gs → Homed count groups gs
  names_homed post others hs no_items gs below homed h = subst (Homed count groups) (ok_same hs gs h) homed
  names_homed post others hs (item line n is) gs below homed h =
      let one = then_ok (name_given ps post others hs line n) (λ ks. names_given ps post (suc others) ks is) gs h in
      names_homed post (suc others) one.0 is gs below (name_homed post others hs line n one.0 below homed one.1) one.2

  role_homed : (post : Post) (hs : List (Option Home)) (line : ℕ) (n : Node) (gs : List (Option Home)) → post.group < groups → Homed count groups hs
      → role_given ps post hs line n ≡ Ok gs → Homed count groups gs
  role_homed post hs line null gs below homed h = name_homed post 0 hs line null gs below homed h
  role_homed post hs line (scalar t q l) gs below homed h = name_homed post 0 hs line (scalar t q l) gs below homed h
  role_homed post hs line (list is) gs below homed h = names_homed post 0 hs is gs below homed h
  role_homed post hs line (map_node es) gs below homed h = name_homed post 0 hs line (map_node es) gs below homed h

  at_homed : (rs : List Role) (group : ℕ) (hs : List (Option Home)) (line : ℕ) (n : Node) (o : Option ℕ) (gs : List (Option Home)) → group < groups → Homed count groups hs
      → role_at rs ps group hs line n o ≡ Ok gs → Homed count groups gs
  at_homed rs group hs line n None gs below homed h = subst (Homed count groups) (ok_same hs gs h) homed
  at_homed rs group hs line n (Some place) gs below homed h = by (slice_get rs place) refl
    where
      by : (o : Option Role) → slice_get rs place ≡ o → Homed count groups gs
      by None e = subst (Homed count groups) (ok_same hs gs (rw e at h)) homed
      by (Some r) e = role_homed (record { group = group; place = place; role = r }) hs line n gs below homed (rw e at h)

  roles_homed : (rs : List Role) (group : ℕ) (hs : List (Option Home)) (es : Entries) (gs : List (Option Home)) → group < groups → Homed count groups hs
      → roles_from rs ps group hs es ≡ Ok gs → Homed count groups gs
  roles_homed rs group hs no_entries gs below homed h = subst (Homed count groups) (ok_same hs gs h) homed
  roles_homed rs group hs (entry key line n es) gs below homed h =
      let one = then_ok (role_at rs ps group hs line n (role_named rs key)) (λ ks. roles_from rs ps group ks es) gs h in
      roles_homed rs group one.0 es gs below (at_homed rs group hs line n (role_named rs key) one.0 below homed one.1) one.2

-- Groups

-- a place for each of so many persons, and the groups that they name are there
abbrev IsFitGroup : ℕ → EntityMembers → Type 0
IsFitGroup count k = Homed count (length k.names) k.homes

module _ (count : ℕ) (ps : List Person) where
  longer : (names : List (List ℕ)) (name : List ℕ) → length (names ++ name ∷ []) ≡ suc (length names)
  longer names name = let e = length-append names (name ∷ []) in omega (arith, e)

  named_fit : (k : EntityMembers) (name : List ℕ) (hs : List (Option Home)) → Homed count (suc (length k.names)) hs → IsFitGroup count (named_group k name hs)
  named_fit k name hs homed = subst (λ groups. Homed count groups hs) (sym (longer k.names name)) homed

  with_fit : (rs : List Role) (k : EntityMembers) (name : List ℕ) (line : ℕ) (n : Node) (j : EntityMembers) → IsFitGroup count k → with_group rs ps k name line n ≡ Ok j → IsFitGroup count j
  with_fit rs k name line n j fit h =
      let free = then_ok (room line (length k.names)) _ j h in
      let es = then_ok (entries_at line n) _ j free.2 in
      let hs = then_ok (roles_from rs ps (length k.names) k.homes es.0) (λ hs. Ok (named_group k name hs)) j es.2 in
      subst (IsFitGroup count) (ok_same (named_group k name hs.0) j hs.2)
      (named_fit k name hs.0 (roles_homed count (suc (length k.names)) ps rs (length k.names) k.homes es.0 hs.0 (omega arith) (homed_more count (length k.names) k.homes fit) hs.1))

  from_fit : (rs : List Role) (k : EntityMembers) (es : Entries) (j : EntityMembers) → IsFitGroup count k → groups_from rs ps k es ≡ Ok j → IsFitGroup count j
  from_fit rs k no_entries j fit h = subst (IsFitGroup count) (ok_same k j h) fit
  from_fit rs k (entry name line n es) j fit h =
      let one = then_ok (with_group rs ps k name line n) (λ i. groups_from rs ps i es) j h in from_fit rs one.0 es j (with_fit rs k name line n one.0 fit one.1) one.2

  section_fit : (rs : List Role) (k : EntityMembers) (s : Section) (j : EntityMembers) → IsFitGroup count k → groups_of rs ps k s ≡ Ok j → IsFitGroup count j
  section_fit rs k s j fit h = by s.named.is_plural h
    where
      by : (b : Bool) → (if b then and_then (entries_at s.line s.value) (groups_from rs ps k) else with_group rs ps k s.key s.line s.value) ≡ Ok j → IsFitGroup count j
      by true e = let es = then_ok (entries_at s.line s.value) (groups_from rs ps k) j e in from_fit rs k es.0 j fit es.2
      by false e = with_fit rs k s.key s.line s.value j fit e

-- Groups of their own

-- each person before this one is held
abbrev HeldUpTo : List (Option Home) → ℕ → Type 0
HeldUpTo hs p = (q : ℕ) → q < p → is_held hs q ≡ true

held_set : (hs : List (Option Home)) (p : ℕ) (home : Home) (q : ℕ) → is_held hs q ≡ true → is_held (held_by hs p home) q ≡ true
held_set [] p home q e = cc
held_set (x ∷ hs) zero home zero e = refl
held_set (x ∷ hs) zero home (suc q) e = e
held_set (x ∷ hs) (suc p) home zero e = e
held_set (x ∷ hs) (suc p) home (suc q) e = held_set hs p home q e

held_here : (hs : List (Option Home)) (p : ℕ) (home : Home) → p < length hs → is_held (held_by hs p home) p ≡ true
held_here [] p home h = absurd (omega (arith, h))
held_here (x ∷ hs) zero home h = refl
held_here (x ∷ hs) (suc p) home h = held_here hs p home (omega (arith, h))

held_next : (hs : List (Option Home)) (p : ℕ) → HeldUpTo hs p → is_held hs p ≡ true → HeldUpTo hs (suc p)
held_next hs p held here q below = by (below_next q p below)
  where
    by : (q < p) ⊎ (q ≡ p) → is_held hs q ≡ true
    by (inl h) = held q h
    by (inr e) = subst (λ r. is_held hs r ≡ true) (sym e) here

module _ (count : ℕ) where
  own_step : (first : RolePlace) (k j : EntityMembers) (p : ℕ) (person : Person) → p < count → IsFitGroup count k × HeldUpTo k.homes p
      → (if is_held k.homes p then Ok k else with_own first k p person) ≡ Ok j → IsFitGroup count j × HeldUpTo j.homes (suc p)
  own_step first k j p person below done h = by (is_held k.homes p) refl h
    where
      by : (b : Bool) → is_held k.homes p ≡ b → (if b then Ok k else with_own first k p person) ≡ Ok j → IsFitGroup count j × HeldUpTo j.homes (suc p)
      by true here e = subst (λ i. IsFitGroup count i × HeldUpTo i.homes (suc p)) (ok_same k j e) (done.0, held_next k.homes p done.1 here)
      by false here e =
          let home : Home = record { group = length k.names; role = first } in
          let hs = held_by k.homes p home in
          let free = then_ok (room person.line (length k.names)) (λ u. Ok (named_group k person.name hs)) j e in
          let homed = homed_held count (suc (length k.names)) k.homes p home (homed_more count (length k.names) k.homes done.0) (omega arith) in
          let size = done.0.0 in
          let fit = named_fit count [] k person.name hs homed in
          let held = held_next hs p (λ q h. held_set k.homes p home q (done.1 q h)) (held_here k.homes p home (omega (arith, below, size))) in
          subst (λ i. IsFitGroup count i × HeldUpTo i.homes (suc p)) (ok_same (named_group k person.name hs) j free.2) (fit, held)

  own_done : (first : RolePlace) (k j : EntityMembers) (p : ℕ) (ps : List Person) → p + length ps ≡ count → IsFitGroup count k × HeldUpTo k.homes p → own_from first k p ps ≡ Ok j
      → IsFitGroup count j × HeldUpTo j.homes count
  own_done first k j p [] all done h =
      let here : p ≡ count = omega (arith, all) in subst (λ i. IsFitGroup count i × HeldUpTo i.homes count) (ok_same k j h) (subst (λ q. IsFitGroup count k × HeldUpTo k.homes q) here done)
  own_done first k j p (person ∷ ps) all done h =
      let one = then_ok (if is_held k.homes p then Ok k else with_own first k p person) (λ i. own_from first i (suc p) ps) j h in
      own_done first one.0 j (suc p) ps (omega (arith, all)) (own_step first k one.0 p person (omega (arith, all)) done one.1) one.2

-- All entities

abbrev IsFitBy : Bool → List Person → EntityMembers → Type 0
IsFitBy true ps k = k.names ≡ names_of ps
IsFitBy false ps k = IsFitGroup (length ps) k

-- the members of one entity changed, where it has any
changed_ok : (ks js : List EntityMembers) (place : ℕ) (change : EntityMembers → Result EntityMembers MembersFault) (o : Option EntityMembers) → changed_by ks place change o ≡ Ok js
    → ((o ≡ None) × (ks ≡ js)) ⊎ ((k : EntityMembers) × (j : EntityMembers) × (o ≡ Some k) × (change k ≡ Ok j) × (set ks place j ≡ js))
changed_ok ks js place change None h = inl (refl, ok_same ks js h)
changed_ok ks js place change (Some k) h = let one = then_ok (change k) (λ j. Ok (set ks place j)) js h in inr (k, one.0, refl, one.1, ok_same (set ks place one.0) js one.2)

module _ (es : List Entity) (ps : List Person) where
  group_fit : (e : Entity) (k : EntityMembers) → e.is_person ≡ false → IsFitBy e.is_person ps k → IsFitGroup (length ps) k
  group_fit e k is fit = subst (λ b. IsFitBy b ps k) is fit

  fit_group : (e : Entity) (k : EntityMembers) → e.is_person ≡ false → IsFitGroup (length ps) k → IsFitBy e.is_person ps k
  fit_group e k is fit = subst (λ b. IsFitBy b ps k) (sym is) fit

  changed_fit : (ks js : List EntityMembers) (place : ℕ) (e : Entity) (change : EntityMembers → Result EntityMembers MembersFault) → AllZip (λ (x : Entity) k. IsFitBy x.is_person ps k) es ks
      → slice_get es place ≡ Some e → e.is_person ≡ false → ((k j : EntityMembers) → IsFitGroup (length ps) k → change k ≡ Ok j → IsFitGroup (length ps) j) → changed_at ks place change ≡ Ok js
      → AllZip (λ (x : Entity) k. IsFitBy x.is_person ps k) es js
  changed_fit ks js place e change all there group keeps h = by (changed_ok ks js place change (slice_get ks place) h)
    where
      by : ((slice_get ks place ≡ None) × (ks ≡ js)) ⊎ ((k : EntityMembers) × (j : EntityMembers) × (slice_get ks place ≡ Some k) × (change k ≡ Ok j) × (set ks place j ≡ js))
          → AllZip (λ (x : Entity) k. IsFitBy x.is_person ps k) es js
      by (inl none) = subst (λ xs. AllZip (λ (x : Entity) k. IsFitBy x.is_person ps k) es xs) none.1 all
      by (inr (k, j, is, changes, same)) =
          let here = zip_at (λ (x : Entity) k. IsFitBy x.is_person ps k) es ks place e all there in
          let same_k : here.0 ≡ k = some_same here.0 k (sym here.1 ∙ is) in
          let fit = keeps k j (subst (IsFitGroup (length ps)) same_k (group_fit e here.0 group here.2)) changes in
          subst (λ xs. AllZip (λ (x : Entity) k. IsFitBy x.is_person ps k) es xs) same (zip_set (λ (x : Entity) k. IsFitBy x.is_person ps k) es ks place e j all there (fit_group e j group fit))

  one_section : (ks js : List EntityMembers) (s : Section) (o : Option Entity) → slice_get es s.named.entity ≡ o → AllZip (λ (x : Entity) k. IsFitBy x.is_person ps k) es ks → section_of ps ks s o ≡ Ok js
      → AllZip (λ (x : Entity) k. IsFitBy x.is_person ps k) es js
  one_section ks js s None there all h = subst (λ xs. AllZip (λ (x : Entity) k. IsFitBy x.is_person ps k) es xs) (ok_same ks js h) all
  one_section ks js s (Some e) there all h = by e.is_person refl h
    where
      by : (b : Bool) → e.is_person ≡ b → (if b then Ok ks else changed_at ks s.named.entity (λ k. groups_of e.roles ps k s)) ≡ Ok js → AllZip (λ (x : Entity) k. IsFitBy x.is_person ps k) es js
      by true person k = subst (λ xs. AllZip (λ (x : Entity) k. IsFitBy x.is_person ps k) es xs) (ok_same ks js k) all
      by false group k = changed_fit ks js s.named.entity e (λ k. groups_of e.roles ps k s) all there group (λ i j fit made. section_fit (length ps) ps e.roles i s j fit made) k

  all_sections : (ks js : List EntityMembers) (ss : List Section) → AllZip (λ (x : Entity) k. IsFitBy x.is_person ps k) es ks → sections_read es ps ks ss ≡ Ok js → AllZip (λ (x : Entity) k. IsFitBy x.is_person ps k) es js
  all_sections ks js [] all h = subst (λ xs. AllZip (λ (x : Entity) k. IsFitBy x.is_person ps k) es xs) (ok_same ks js h) all
  all_sections ks js (s ∷ ss) all h =
      let one = then_ok (section_read es ps ks s) (λ xs. sections_read es ps xs ss) js h in all_sections one.0 js ss (one_section ks one.0 s (slice_get es s.named.entity) refl all one.1) one.2

  groups_fit : (ks js : List EntityMembers) (i : Input) → AllZip (λ (x : Entity) k. IsFitBy x.is_person ps k) es ks → groups_in es ps ks i ≡ Ok js → AllZip (λ (x : Entity) k. IsFitBy x.is_person ps k) es js
  groups_fit ks js (one_person variables) all h = subst (λ xs. AllZip (λ (x : Entity) k. IsFitBy x.is_person ps k) es xs) (ok_same ks js h) all
  groups_fit ks js (sections ss) all h = all_sections ks js ss all h

  -- of the group entity at a place, each person has a group
  abbrev HasOwn : List EntityMembers → ℕ → Type 0
  HasOwn ks i = (e : Entity) (k : EntityMembers) → slice_get es i ≡ Some e → slice_get ks i ≡ Some k → e.is_person ≡ false → HeldUpTo k.homes (length ps)

  own_of_step : (ks js : List EntityMembers) (place : ℕ) (e : Entity) → slice_get es place ≡ Some e → AllZip (λ (x : Entity) k. IsFitBy x.is_person ps k) es ks
      → ((i : ℕ) → i < place → HasOwn ks i) → own_of ps ks place e ≡ Ok js
      → AllZip (λ (x : Entity) k. IsFitBy x.is_person ps k) es js × ((i : ℕ) → i < suc place → HasOwn js i)
  own_of_step ks js place e there all before h = by e.is_person refl h
    where
      upto : (xs : List EntityMembers) → ((i : ℕ) → i < place → HasOwn xs i) → HasOwn xs place → (i : ℕ) → i < suc place → HasOwn xs i
      upto xs low here i below = at (below_next i place below)
        where
          at : (i < place) ⊎ (i ≡ place) → HasOwn xs i
          at (inl h) = low i h
          at (inr same) = subst (HasOwn xs) (sym same) here

      change : EntityMembers → Result EntityMembers MembersFault
      change k = own_from (first_role e.roles) k 0 ps

      made : e.is_person ≡ false
          → ((slice_get ks place ≡ None) × (ks ≡ js)) ⊎ ((k : EntityMembers) × (j : EntityMembers) × (slice_get ks place ≡ Some k) × (own_from (first_role e.roles) k 0 ps ≡ Ok j) × (set ks place j ≡ js))
          → AllZip (λ (x : Entity) k. IsFitBy x.is_person ps k) es js × ((i : ℕ) → i < suc place → HasOwn js i)
      made group (inl none) =
          let same : ks ≡ js = none.1 in
          subst (λ xs. AllZip (λ (x : Entity) k. IsFitBy x.is_person ps k) es xs × ((i : ℕ) → i < suc place → HasOwn xs i)) same
          (all, upto ks before (λ x k is there_k person. let nothing : None ≡ Some k = sym none.0 ∙ there_k in absurd (cc)))
      made group (inr (k, j, is, changes, same)) =
          let here = zip_at (λ (x : Entity) k. IsFitBy x.is_person ps k) es ks place e all there in
          let same_k : here.0 ≡ k = some_same here.0 k (sym here.1 ∙ is) in
          let fit : IsFitGroup (length ps) k = subst (IsFitGroup (length ps)) same_k (group_fit e here.0 group here.2) in
          let done = own_done (length ps) (first_role e.roles) k j 0 ps (omega arith) (fit, λ q h. absurd (omega (arith, h))) changes in
          let now = zip_set (λ (x : Entity) k. IsFitBy x.is_person ps k) es ks place e j all there (fit_group e j group done.0) in
          let low : (i : ℕ) → i < place → HasOwn (set ks place j) i = λ i h x y is_x is_y person. before i h x y is_x (sym (set_before ks place i j h) ∙ is_y) person in
          let own : HasOwn (set ks place j) place = λ x y is_x is_y person. subst (λ (m : EntityMembers). HeldUpTo m.homes (length ps)) (some_same j y (sym (set_here ks place j k is) ∙ is_y)) done.1 in
          subst (λ xs. AllZip (λ (x : Entity) k. IsFitBy x.is_person ps k) es xs × ((i : ℕ) → i < suc place → HasOwn xs i)) same (now, upto (set ks place j) low own)

      by : (b : Bool) → e.is_person ≡ b → (if b then Ok ks else changed_at ks place (λ k. own_from (first_role e.roles) k 0 ps)) ≡ Ok js
          → AllZip (λ (x : Entity) k. IsFitBy x.is_person ps k) es js × ((i : ℕ) → i < suc place → HasOwn js i)
      by true person k =
          subst (λ xs. AllZip (λ (x : Entity) k. IsFitBy x.is_person ps k) es xs × ((i : ℕ) → i < suc place → HasOwn xs i)) (ok_same ks js k)
          (all, upto ks before (λ x y is_x is_y group. absurd (true≢false (sym person ∙ ap (λ (z : Entity). z.is_person) (some_same e x (sym there ∙ is_x)) ∙ group))))
      by false group k = made group (changed_ok ks js place change (slice_get ks place) k)

  owns_done : (ks js : List EntityMembers) (place : ℕ) (rest : List Entity) → ((j : ℕ) → slice_get rest j ≡ slice_get es (place + j)) → AllZip (λ (x : Entity) k. IsFitBy x.is_person ps k) es ks
      → ((i : ℕ) → i < place → HasOwn ks i) → owns_from ps ks place rest ≡ Ok js
      → AllZip (λ (x : Entity) k. IsFitBy x.is_person ps k) es js × ((i : ℕ) → i < place + length rest → HasOwn js i)
  owns_done ks js place [] shift all before h =
      subst (λ xs. AllZip (λ (x : Entity) k. IsFitBy x.is_person ps k) es xs × ((i : ℕ) → i < place + 0 → HasOwn xs i)) (ok_same ks js h) (all, λ i below. before i (omega (arith, below)))
  owns_done ks js place (e ∷ rest) shift all before h =
      let one = then_ok (own_of ps ks place e) (λ xs. owns_from ps xs (suc place) rest) js h in
      let zero_place : place + 0 ≡ place = omega arith in
      let there : slice_get es place ≡ Some e = sym (shift 0 ∙ ap (slice_get es) zero_place) in
      let step = own_of_step ks one.0 place e there all before one.1 in
      let next : (j : ℕ) → place + suc j ≡ suc place + j = λ j. omega arith in
      let r = owns_done one.0 js (suc place) rest (λ j. shift (suc j) ∙ ap (slice_get es) (next j)) step.0 step.1 one.2 in
      (r.0, λ i below. r.1 i (omega (arith, below)))

-- What is there at first

replicate_length : (n : ℕ) → length (replicate {A = Option Home} n None) ≡ n
replicate_length zero = refl
replicate_length (suc n) = ap suc (replicate_length n)

none_below : (n : ℕ) → HomesBelow (replicate {A = Option Home} n None) 0
none_below zero p home e = cc
none_below (suc n) zero home e = cc
none_below (suc n) (suc p) home e = none_below n p home e

first_fit : (ps : List Person) (es : List Entity) → AllZip (λ (x : Entity) k. IsFitBy x.is_person ps k) es (map (none_yet ps) es)
first_fit ps [] = tt
first_fit ps (e ∷ es) = (by e.is_person, first_fit ps es)
  where
    by : (b : Bool) → IsFitBy b ps (if b then record { names = names_of ps; homes = [] } else record { names = []; homes = replicate (length ps) None })
    by true = refl
    by false = (replicate_length (length ps), none_below (length ps))

-- Persons

found_at : {X : Type 0} (test : X → Bool) (xs : List X) (x : X) → find test xs ≡ Some x → (i : ℕ) × (slice_get xs i ≡ Some x) × (test x ≡ true)
found_at test [] x e = cc
found_at {X} test (z ∷ xs) x e = by (test z) refl e (found_at test xs x)
  where
    by : (b : Bool) → test z ≡ b → cond b (Some z) (find test xs) ≡ Some x → (find test xs ≡ Some x → (i : ℕ) × (slice_get xs i ≡ Some x) × (test x ≡ true))
        → (i : ℕ) × (slice_get (z ∷ xs) i ≡ Some x) × (test x ≡ true)
    by true is k rest = let same = some_same z x k in (0, k, ap test (sym same) ∙ is)
    by false is k rest = let r = rest k in (suc r.0, r.1, r.2)

position_found : {X : Type 0} (test : X → Bool) (xs : List X) (k i : ℕ) (x : X) → slice_get xs i ≡ Some x → test x ≡ true
    → (j : ℕ) × (y : X) × (position_from test k xs ≡ Some (k + j)) × (slice_get xs j ≡ Some y) × (test y ≡ true)
position_found test [] k i x e is = cc
position_found {X} test (z ∷ xs) k i x e is = by (test z) refl (λ j there. position_found test xs (k + 1) j x there is)
  where
    rest_of : (i : ℕ) → slice_get (z ∷ xs) i ≡ Some x → test z ≡ false → (i' : ℕ) × (slice_get xs i' ≡ Some x)
    rest_of zero e no_one = absurd (true≢false (sym is ∙ ap test (sym (some_same z x e)) ∙ no_one))
    rest_of (suc i) e no_one = (i, e)

    by : (b : Bool) → test z ≡ b
        → ((i : ℕ) → slice_get xs i ≡ Some x → (j : ℕ) × (y : X) × (position_from test (k + 1) xs ≡ Some (k + 1 + j)) × (slice_get xs j ≡ Some y) × (test y ≡ true))
        → (j : ℕ) × (y : X) × (cond b (Some k) (position_from test (k + 1) xs) ≡ Some (k + j)) × (slice_get (z ∷ xs) j ≡ Some y) × (test y ≡ true)
    by true here rest = let same : k ≡ k + 0 = omega arith in (0, z, ap Some same, refl, here)
    by false here rest =
        let left = rest_of i e here in
        let r = rest left.0 left.1 in
        let next : k + 1 + r.0 ≡ k + suc r.0 = omega arith in
        (suc r.0, r.1, r.2 ∙ ap Some next, r.3, r.4)

person_there : (o : Option Entity) → person_by o ≡ true → (x : Entity) × (o ≡ Some x) × (x.is_person ≡ true)
person_there None e = cc
person_there (Some x) e = (x, refl, e)

-- an input of which persons are read has an entity of persons
some_person : (es : List Entity) (line : ℕ) (i : Input) (ps : List Person) → persons_in es line i ≡ Ok ps → (q : ℕ) × (x : Entity) × (slice_get es q ≡ Some x) × (x.is_person ≡ true)
some_person es line (one_person variables) ps h = by (find is_person es) refl h
  where
    by : (o : Option Entity) → find is_person es ≡ o → person_alone line o ≡ Ok ps → (q : ℕ) × (x : Entity) × (slice_get es q ≡ Some x) × (x.is_person ≡ true)
    by None e k = cc
    by (Some x) e k = let at = found_at is_person es x e in (at.0, x, at.1, at.2)
some_person es line (sections ss) ps h = by (find (λ s. is_person_among es s.named.entity) ss) refl h
  where
    by : (o : Option Section) → find (λ s. is_person_among es s.named.entity) ss ≡ o → persons_by (first_line line ss) o ≡ Ok ps → (q : ℕ) × (x : Entity) × (slice_get es q ≡ Some x) × (x.is_person ≡ true)
    by None e k = cc
    by (Some s) e k =
        let at = found_at (λ (s : Section). is_person_among es s.named.entity) ss s e in
        let person = person_there (slice_get es s.named.entity) at.2 in
        (s.named.entity, person.0, person.1, person.2)

place_is : (c : Tables) (q : ℕ) → place_in is_person c.entities ≡ Some q → person_place c ≡ q
place_is c q e = rw e refl

names_length : (ps : List Person) → length (names_of ps) ≡ length ps
names_length [] = refl
names_length (p ∷ ps) = ap suc (names_length ps)

is_home_some : (o : Option (Option Home)) → is_home o ≡ true → (home : Home) × (o ≡ Some (Some home))
is_home_some None e = cc
is_home_some (Some None) e = cc
is_home_some (Some (Some home)) e = (home, refl)

module _ (c : Tables) (line : ℕ) (i : Input) (ms : List EntityMembers) (h : and_then (persons_in c.entities line i) (λ ps. and_then (groups_in c.entities ps (map (none_yet ps) c.entities) i) (λ ks. owns_from ps ks 0 c.entities)) ≡ Ok ms) where
  read : (ps : List Person) × (persons_in c.entities line i ≡ Ok ps) × (and_then (groups_in c.entities ps (map (none_yet ps) c.entities) i) (λ ks. owns_from ps ks 0 c.entities) ≡ Ok ms)
  read = then_ok (persons_in c.entities line i) (λ ps. and_then (groups_in c.entities ps (map (none_yet ps) c.entities) i) (λ ks. owns_from ps ks 0 c.entities)) ms h

  groups : (ks : List EntityMembers) × (groups_in c.entities read.0 (map (none_yet read.0) c.entities) i ≡ Ok ks) × (owns_from read.0 ks 0 c.entities ≡ Ok ms)
  groups = then_ok (groups_in c.entities read.0 (map (none_yet read.0) c.entities) i) (λ ks. owns_from read.0 ks 0 c.entities) ms read.2

  whole : AllZip (λ (x : Entity) k. IsFitBy x.is_person read.0 k) c.entities ms × ((i : ℕ) → i < 0 + length c.entities → HasOwn c.entities read.0 ms i)
  whole =
      let same : (j : ℕ) → j ≡ 0 + j = λ j. omega arith in
      owns_done c.entities read.0 groups.0 ms 0 c.entities (λ j. ap (slice_get c.entities) (same j))
      (groups_fit c.entities read.0 (map (none_yet read.0) c.entities) groups.0 i (first_fit read.0 c.entities) groups.1) (λ i below. absurd (omega (arith, below))) groups.2

  count_of_persons : (q : ℕ) (x : Entity) → slice_get c.entities q ≡ Some x → x.is_person ≡ true → count_at ms q ≡ length read.0
  count_of_persons q x there person =
      let k = zip_at (λ (x : Entity) k. IsFitBy x.is_person read.0 k) c.entities ms q x whole.0 there in
      let names : k.0.names ≡ names_of read.0 = subst (λ b. IsFitBy b read.0 k.0) person k.2 in
      ap size_of k.1 ∙ (ap (λ xs. length xs) names ∙ names_length read.0)

  persons_at : count_at ms (person_place c) ≡ length read.0
  persons_at =
      let some = some_person c.entities line i read.0 read.1 in
      let first = position_found is_person c.entities 0 some.0 some.1 some.2 some.3 in
      let place : 0 + first.0 ≡ first.0 = omega arith in
      let is : person_place c ≡ first.0 = place_is c (0 + first.0) first.2 ∙ place in
      ap (count_at ms) is ∙ count_of_persons first.0 first.1 first.3 first.4

  pub peopled_by : IsPeopled c ms
  peopled_by = record {
    persons = λ q is. let person = person_there (slice_get c.entities q) is in count_of_persons q person.0 person.1 person.2 ∙ sym persons_at;
    sized = λ e k there is.
        let x = zip_back (λ (x : Entity) k. IsFitBy x.is_person read.0 k) c.entities ms e k whole.0 there in
        let group : x.0.is_person ≡ false = ap person_by (sym x.1) ∙ is in
        (group_fit c.entities read.0 x.0 k group x.2).0 ∙ sym persons_at;
    held = λ e is p below.
        let k = zip_at (λ (x : Entity) k. IsFitBy x.is_person read.0 k) c.entities ms e is.entity whole.0 is.there in
        let inside = slice_get_within c.entities e is.entity is.there in
        let held = whole.1 e (omega (arith, inside)) is.entity k.0 is.there k.1 is.group p (subst (λ n. p < n) persons_at below) in
        let home = is_home_some (slice_get k.0.homes p) held in
        let low = (group_fit c.entities read.0 is.entity k.0 is.group k.2).1 p home.0 home.1 in
        (home.0, ap (home_in p) k.1 ∙ ap if_held home.1, subst (λ n. home.0.group < n) (sym (ap size_of k.1)) low);
  }

-- the members of an input are such
pub peopled : (c : Tables) (line : ℕ) (n : Node) (ms : List EntityMembers) → members_of c.entities line n ≡ Ok ms → IsPeopled c ms
unfolding members_of members_in
peopled c line n ms h = let input = then_ok (input_of (titles_of c.entities) line n) (members_in c.entities line) ms h in peopled_by c line input.0 ms input.2
