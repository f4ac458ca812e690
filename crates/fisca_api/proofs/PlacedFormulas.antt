-- Formulas with locals are placed.
use Rattle.std.proofs.Common.{◌≡◌, ℕ, zero, suc, ◌+◌, List, [], ◌∷◌, ◌++◌, length, Bool, false, refl, sym, ap, ◌∙◌, subst, arith, Some}
use Rattle.std.specs.Prelude.{slice_get, Result, Ok, Err}
use Rattle.fisca_ast.specs.Tree.{Tree}
use Rattle.fisca_ast.specs.declared.fault.FormulaKind.{FormulaKind}
use Rattle.fisca_typing.proofs.Good.{OkIs, if_is, then_is}
use Rattle.fisca_model.specs.Tables.{Tables}
use Rattle.fisca_model.specs.declared.value_type.ValueType.{ValueType}
use Rattle.fisca_num.specs.Results.{and_then}
use Rattle.fisca_api.proofs.Placed.{Extends, IsPlaced, IsPlacedFormula, IsPlacedFrom, RolesFit, extended, weaken, weaken_all}
use Rattle.fisca_api.proofs.PlacedNames.{LocalsGood, thing-good}
use Rattle.fisca_api.proofs.PlacedThings.{AreGood, IsGood, IsGoodValue, value-good}
use Rattle.fisca_typing.specs.Formulas.{Assigned, Formula, Kept, RefusedFormula, Scope, at, behind_local, formula_from, formula_of, if_small, kept, of_entity, of_type, returned, returns, start_of, with_local}
use Rattle.fisca_typing.specs.Names.{Local, Names}
use Rattle.fisca_typing.specs.Nodes.{Node}
use Rattle.fisca_typing.specs.Sizes.{Size, is_small, size_of}
use Rattle.fisca_typing.specs.Things.{Thing, Things, asker, calculation, choices, entity, enumeration, function, group_count, library, listed, method, more, nodes, none, offset, option, period, reader, role, scale, start, text, value, value_of}
use Rattle.fisca_typing.specs.Types.{is_of_members}
use Rattle.fisca_typing.specs.Typing.{thing_of}
use Rattle.fisca_typing.specs.declared.kinds.Level.{Level}
use Rattle.fisca_typing.specs.declared.kinds.Level.TheVariants as level

-- nodes, one after another, lead from some locals to more
abbrev Leads : Tables → ℕ → List Bool → List Node → List Bool → Type 0
Leads c own G [] H = G ≡ H
Leads c own G (n ∷ ns) H = (b : Bool) × IsPlaced c own G n b × Leads c own (G ++ b ∷ []) ns H

one_longer : (G : List Bool) (b : Bool) → length (G ++ b ∷ []) ≡ suc (length G)
one_longer [] b = refl
one_longer (x ∷ G) b = ap suc (one_longer G b)

last_at : (G : List Bool) (b : Bool) (i : ℕ) → length G ≡ i → slice_get (G ++ b ∷ []) i ≡ Some b
last_at [] b zero e = refl
last_at [] b (suc i) e = cc
last_at (x ∷ G) b zero e = cc
last_at (x ∷ G) b (suc i) e = last_at G b i (omega (arith, e))

plus_zero : (n : ℕ) → 0 + n ≡ n
plus_zero n = omega arith

module _ (c : Tables) (own : ℕ) where
  leads_on : (G : List Bool) (ns : List Node) (H : List Bool) (n : Node) (b : Bool) → Leads c own G ns H → IsPlaced c own H n b → Leads c own G (ns ++ n ∷ []) (H ++ b ∷ [])
  leads_on G [] H n b e placed = (b, subst (λ K. IsPlaced c own K n b) (sym e) placed, ap (λ K. K ++ b ∷ []) e)
  leads_on G (m ∷ ns) H n b leads placed = (leads.0, leads.1, leads_on (G ++ leads.0 ∷ []) ns H n b leads.2 placed)

  leads_length : (G : List Bool) (ns : List Node) (H : List Bool) → Leads c own G ns H → length H ≡ length G + length ns
  leads_length G [] H e = let q = ap (λ K. length K) e in omega (arith, q)
  leads_length G (n ∷ ns) H leads = let q = leads_length (G ++ leads.0 ∷ []) ns H leads.2 in let p = one_longer G leads.0 in omega (arith, p, q)

  leads_placed : (G : List Bool) (ns : List Node) (H : List Bool) (result : Node) → Leads c own G ns H → IsPlaced c own H result false → IsPlacedFrom c own G ns result
  leads_placed G [] H result e placed = subst (λ K. IsPlaced c own K result false) (sym e) placed
  leads_placed G (n ∷ ns) H result leads placed = (leads.0, leads.1, leads_placed (G ++ leads.0 ∷ []) ns H result leads.2 placed)

  -- with more locals things stay placed
  module _ (G H : List Bool) (up : Extends G H) where
    mutual
      thing_up : (x : Thing) → IsGood c own G x → IsGood c own H x
      thing_up (value v) good = weaken c own G H up v.node (is_of_members v.level) (is_of_members v.level) (λ w. w) good
      thing_up (period ms) good = tt
      thing_up (start ms) good = tt
      thing_up (offset ms) good = tt
      thing_up reader good = tt
      thing_up (nodes k) good = weaken_all c own G H up k.indices _ _ (λ w. w) good
      thing_up (scale n ms) good = tt
      thing_up (calculation n ms) good = tt
      thing_up (enumeration e) good = tt
      thing_up (choices e) good = tt
      thing_up (entity g) good = tt
      thing_up (role g r) good = good
      thing_up asker good = tt
      thing_up (method m r) good = good
      thing_up (group_count g) good = good
      thing_up library good = tt
      thing_up (function f) good = tt
      thing_up (option a) good = tt
      thing_up (text s) good = tt
      thing_up (listed xs) good = things_up xs good

      things_up : (xs : Things) → AreGood c own G xs → AreGood c own H xs
      things_up none good = tt
      things_up (more x xs) good = (thing_up x good.0, things_up xs good.1)

    locals_up : (ls : List Local) → LocalsGood c own G ls → LocalsGood c own H ls
    locals_up [] good = tt
    locals_up (l ∷ ls) good = (thing_up l.thing good.0, locals_up ls good.1)

abbrev IsKept : Tables → ℕ → List Bool → Kept → Type 0
IsKept c own G k = (H : List Bool) × Leads c own [] k.values H × Extends G H × IsGood c own H k.thing

kept-good : (c : Tables) (own : ℕ) (G : List Bool) (ns : List Node) (x : Thing) → Leads c own [] ns G → IsGood c own G x → OkIs (IsKept c own G) (kept x ns)
kept-good c own G ns (value v) leads good =
    let b = is_of_members v.level in
    (G ++ b ∷ [], leads_on c own [] ns G v.node b leads good, extended G b, (b, last_at G b (length ns) (leads_length c own [] ns G leads ∙ plus_zero (length ns)), λ w. w))
kept-good c own G ns (period ms) leads good = (G, leads, (λ i b e. e), good)
kept-good c own G ns (start ms) leads good = tt
kept-good c own G ns (offset ms) leads good = tt
kept-good c own G ns reader leads good = tt
kept-good c own G ns (nodes k) leads good = (G, leads, (λ i b e. e), good)
kept-good c own G ns (scale n ms) leads good = (G, leads, (λ i b e. e), good)
kept-good c own G ns (calculation n ms) leads good = tt
kept-good c own G ns (enumeration e) leads good = tt
kept-good c own G ns (choices e) leads good = (G, leads, (λ i b e. e), good)
kept-good c own G ns (entity g) leads good = tt
kept-good c own G ns (role g r) leads good = tt
kept-good c own G ns asker leads good = tt
kept-good c own G ns (method m r) leads good = tt
kept-good c own G ns (group_count g) leads good = tt
kept-good c own G ns library leads good = tt
kept-good c own G ns (function f) leads good = tt
kept-good c own G ns (option a) leads good = tt
kept-good c own G ns (text s) leads good = tt
kept-good c own G ns (listed xs) leads good = tt

-- Scopes

pub record IsScope (c : Tables) (own : ℕ) (s : Scope) : Type 0 where
  pub tables : s.names.tables ≡ c
  pub entity : s.names.entity ≡ own
  pub locals : List Bool
  pub leads : Leads s.names.tables s.names.entity [] s.values locals
  pub good : LocalsGood s.names.tables s.names.entity locals s.names.locals

small-is : {X : Type 0} (Q : X → Type 0) (size : Size) (x : X) → Q x → OkIs Q (if_small size x)
small-is Q size x q = if_is Q (is_small size) (Ok x) _ (λ _. q) (λ _. tt)

behind-scope : (s : Scope) (name : List ℕ) (e : Tree) → RolesFit s.names.tables → IsScope s.names.tables s.names.entity s → OkIs (IsScope s.names.tables s.names.entity) (behind_local s name e)
behind-scope s name e fit scope =
    let c = s.names.tables in
    let own = s.names.entity in
    let G = scope.locals in
    then_is (IsGood c own G) (IsScope c own) (thing_of s.names e) _ (thing-good s.names G fit scope.good e) (λ x good.
    then_is (IsKept c own G) (IsScope c own) (kept x s.values) _ (kept-good c own G s.values x scope.leads good) (λ k is.
    small-is (IsScope c own) (size_of s.sizes e) (with_local s name (size_of s.sizes e) k)
    (record { tables = refl; entity = refl; locals = is.0; leads = is.1; good = (is.3, locals_up c own G is.0 is.2 s.names.locals scope.good) })))

module _ (c : Tables) (own : ℕ) (G : List Bool) where
  entity-result : (l : Level) (n : Node) → IsPlaced c own G n (is_of_members l) → OkIs (λ m. IsPlaced c own G m false) (of_entity l n)
  entity-result level.Constant n placed = placed
  entity-result level.Own n placed = placed
  entity-result level.Members n placed = tt

returned-good : (s : Scope) (t : ValueType) (e : Tree) (G : List Bool) → RolesFit s.names.tables → LocalsGood s.names.tables s.names.entity G s.names.locals
    → OkIs (λ m. IsPlaced s.names.tables s.names.entity G m false) (returned s t e)
returned-good s t e G fit good =
    let c = s.names.tables in
    let own = s.names.entity in
    then_is (IsGood c own G) (λ m. IsPlaced c own G m false) (thing_of s.names e) _ (thing-good s.names G fit good e) (λ x a.
    then_is (IsGoodValue c own G) (λ m. IsPlaced c own G m false) (value_of x) _ (value-good c own G x a) (λ v b.
    then_is (IsGoodValue c own G) (λ m. IsPlaced c own G m false) (of_type t v) _ (if_is (IsGoodValue c own G) (returns t v.value_type) _ _ (λ _. b) (λ _. tt)) (λ u d.
    then_is (λ m. IsPlaced c own G m false) (λ m. IsPlaced c own G m false) (of_entity u.level u.node) _ (entity-result c own G u.level u.node d) (λ n is.
    small-is (λ m. IsPlaced c own G m false) (size_of s.sizes e) n is))))

-- Formulas

abbrev fine : {X : Type 0} → X → Result X RefusedFormula
fine x = Ok x

steps : {X Y : Type 0} (r : Result X RefusedFormula) (f : X → Result Y RefusedFormula) (y : Y) → and_then r f ≡ fine y → (x : X) × (r ≡ fine x) × (f x ≡ fine y)
steps (Ok x) f y e = (x, refl, e)
steps (Err k) f y e = cc

fine_same : {X : Type 0} (y x : X) → fine y ≡ fine x → y ≡ x
fine_same y x e = cc

is-there : {X : Type 0} (Q : X → Type 0) (i : ℕ) (r : Result X FormulaKind) (x : X) → at i r ≡ fine x → OkIs Q r → Q x
is-there Q i (Ok y) x e q = subst Q (fine_same y x e) q
is-there Q i (Err k) x e q = cc

from-placed : (c : Tables) (own : ℕ) → RolesFit c → (i : ℕ) (s : Scope) (t : ValueType) (ls : List Assigned) (e : Tree) (f : Formula) → IsScope c own s → formula_from i s t ls e ≡ fine f
    → IsPlacedFormula c own f
from-placed c own fit i s t [] e f scope h =
    let there = s.names.tables in
    let place = s.names.entity in
    let x = steps (at i (returned s t e)) _ f h in
    let fits : RolesFit there = subst RolesFit (sym scope.tables) fit in
    let q = is-there (λ m. IsPlaced there place scope.locals m false) i (returned s t e) x.0 x.1 (returned-good s t e scope.locals fits scope.good) in
    let r = leads_placed there place [] s.values scope.locals x.0 scope.leads q in
    let made = subst (λ g. IsPlacedFormula there place g) (fine_same (record { values = s.values; result = x.0 }) f x.2) r in
    subst (λ k. IsPlacedFormula k own f) scope.tables (subst (λ k. IsPlacedFormula there k f) scope.entity made)
from-placed c own fit i s t (l ∷ ls) e f scope h =
    let x = steps (at i (behind_local s l.name l.value)) _ f h in
    let fits : RolesFit s.names.tables = subst RolesFit (sym scope.tables) fit in
    let here : IsScope s.names.tables s.names.entity s = record { tables = refl; entity = refl; locals = scope.locals; leads = scope.leads; good = scope.good } in
    let q = is-there (IsScope s.names.tables s.names.entity) i (behind_local s l.name l.value) x.0 x.1 (behind-scope s l.name l.value fits here) in
    from-placed c own fit (suc i) x.0 t ls e f (record { tables = q.tables ∙ scope.tables; entity = q.entity ∙ scope.entity; locals = q.locals; leads = q.leads; good = q.good }) x.2

pub formula-placed : (n : Names) (t : ValueType) (ls : List Assigned) (e : Tree) (f : Formula) → RolesFit n.tables → n.locals ≡ [] → formula_of n t ls e ≡ Ok f → IsPlacedFormula n.tables n.entity f
formula-placed n t ls e f fit none_yet h =
    from-placed n.tables n.entity fit 0 (start_of n) t ls e f
    (record { tables = refl; entity = refl; locals = []; leads = refl; good = subst (λ k. LocalsGood n.tables n.entity [] k) (sym none_yet) tt }) h
