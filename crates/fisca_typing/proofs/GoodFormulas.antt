-- Formulas with locals are typed.
use Rattle.std.proofs.Common.{◌≡◌, ℕ, zero, suc, ◌+◌, List, [], ◌∷◌, ◌++◌, length, true, refl, sym, ap, ◌∙◌, subst, eq-eqb, eqb-true, arith, Some}
use Rattle.std.specs.Prelude.{slice_get, Result, Ok, Err}
use Rattle.fisca_ast.specs.Tree.{Tree}
use Rattle.fisca_num.specs.Results.{and_then}
use Rattle.fisca_ast.specs.declared.fault.FormulaKind.{FormulaKind}
use Rattle.fisca_typing.specs.declared.kinds.Level.{Level}
use Rattle.fisca_typing.specs.declared.kinds.Level.TheVariants as level
use Rattle.fisca_model.specs.declared.value_type.ValueType.{ValueType}
use Rattle.fisca_model.specs.declared.value_type.ValueType.TheVariants as vt
use Rattle.fisca_typing.specs.Formulas.{Scope, start_of, Kept, kept, if_small, with_local, behind_local, returns, of_type, of_entity, returned, Assigned, Formula, RefusedFormula, at, formula_from, formula_of}
use Rattle.fisca_typing.specs.Names.{Names, Local}
use Rattle.fisca_typing.specs.Nodes.{Node}
use Rattle.fisca_typing.specs.Sizes.{Size, size_of, is_small}
use Rattle.fisca_model.specs.Tables.{Tables}
use Rattle.fisca_typing.specs.Things.{Thing, Things, Typed, value, period, start, offset, reader, nodes, scale, calculation, enumeration, choices, entity, role, asker, method, group_count, library, function, option, text, listed, none, more, value_of}
use Rattle.fisca_typing.specs.Types.{is_of_members}
use Rattle.fisca_typing.specs.Typing.{thing_of}
use Rattle.fisca_typing.specs.Wellformed.{Sort, is_below, before_cast, IsTyped, IsTypedFrom, IsTypedFormula}
use Rattle.fisca_typing.proofs.Good.{OkIs, then_is, if_is, IsGood, AreGood, IsGoodValue, value-good}
use Rattle.fisca_typing.proofs.GoodThings.{LocalsGood, thing-good}
use Rattle.fisca_typing.proofs.Weaken.{Extends, extended, weaken, weaken_all}

-- nodes, one after another, lead from the sorts of some locals to those of more
abbrev Leads : Tables → List Sort → List Node → List Sort → Type 0
Leads c G [] H = G ≡ H
Leads c G (n ∷ ns) H = (s : Sort) × IsTyped c G n s.value_type s.of_persons × Leads c (G ++ s ∷ []) ns H

leads-on : (c : Tables) (G : List Sort) (ns : List Node) (H : List Sort) (n : Node) (s : Sort) → Leads c G ns H → IsTyped c H n s.value_type s.of_persons → Leads c G (ns ++ n ∷ []) (H ++ s ∷ [])
leads-on c G [] H n s e typed = (s, subst (λ K. IsTyped c K n s.value_type s.of_persons) (sym e) typed, ap (λ K. K ++ s ∷ []) e)
leads-on c G (m ∷ ns) H n s leads typed = (leads.0, leads.1, leads-on c (G ++ leads.0 ∷ []) ns H n s leads.2 typed)

leads-length : (c : Tables) (G : List Sort) (ns : List Node) (H : List Sort) → Leads c G ns H → length H ≡ length G + length ns
leads-length c G [] H e = let q = ap (λ K. length K) e in omega (arith, q)
leads-length c G (n ∷ ns) H leads = let q = leads-length c (G ++ leads.0 ∷ []) ns H leads.2 in let p = one-longer G leads.0 in omega (arith, p, q) where
  one-longer : (G : List Sort) (s : Sort) → length (G ++ s ∷ []) ≡ suc (length G)
  one-longer [] s = refl
  one-longer (x ∷ G) s = ap suc (one-longer G s)

leads-typed : (c : Tables) (G : List Sort) (ns : List Node) (H : List Sort) (result : Node) (t : ValueType) → Leads c G ns H → IsTypedFrom c H [] result t → IsTypedFrom c G ns result t
leads-typed c G [] H result t e typed = subst (λ K. IsTypedFrom c K [] result t) (sym e) typed
leads-typed c G (n ∷ ns) H result t leads typed = (leads.0, leads.1, leads-typed c (G ++ leads.0 ∷ []) ns H result t leads.2 typed)

last-at : (G : List Sort) (s : Sort) (i : ℕ) → length G ≡ i → slice_get (G ++ s ∷ []) i ≡ Some s
last-at [] s zero e = refl
last-at [] s (suc i) e = cc
last-at (x ∷ G) s zero e = cc
last-at (x ∷ G) s (suc i) e = last-at G s i (omega (arith, e))

-- with more locals things stay typed
mutual
  thing-up : (c : Tables) (G H : List Sort) → Extends G H → (x : Thing) → IsGood c G x → IsGood c H x
  thing-up c G H up (value v) good = weaken c G H up v.node v.value_type (is_of_members v.level) (is_of_members v.level) (λ w. w) good
  thing-up c G H up (period ms) good = tt
  thing-up c G H up (start ms) good = tt
  thing-up c G H up (offset ms) good = tt
  thing-up c G H up reader good = tt
  thing-up c G H up (nodes k) good = (weaken_all c G H up k.indices _ _ (λ w. w) good.0, good.1)
  thing-up c G H up (scale n ms) good = tt
  thing-up c G H up (calculation n ms) good = tt
  thing-up c G H up (enumeration e) good = tt
  thing-up c G H up (choices e) good = tt
  thing-up c G H up (entity g) good = tt
  thing-up c G H up (role g r) good = tt
  thing-up c G H up asker good = tt
  thing-up c G H up (method m r) good = good
  thing-up c G H up (group_count g) good = tt
  thing-up c G H up library good = tt
  thing-up c G H up (function f) good = tt
  thing-up c G H up (option a) good = tt
  thing-up c G H up (text s) good = tt
  thing-up c G H up (listed xs) good = things-up c G H up xs good

  things-up : (c : Tables) (G H : List Sort) → Extends G H → (xs : Things) → AreGood c G xs → AreGood c H xs
  things-up c G H up none good = tt
  things-up c G H up (more x xs) good = (thing-up c G H up x good.0, things-up c G H up xs good.1)

locals-up : (c : Tables) (G H : List Sort) → Extends G H → (ls : List Local) → LocalsGood c G ls → LocalsGood c H ls
locals-up c G H up [] good = tt
locals-up c G H up (l ∷ ls) good = (thing-up c G H up l.thing good.0, locals-up c G H up ls good.1)

abbrev IsKept : Tables → List Sort → Kept → Type 0
IsKept c G k = (H : List Sort) × Leads c [] k.values H × Extends G H × IsGood c H k.thing

plus-zero : (n : ℕ) → 0 + n ≡ n
plus-zero n = omega arith

kept-good : (c : Tables) (G : List Sort) (ns : List Node) (x : Thing) → Leads c [] ns G → IsGood c G x → OkIs (IsKept c G) (kept x ns)
kept-good c G ns (value v) leads good =
    let s : Sort = record { value_type = v.value_type; of_persons = is_of_members v.level } in
    (G ++ s ∷ [], leads-on c [] ns G v.node s leads good, extended G s, (s, last-at G s (length ns) (leads-length c [] ns G leads ∙ plus-zero (length ns)), refl, λ w. w))
kept-good c G ns (period ms) leads good = (G, leads, (λ i s e. e), good)
kept-good c G ns (start ms) leads good = tt
kept-good c G ns (offset ms) leads good = tt
kept-good c G ns reader leads good = tt
kept-good c G ns (nodes k) leads good = (G, leads, (λ i s e. e), good)
kept-good c G ns (scale n ms) leads good = (G, leads, (λ i s e. e), good)
kept-good c G ns (calculation n ms) leads good = tt
kept-good c G ns (enumeration e) leads good = tt
kept-good c G ns (choices e) leads good = (G, leads, (λ i s e. e), good)
kept-good c G ns (entity g) leads good = tt
kept-good c G ns (role g r) leads good = tt
kept-good c G ns asker leads good = tt
kept-good c G ns (method m r) leads good = tt
kept-good c G ns (group_count g) leads good = tt
kept-good c G ns library leads good = tt
kept-good c G ns (function f) leads good = tt
kept-good c G ns (option a) leads good = tt
kept-good c G ns (text s) leads good = tt
kept-good c G ns (listed xs) leads good = tt

-- Scopes

abbrev IsScope : Tables → Scope → Type 0
IsScope c s = (s.names.tables ≡ c) × (G : List Sort) × Leads s.names.tables [] s.values G × LocalsGood s.names.tables G s.names.locals

small-is : {X : Type 0} (Q : X → Type 0) (size : Size) (x : X) → Q x → OkIs Q (if_small size x)
small-is Q size x q = if_is Q (is_small size) (Ok x) _ (λ _. q) (λ _. tt)

behind-scope : (s : Scope) (name : List ℕ) (e : Tree) → IsScope s.names.tables s → OkIs (IsScope s.names.tables) (behind_local s name e)
behind-scope s name e scope =
    let c = s.names.tables in
    then_is (IsGood c scope.1) (IsScope c) (thing_of s.names e) _ (thing-good s.names scope.1 scope.3 e) (λ x good.
    then_is (IsKept c scope.1) (IsScope c) (kept x s.values) _ (kept-good c scope.1 s.values x scope.2 good) (λ k is.
    small-is (IsScope c) (size_of s.sizes e) (with_local s name (size_of s.sizes e) k) (refl, is.0, is.1, (is.3, locals-up c scope.1 is.0 is.2 s.names.locals scope.3))))

returns-below : (t s : ValueType) → returns t s ≡ true → is_below s (before_cast t) ≡ true
returns-below vt.Number vt.Number r = refl
returns-below vt.Number vt.Bool r = refl
returns-below vt.Number (vt.Enum f) r = cc
returns-below vt.Bool vt.Number r = refl
returns-below vt.Bool vt.Bool r = refl
returns-below vt.Bool (vt.Enum f) r = cc
returns-below (vt.Enum e) vt.Number r = cc
returns-below (vt.Enum e) vt.Bool r = cc
returns-below (vt.Enum e) (vt.Enum f) r = eq-eqb f e (sym (eqb-true e f r))

abbrev IsResult : Tables → List Sort → ValueType → Node → Type 0
IsResult c G t n = IsTypedFrom c G [] n (before_cast t)

entity-result : (c : Tables) (G : List Sort) (t : ValueType) (l : Level) (s : ValueType) (n : Node) → is_below s (before_cast t) ≡ true → IsTyped c G n s (is_of_members l) → OkIs (IsResult c G t) (of_entity l n)
entity-result c G t level.Constant s n b typed = (s, b, typed)
entity-result c G t level.Own s n b typed = (s, b, typed)
entity-result c G t level.Members s n b typed = tt

abbrev IsOfType : Tables → List Sort → ValueType → Typed → Type 0
IsOfType c G t v = IsGoodValue c G v × (is_below v.value_type (before_cast t) ≡ true)

returned-good : (s : Scope) (t : ValueType) (e : Tree) (G : List Sort) → LocalsGood s.names.tables G s.names.locals → OkIs (IsResult s.names.tables G t) (returned s t e)
returned-good s t e G good =
    let c = s.names.tables in
    then_is (IsGood c G) (IsResult c G t) (thing_of s.names e) _ (thing-good s.names G good e) (λ x a.
    then_is (IsGoodValue c G) (IsResult c G t) (value_of x) _ (value-good c G x a) (λ v b.
    then_is (IsOfType c G t) (IsResult c G t) (of_type t v) _ (if_is (IsOfType c G t) (returns t v.value_type) _ _ (λ r. (b, returns-below t v.value_type r)) (λ _. tt)) (λ u d.
    then_is (IsResult c G t) (IsResult c G t) (of_entity u.level u.node) _ (entity-result c G t u.level u.value_type u.node d.1 d.0) (λ n is.
    small-is (IsResult c G t) (size_of s.sizes e) n is))))

-- Formulas

abbrev fine : {X : Type 0} → X → Result X RefusedFormula
fine x = Ok x

steps : {X Y : Type 0} (r : Result X RefusedFormula) (f : X → Result Y RefusedFormula) (y : Y) → and_then r f ≡ fine y → (x : X) × (r ≡ fine x) × (f x ≡ fine y)
steps (Ok x) f y e = (x, refl, e)
steps (Err k) f y e = cc

is-there : {X : Type 0} (Q : X → Type 0) (i : ℕ) (r : Result X FormulaKind) (x : X) → at i r ≡ fine x → OkIs Q r → Q x
is-there Q i (Ok y) x e q = subst Q (same y x e) q where
  same : {X : Type 0} (y x : X) → fine y ≡ fine x → y ≡ x
  same y x e = cc
is-there Q i (Err k) x e q = cc

formula-is : (f g : Formula) → fine f ≡ fine g → f ≡ g
formula-is f g e = cc

from-typed : (c : Tables) (i : ℕ) (s : Scope) (t : ValueType) (ls : List Assigned) (e : Tree) (f : Formula) → IsScope c s → formula_from i s t ls e ≡ fine f → IsTypedFormula c f (before_cast t)
from-typed c i s t [] e f scope h =
    let x = steps (at i (returned s t e)) _ f h in
    let q = is-there (IsResult s.names.tables scope.1 t) i (returned s t e) x.0 x.1 (returned-good s t e scope.1 scope.3) in
    let r = leads-typed s.names.tables [] s.values scope.1 x.0 (before_cast t) scope.2 q in
    subst (λ k. IsTypedFormula k f (before_cast t)) scope.0 (subst (λ g. IsTypedFormula s.names.tables g (before_cast t)) (formula-is (record { values = s.values; result = x.0 }) f x.2) r)
from-typed c i s t (l ∷ ls) e f scope h =
    let x = steps (at i (behind_local s l.name l.value)) _ f h in
    let q = is-there (IsScope s.names.tables) i (behind_local s l.name l.value) x.0 x.1 (behind-scope s l.name l.value (refl, scope.1, scope.2, scope.3)) in
    from-typed c (suc i) x.0 t ls e f (q.0 ∙ scope.0, q.1, q.2, q.3) x.2

pub formula-typed : (n : Names) (t : ValueType) (ls : List Assigned) (e : Tree) (f : Formula) → n.locals ≡ [] → formula_of n t ls e ≡ Ok f → IsTypedFormula n.tables f (before_cast t)
formula-typed n t ls e f none_yet h = from-typed n.tables 0 (start_of n) t ls e f (refl, [], refl, subst (λ k. LocalsGood n.tables [] k) (sym none_yet) tt) h
