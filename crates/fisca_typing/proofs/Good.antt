-- What formulas stand for is typed.
use Rattle.std.proofs.Common.{◌≡◌, ℕ, List, length, Bool, true, false, refl, sym, subst, Option, Some, None}
use Rattle.std.specs.Prelude.{⊤, ◌==◌, if◌then◌else◌, Result, Ok, Err}
use Rattle.std.proofs.lemmas.Bool.{eqb-true}
use Rattle.std.proofs.Common.{eq-eqb}
use Rattle.fisca_num.specs.Results.{and_then}
use Rattle.fisca_ast.specs.declared.tree.Operator.{Operator}
use Rattle.fisca_ast.specs.declared.tree.Operator.TheVariants as operator
use Rattle.fisca_ast.specs.declared.tree.Comparison.{Comparison}
use Rattle.fisca_ast.specs.declared.tree.Comparison.TheVariants as cmp
use Rattle.fisca_ast.specs.declared.tree.Prefix.{Prefix}
use Rattle.fisca_ast.specs.declared.tree.Prefix.TheVariants as prefix
use Rattle.fisca_ast.specs.declared.fault.FormulaKind.{FormulaKind}
use Rattle.fisca_ast.specs.declared.fault.FormulaKind.TheVariants as kind
use Rattle.fisca_typing.specs.declared.kinds.Level.{Level}
use Rattle.fisca_typing.specs.declared.kinds.Level.TheVariants as level
use Rattle.fisca_model.specs.declared.value_type.ValueType.{ValueType}
use Rattle.fisca_model.specs.declared.value_type.ValueType.TheVariants as vt
use Rattle.fisca_typing.specs.declared.operations.Arithmetic.{Arithmetic}
use Rattle.fisca_typing.specs.declared.operations.Arithmetic.TheVariants as arithm
use Rattle.fisca_typing.specs.declared.operations.Logic.{Logic}
use Rattle.fisca_typing.specs.declared.operations.Logic.TheVariants as logic
use Rattle.fisca_typing.specs.declared.operations.Unary.{Unary}
use Rattle.fisca_typing.specs.declared.operations.Unary.TheVariants as unary
use Rattle.fisca_typing.specs.Nodes.{Node}
use Rattle.fisca_typing.specs.Operations.{Operation, on_bools_or_numbers, with_numbers, with_bools, operation, extreme, comparison_of_members, comparison_by, comparison_of, with_levels, operated, unary_type, is_just, unary_on, unary_of, prefixed_by, prefixed_value}
use Rattle.fisca_model.specs.Tables.{Tables}
use Rattle.fisca_typing.specs.Things.{Thing, Things, Typed, Chosen, Relation, value, period, start, offset, reader, nodes, scale, calculation, enumeration, choices, entity, role, asker, method, group_count, library, function, option, text, listed, none, more, value_of, nodes_of, things_of}
use Rattle.fisca_typing.specs.Types.{is_numeric, is_number, common, higher, is_of_members}
use Rattle.fisca_typing.specs.Wellformed.{Sort, Within, IsAskable, has_places, is_below, IsTyped, AreIndices, choices_of}
use Rattle.fisca_typing.proofs.Weaken.{weaken}

-- what a result is, if it is none of the faults
abbrev pub OkIs : {X : Type 0} → (X → Type 0) → Result X FormulaKind → Type 0
OkIs P (Ok x) = P x
OkIs P (Err k) = ⊤

pub then_is : {X Y : Type 0} (P : X → Type 0) (Q : Y → Type 0) (r : Result X FormulaKind) (f : X → Result Y FormulaKind) → OkIs P r → ((x : X) → P x → OkIs Q (f x)) → OkIs Q (and_then r f)
then_is P Q (Ok x) f is on = on x is
then_is P Q (Err k) f is on = tt

pub then_any : {X Y : Type 0} (Q : Y → Type 0) (r : Result X FormulaKind) (f : X → Result Y FormulaKind) → ((x : X) → OkIs Q (f x)) → OkIs Q (and_then r f)
then_any Q (Ok x) f on = on x
then_any Q (Err k) f on = tt

pub then_eq : {X Y : Type 0} (Q : Y → Type 0) (r : Result X FormulaKind) (f : X → Result Y FormulaKind) → ((x : X) → r ≡ Ok x → OkIs Q (f x)) → OkIs Q (and_then r f)
then_eq Q (Ok x) f on = on x refl
then_eq Q (Err k) f on = tt

pub if_is : {X : Type 0} (Q : X → Type 0) (b : Bool) (r s : Result X FormulaKind) → (b ≡ true → OkIs Q r) → (b ≡ false → OkIs Q s) → OkIs Q (if b then r else s)
if_is Q true r s one other = one refl
if_is Q false r s one other = other refl

abbrev pub IsGoodValue : Tables → List Sort → Typed → Type 0
IsGoodValue c G v = IsTyped c G v.node v.value_type (is_of_members v.level)

abbrev pub AreGoodNodes : Tables → List Sort → Chosen → Type 0
AreGoodNodes c G k = AreIndices c G k.indices (is_of_members k.level) × (length k.places ≡ choices_of k.indices)

-- a name behind the first argument asks for no one person after another
abbrev pub IsGoodRelation : Option Relation → Type 0
IsGoodRelation None = ⊤
IsGoodRelation (Some r) = IsAskable r.whom false

abbrev mutual
  pub IsGood : Tables → List Sort → Thing → Type 0
  IsGood c G (value v) = IsGoodValue c G v
  IsGood c G (period ms) = ⊤
  IsGood c G (start ms) = ⊤
  IsGood c G (offset ms) = ⊤
  IsGood c G reader = ⊤
  IsGood c G (nodes k) = AreGoodNodes c G k
  IsGood c G (scale n ms) = ⊤
  IsGood c G (calculation n ms) = ⊤
  IsGood c G (enumeration e) = ⊤
  IsGood c G (choices e) = ⊤
  IsGood c G (entity g) = ⊤
  IsGood c G (role g r) = ⊤
  IsGood c G asker = ⊤
  IsGood c G (method m r) = IsGoodRelation r
  IsGood c G (group_count g) = ⊤
  IsGood c G library = ⊤
  IsGood c G (function f) = ⊤
  IsGood c G (option a) = ⊤
  IsGood c G (text t) = ⊤
  IsGood c G (listed xs) = AreGood c G xs

  pub AreGood : Tables → List Sort → Things → Type 0
  AreGood c G none = ⊤
  AreGood c G (more x xs) = IsGood c G x × AreGood c G xs

pub value-good : (c : Tables) (G : List Sort) (x : Thing) → IsGood c G x → OkIs (IsGoodValue c G) (value_of x)
value-good c G (value v) good = good
value-good c G (period ms) good = tt
value-good c G (start ms) good = tt
value-good c G (offset ms) good = tt
value-good c G reader good = tt
value-good c G (nodes k) good = tt
value-good c G (scale n ms) good = tt
value-good c G (calculation n ms) good = tt
value-good c G (enumeration e) good = tt
value-good c G (choices e) good = tt
value-good c G (entity g) good = tt
value-good c G (role g r) good = tt
value-good c G asker good = tt
value-good c G (method m r) good = tt
value-good c G (group_count g) good = tt
value-good c G library good = tt
value-good c G (function f) good = tt
value-good c G (option a) good = tt
value-good c G (text t) good = tt
value-good c G (listed xs) good = tt

pub nodes-good : (c : Tables) (G : List Sort) (x : Thing) → IsGood c G x → OkIs (AreGoodNodes c G) (nodes_of x)
nodes-good c G (value v) good = tt
nodes-good c G (period ms) good = tt
nodes-good c G (start ms) good = tt
nodes-good c G (offset ms) good = tt
nodes-good c G reader good = tt
nodes-good c G (nodes k) good = good
nodes-good c G (scale n ms) good = tt
nodes-good c G (calculation n ms) good = tt
nodes-good c G (enumeration e) good = tt
nodes-good c G (choices e) good = tt
nodes-good c G (entity g) good = tt
nodes-good c G (role g r) good = tt
nodes-good c G asker good = tt
nodes-good c G (method m r) good = tt
nodes-good c G (group_count g) good = tt
nodes-good c G library good = tt
nodes-good c G (function f) good = tt
nodes-good c G (option a) good = tt
nodes-good c G (text t) good = tt
nodes-good c G (listed xs) good = tt

pub things-good : (c : Tables) (G : List Sort) (x : Thing) → IsGood c G x → OkIs (AreGood c G) (things_of x)
things-good c G (value v) good = tt
things-good c G (period ms) good = tt
things-good c G (start ms) good = tt
things-good c G (offset ms) good = tt
things-good c G reader good = tt
things-good c G (nodes k) good = tt
things-good c G (scale n ms) good = tt
things-good c G (calculation n ms) good = tt
things-good c G (enumeration e) good = tt
things-good c G (choices e) good = tt
things-good c G (entity g) good = tt
things-good c G (role g r) good = tt
things-good c G asker good = tt
things-good c G (method m r) good = tt
things-good c G (group_count g) good = tt
things-good c G library good = tt
things-good c G (function f) good = tt
things-good c G (option a) good = tt
things-good c G (text t) good = tt
things-good c G (listed xs) good = good

-- Levels

pub higher-left : (l m n : Level) → higher l m ≡ Ok n → Within (is_of_members l) (is_of_members n)
higher-left level.Constant m n e is = cc
higher-left level.Own level.Constant n e is = cc
higher-left level.Own level.Own n e is = cc
higher-left level.Own level.Members n e is = cc
higher-left level.Members level.Constant n e is = of_members n e where
  of_members : (n : Level) → higher level.Members level.Constant ≡ Ok n → is_of_members n ≡ true
  of_members level.Constant e = cc
  of_members level.Own e = cc
  of_members level.Members e = refl
higher-left level.Members level.Own n e is = cc
higher-left level.Members level.Members n e is = of_members n e where
  of_members : (n : Level) → higher level.Members level.Members ≡ Ok n → is_of_members n ≡ true
  of_members level.Constant e = cc
  of_members level.Own e = cc
  of_members level.Members e = refl

pub higher-right : (l m n : Level) → higher l m ≡ Ok n → Within (is_of_members m) (is_of_members n)
higher-right l level.Constant n e is = cc
higher-right l level.Own n e is = cc
higher-right level.Constant level.Members n e is = of_members n e where
  of_members : (n : Level) → higher level.Constant level.Members ≡ Ok n → is_of_members n ≡ true
  of_members level.Constant e = cc
  of_members level.Own e = cc
  of_members level.Members e = refl
higher-right level.Own level.Members n e is = cc
higher-right level.Members level.Members n e is = of_members n e where
  of_members : (n : Level) → higher level.Members level.Members ≡ Ok n → is_of_members n ≡ true
  of_members level.Constant e = cc
  of_members level.Own e = cc
  of_members level.Members e = refl

-- Operations

abbrev pub IsOperation : Tables → List Sort → ValueType → ValueType → Operation → Type 0
IsOperation c G s t o = (a b : Node) (p : Bool) → IsTyped c G a s p → IsTyped c G b t p → IsTyped c G (o.node a b) o.gives p

numbers-good : (c : Tables) (G : List Sort) (o : Arithmetic) (s t : ValueType) → is_numeric s ≡ true → is_numeric t ≡ true → OkIs (IsOperation c G s t) (with_numbers o)
numbers-good c G o s t p q = λ a b r x y. (refl, s, t, p, q, x, y)

bools-good : (c : Tables) (G : List Sort) (o : Logic) → OkIs (IsOperation c G vt.Bool vt.Bool) (with_bools o)
bools-good c G o = λ a b r x y. (refl, x, y)

on-good : (c : Tables) (G : List Sort) (bools numbers : Result Operation FormulaKind) (s t : ValueType) → OkIs (IsOperation c G vt.Bool vt.Bool) bools → (is_numeric s ≡ true → is_numeric t ≡ true → OkIs (IsOperation c G s t) numbers) → OkIs (IsOperation c G s t) (on_bools_or_numbers bools numbers s t)
on-good c G bools numbers vt.Number vt.Number b n = n refl refl
on-good c G bools numbers vt.Number vt.Bool b n = n refl refl
on-good c G bools numbers vt.Number (vt.Enum f) b n = tt
on-good c G bools numbers vt.Bool vt.Number b n = n refl refl
on-good c G bools numbers vt.Bool vt.Bool b n = b
on-good c G bools numbers vt.Bool (vt.Enum f) b n = tt
on-good c G bools numbers (vt.Enum e) t b n = tt

pub operation-good : (c : Tables) (G : List Sort) (o : Operator) (s t : ValueType) → OkIs (IsOperation c G s t) (operation o s t)
operation-good c G operator.Or s t = on-good c G _ _ s t (bools-good c G logic.Or) (λ p q. tt)
operation-good c G operator.And s t = on-good c G _ _ s t (bools-good c G logic.And) (λ p q. tt)
operation-good c G operator.Add s t = on-good c G _ _ s t (bools-good c G logic.Or) (numbers-good c G arithm.Add s t)
operation-good c G operator.Subtract s t = on-good c G _ _ s t tt (numbers-good c G arithm.Subtract s t)
operation-good c G operator.Multiply s t = on-good c G _ _ s t (bools-good c G logic.And) (numbers-good c G arithm.Multiply s t)
operation-good c G operator.Divide s t = on-good c G _ _ s t (numbers-good c G arithm.Divide vt.Bool vt.Bool refl refl) (numbers-good c G arithm.Divide s t)

pub extreme-good : (c : Tables) (G : List Sort) (o : Arithmetic) (s t : ValueType) → OkIs (IsOperation c G s t) (extreme o s t)
extreme-good c G o s t = on-good c G _ _ s t tt (numbers-good c G o s t)

members-good : (c : Tables) (G : List Sort) (o : Comparison) (e : ℕ) → OkIs (IsOperation c G (vt.Enum e) (vt.Enum e)) (comparison_of_members o)
members-good c G cmp.Less e = tt
members-good c G cmp.LessEqual e = tt
members-good c G cmp.Greater e = tt
members-good c G cmp.GreaterEqual e = tt
members-good c G cmp.Equal e = λ a b p x y. (refl, e, x, y)
members-good c G cmp.NotEqual e = λ a b p x y. (refl, refl, vt.Bool, refl, (refl, e, x, y))

enums-good : (c : Tables) (G : List Sort) (o : Comparison) (e f : ℕ) (b : Bool) → (e == f) ≡ b → OkIs (IsOperation c G (vt.Enum e) (vt.Enum f)) (and_then (if b then Ok (vt.Enum e) else Err kind.BadType) (comparison_by o))
enums-good c G o e f true same = subst (λ x. OkIs (IsOperation c G (vt.Enum e) (vt.Enum x)) (comparison_of_members o)) (eqb-true e f same) (members-good c G o e)
enums-good c G o e f false same = tt

pub comparison-good : (c : Tables) (G : List Sort) (o : Comparison) (s t : ValueType) → OkIs (IsOperation c G s t) (comparison_of o s t)
comparison-good c G o vt.Number vt.Number = λ a b p x y. (refl, vt.Number, vt.Number, refl, refl, x, y)
comparison-good c G o vt.Number vt.Bool = λ a b p x y. (refl, vt.Number, vt.Bool, refl, refl, x, y)
comparison-good c G o vt.Number (vt.Enum f) = tt
comparison-good c G o vt.Bool vt.Number = λ a b p x y. (refl, vt.Bool, vt.Number, refl, refl, x, y)
comparison-good c G o vt.Bool vt.Bool = λ a b p x y. (refl, vt.Bool, vt.Bool, refl, refl, x, y)
comparison-good c G o vt.Bool (vt.Enum f) = tt
comparison-good c G o (vt.Enum e) vt.Number = tt
comparison-good c G o (vt.Enum e) vt.Bool = tt
comparison-good c G o (vt.Enum e) (vt.Enum f) = enums-good c G o e f (e == f) refl

-- at a higher level
pub raised : (c : Tables) (G : List Sort) (v : Typed) (l : Level) → Within (is_of_members v.level) (is_of_members l) → IsGoodValue c G v → IsTyped c G v.node v.value_type (is_of_members l)
raised c G v l up good = weaken c G G (λ i s e. e) v.node v.value_type (is_of_members v.level) (is_of_members l) up good

levels-good : (c : Tables) (G : List Sort) (a b : Typed) (o : Operation) → IsGoodValue c G a → IsGoodValue c G b → IsOperation c G a.value_type b.value_type o → OkIs (IsGood c G) (with_levels a b o)
levels-good c G a b o x y is =
    then_eq (IsGood c G) (higher a.level b.level) _ (λ l e. is a.node b.node (is_of_members l) (raised c G a l (higher-left a.level b.level l e) x) (raised c G b l (higher-right a.level b.level l e) y))

pub operated-good : (c : Tables) (G : List Sort) (by : ValueType → ValueType → Result Operation FormulaKind) (x y : Thing) → ((s t : ValueType) → OkIs (IsOperation c G s t) (by s t)) → IsGood c G x → IsGood c G y → OkIs (IsGood c G) (operated by x y)
operated-good c G by x y are good too =
    then_is (IsGoodValue c G) (IsGood c G) (value_of x) _ (value-good c G x good) (λ a u. then_is (IsGoodValue c G) (IsGood c G) (value_of y) _ (value-good c G y too) (λ b w.
    then_is (IsOperation c G a.value_type b.value_type) (IsGood c G) (by a.value_type b.value_type) _ (are a.value_type b.value_type) (λ o is. levels-good c G a b o u w is)))

-- Operations on one value

just-is : (s t : ValueType) → is_just s t ≡ true → t ≡ s
just-is vt.Number vt.Number e = refl
just-is vt.Number vt.Bool e = cc
just-is vt.Number (vt.Enum f) e = cc
just-is vt.Bool vt.Number e = cc
just-is vt.Bool vt.Bool e = refl
just-is vt.Bool (vt.Enum f) e = cc
just-is (vt.Enum g) t e = cc

pub below-self : (t : ValueType) → is_below t t ≡ true
below-self vt.Number = refl
below-self vt.Bool = refl
below-self (vt.Enum e) = eq-eqb e e refl

pub unary_on-good : (c : Tables) (G : List Sort) (o : Unary) → has_places o ≡ true → (v : Typed) → IsGoodValue c G v → OkIs (IsGood c G) (unary_on o v)
unary_on-good c G o has v good =
    if_is (IsGood c G) (is_just (unary_type o) v.value_type) _ _ (λ e. let s = just-is (unary_type o) v.value_type e in
    (s, has, v.value_type, subst (λ x. is_below v.value_type x ≡ true) s (below-self v.value_type), good)) (λ _. tt)

pub unary-good : (c : Tables) (G : List Sort) (o : Unary) → has_places o ≡ true → (x : Thing) → IsGood c G x → OkIs (IsGood c G) (unary_of o x)
unary-good c G o has x good = then_is (IsGoodValue c G) (IsGood c G) (value_of x) _ (value-good c G x good) (unary_on-good c G o has)

prefixed_by-good : (c : Tables) (G : List Sort) (p : Prefix) (v : Typed) → IsGoodValue c G v → OkIs (IsGood c G) (prefixed_by p v)
prefixed_by-good c G prefix.Plus v good = if_is (IsGood c G) (is_number v.value_type) _ _ (λ _. good) (λ _. tt)
prefixed_by-good c G prefix.Minus v good = unary_on-good c G unary.Minus refl v good
prefixed_by-good c G prefix.Not v good = unary_on-good c G unary.Not refl v good

pub prefixed-good : (c : Tables) (G : List Sort) (p : Prefix) (x : Thing) → IsGood c G x → OkIs (IsGood c G) (prefixed_value p x)
prefixed-good c G p x good = then_is (IsGoodValue c G) (IsGood c G) (value_of x) _ (value-good c G x good) (prefixed_by-good c G p)

-- One or the other

abbrev pub fine : ValueType → Result ValueType FormulaKind
fine t = Ok t

common-is : (r t : ValueType) → fine r ≡ fine t → r ≡ t
common-is r t e = cc

common-enums : (e f : ℕ) (b : Bool) (t : ValueType) → (e == f) ≡ b → (if b then fine (vt.Enum e) else Err kind.BadType) ≡ fine t → (is_below (vt.Enum e) t ≡ true) × (is_below (vt.Enum f) t ≡ true)
common-enums e f true t same is =
    subst (λ x. (is_below (vt.Enum e) x ≡ true) × (is_below (vt.Enum f) x ≡ true)) (common-is (vt.Enum e) t is) (below-self (vt.Enum e), eq-eqb f e (sym (eqb-true e f same)))
common-enums e f false t same is = cc

pub common-below : (r s t : ValueType) → common r s ≡ fine t → (is_below r t ≡ true) × (is_below s t ≡ true)
common-below vt.Number vt.Number t e = subst (λ x. (is_below vt.Number x ≡ true) × (is_below vt.Number x ≡ true)) (common-is vt.Number t e) (refl, refl)
common-below vt.Number vt.Bool t e = subst (λ x. (is_below vt.Number x ≡ true) × (is_below vt.Bool x ≡ true)) (common-is vt.Number t e) (refl, refl)
common-below vt.Number (vt.Enum f) t e = cc
common-below vt.Bool vt.Number t e = subst (λ x. (is_below vt.Bool x ≡ true) × (is_below vt.Number x ≡ true)) (common-is vt.Number t e) (refl, refl)
common-below vt.Bool vt.Bool t e = subst (λ x. (is_below vt.Bool x ≡ true) × (is_below vt.Bool x ≡ true)) (common-is vt.Bool t e) (refl, refl)
common-below vt.Bool (vt.Enum f) t e = cc
common-below (vt.Enum g) vt.Number t e = cc
common-below (vt.Enum g) vt.Bool t e = cc
common-below (vt.Enum g) (vt.Enum f) t e = common-enums g f (g == f) t refl e
