-- What is asked for, and parameters, are typed.
use Rattle.std.proofs.Common.{◌≡◌, ℕ, suc, ◌+◌, ◌*◌, List, [], ◌∷◌, ◌++◌, length, Bool, true, false, refl, sym, ap, ◌∙◌, subst, arith, Option, Some, None}
use Rattle.std.specs.Prelude.{◌==◌, if◌then◌else◌, slice_get, ok_or, Result, Ok, Err}
use Rattle.std.specs.List.{list_all}
use Rattle.std.proofs.lemmas.List.{length-append}
use Rattle.fisca_ast.specs.Words.{is}
use Rattle.fisca_params.specs.Tree.{TreeNode}
use Rattle.fisca_params.specs.declared.content.NodeKind.{NodeKind}
use Rattle.fisca_params.specs.declared.content.NodeKind.TheVariants as found
use Rattle.fisca_ast.specs.declared.fault.FormulaKind.{FormulaKind}
use Rattle.fisca_ast.specs.declared.fault.FormulaKind.TheVariants as kind
use Rattle.fisca_model.specs.declared.role_place.RolePlace.{RolePlace}
use Rattle.fisca_typing.specs.declared.kinds.Level.{Level}
use Rattle.fisca_typing.specs.declared.kinds.Level.TheVariants as level
use Rattle.fisca_model.specs.declared.value_type.ValueType.{ValueType}
use Rattle.fisca_model.specs.declared.value_type.ValueType.TheVariants as vt
use Rattle.fisca_typing.specs.declared.moves.Move.{Move}
use Rattle.fisca_typing.specs.declared.operations.Method.{Method}
use Rattle.fisca_typing.specs.declared.operations.Method.TheVariants as method
use Rattle.fisca_typing.specs.declared.operations.Total.{Total}
use Rattle.fisca_typing.specs.Asks.{usable, variable_of, options_of, asked_type, asked, is_options, is_positional, asked_with, role_in, has_role_by, count_by, takes, total_of, role_by, total_by, settled_positions, method_by, begins_with_text, method_called}
use Rattle.fisca_typing.specs.Calls.{CallArgument, Positions, by_position, and_keyword, more_keywords, alone, settled, positions, calculation_by}
use Rattle.fisca_typing.specs.Names.{Names}
use Rattle.fisca_typing.specs.Nodes.{Node, Indices, no_index, index, behind}
use Rattle.fisca_typing.specs.Operations.{numeric_of}
use Rattle.fisca_typing.specs.Parameters.{is_number, is_bool, is_node, kinds_at, of_one_kind, chosen_thing, thing_chosen, child_named, children_named, children_below, root_at, node_attribute, enum_by, subscripted}
use Rattle.fisca_model.specs.Tables.{Tables, Variable, first_where, variable_named, members_at}
use Rattle.fisca_typing.specs.Things.{Thing, Typed, Chosen, Relation, value_of, text_of, period_of, role_of}
use Rattle.fisca_typing.specs.Types.{is_numeric, is_of_members, higher}
use Rattle.fisca_model.specs.Tables.{variable_type, type_in}
use Rattle.fisca_typing.specs.Wellformed.{Sort, IsAskable, IsTyped, AreIndices, choices_of}
use Rattle.fisca_typing.proofs.Good.{OkIs, then_is, then_any, then_eq, if_is, IsGood, IsGoodRelation, IsGoodValue, AreGoodNodes, value-good, higher-left, higher-right, raised}
use Rattle.fisca_typing.proofs.GoodCalls.{ok, AllGiven, GoodPositions, IsSettled, settled-good, positions-good, alone-good}
use Rattle.fisca_typing.proofs.Weaken.{weaken_all}

-- Parameters

one_kind-good : (c : Tables) (G : List Sort) (k : Chosen) → AreGoodNodes c G k → OkIs (IsGood c G) (of_one_kind k (kinds_at c.nodes k.places))
one_kind-good c G k good =
    if_is (IsGood c G) (list_all is_number (kinds_at c.nodes k.places)) _ _ (λ e. (e, good.1, good.0)) (λ _.
    if_is (IsGood c G) (list_all is_bool (kinds_at c.nodes k.places)) _ _ (λ e. (e, good.1, good.0)) (λ _.
    if_is (IsGood c G) (list_all is_node (kinds_at c.nodes k.places)) _ _ (λ _. good) (λ _. tt)))

chosen-good : (c : Tables) (G : List Sort) (k : Chosen) (is : Indices) (places : List ℕ) (ks : List NodeKind) → OkIs (IsGood c G) (of_one_kind k ks) → OkIs (IsGood c G) (chosen_thing k is places ks)
chosen-good c G k (index n size is) places ks good = good
chosen-good c G k no_index [] ks good = good
chosen-good c G k no_index (p ∷ q ∷ places) ks good = good
chosen-good c G k no_index (p ∷ []) [] good = good
chosen-good c G k no_index (p ∷ []) (found.Node ∷ ks) good = good
chosen-good c G k no_index (p ∷ []) (found.Number ∷ ks) good = good
chosen-good c G k no_index (p ∷ []) (found.Bool ∷ ks) good = good
chosen-good c G k no_index (p ∷ []) (found.Unusable ∷ ks) good = good
chosen-good c G k no_index (p ∷ []) (found.Scale ∷ []) good = tt
chosen-good c G k no_index (p ∷ []) (found.Scale ∷ x ∷ ks) good = good

thing_chosen-good : (c : Tables) (G : List Sort) (k : Chosen) → AreGoodNodes c G k → OkIs (IsGood c G) (thing_chosen c.nodes k)
thing_chosen-good c G k good = chosen-good c G k k.indices k.places (kinds_at c.nodes k.places) (one_kind-good c G k good)

abbrev HasLength : ℕ → List ℕ → Type 0
HasLength n ps = length ps ≡ n

named-length : (ns : List TreeNode) (place : ℕ) (ts : List (List ℕ)) → OkIs (HasLength (length ts)) (children_named ns place ts)
named-length ns place [] = refl
named-length ns place (t ∷ ts) =
    then_any (HasLength (suc (length ts))) (child_named ns place t) _ (λ p. then_is (HasLength (length ts)) (HasLength (suc (length ts))) (children_named ns place ts) _ (named-length ns place ts) (λ ps e. ap suc e))

joined-length : (ps qs : List ℕ) (m n : ℕ) → length ps ≡ m → length qs ≡ n * m → length (ps ++ qs) ≡ suc n * m
joined-length ps qs m n p q = let e = length-append ps qs in omega (arith, e, p, q)

below-length : (ns : List TreeNode) (places : List ℕ) (ts : List (List ℕ)) → OkIs (HasLength (length places * length ts)) (children_below ns places ts)
below-length ns [] ts = omega arith
below-length ns (p ∷ places) ts =
    then_is (HasLength (length ts)) (HasLength (suc (length places) * length ts)) (children_named ns p ts) _ (named-length ns p ts) (λ ps e.
    then_is (HasLength (length places * length ts)) (HasLength (suc (length places) * length ts)) (children_below ns places ts) _ (below-length ns places ts) (λ qs f.
    joined-length ps qs (length ts) (length places) e f))

pub root-good : (c : Tables) (G : List Sort) (ms : List Move) → OkIs (IsGood c G) (root_at c.nodes ms)
root-good c G ms = thing_chosen-good c G (record { level = level.Constant; indices = no_index; places = 0 ∷ []; moves = ms }) (tt, refl)

pub node_attribute-good : (c : Tables) (G : List Sort) (t : List ℕ) (k : Chosen) → AreGoodNodes c G k → OkIs (IsGood c G) (node_attribute c.nodes t k)
node_attribute-good c G t k good =
    then_is (HasLength (length k.places * 1)) (IsGood c G) (children_below c.nodes k.places (t ∷ [])) _ (below-length c.nodes k.places (t ∷ [])) (λ ps e.
    thing_chosen-good c G (record k { places = ps }) (good.0, omega (arith, e, good.1)))

behind-good : (c : Tables) (G : List Sort) (is : Indices) (n : Node) (e : ℕ) (p : Bool) → AreIndices c G is p → IsTyped c G n (vt.Enum e) p → AreIndices c G (behind is n (length (members_at c e))) p
behind-good c G no_index n e p all typed = (e, refl, typed, tt)
behind-good c G (index m s is) n e p all typed = (all.0, all.1, all.2, behind-good c G is n e p all.3 typed)

regrouped : (s k n : ℕ) → s * (k * n) ≡ s * k * n
regrouped s k n = omega arith

behind-choices : (is : Indices) (n : Node) (size : ℕ) → choices_of (behind is n size) ≡ choices_of is * size
behind-choices no_index n size = omega arith
behind-choices (index m s is) n size = ap (λ x. s * x) (behind-choices is n size) ∙ regrouped s (choices_of is) size

enum-is : (t : ValueType) (e : ℕ) → enum_by t ≡ ok e → t ≡ vt.Enum e
enum-is vt.Number e h = cc
enum-is vt.Bool e h = cc
enum-is (vt.Enum f) e h = cc

pub subscripted-good : (c : Tables) (G : List Sort) (k : Chosen) (i : Typed) → AreGoodNodes c G k → IsGoodValue c G i → OkIs (IsGood c G) (subscripted c k i)
subscripted-good c G k i good typed =
    then_eq (IsGood c G) (enum_by i.value_type) _ (λ e h. then_eq (IsGood c G) (higher k.level i.level) _ (λ l u.
    then_is (HasLength (length k.places * length (members_at c e))) (IsGood c G) (children_below c.nodes k.places (members_at c e)) _ (below-length c.nodes k.places (members_at c e)) (λ ps n.
    thing_chosen-good c G _ (
      behind-good c G k.indices i.node e (is_of_members l) (weaken_all c G G (λ j s q. q) k.indices _ _ (higher-left k.level i.level l u) good.0)
          (subst (λ x. IsTyped c G i.node x (is_of_members l)) (enum-is i.value_type e h) (raised c G i l (higher-right k.level i.level l u) typed)),
      n ∙ (ap (λ x. x * length (members_at c e)) good.1 ∙ sym (behind-choices k.indices i.node (length (members_at c e)))),
    ))))

-- Variables

some-is : {X : Type 0} (p q : ℕ × X) → Some p ≡ Some q → p ≡ q
some-is p q e = cc

abbrev pub StandsAt : {X : Type 0} → List X → ℕ → ℕ × X → Type 0
StandsAt xs k p = (j : ℕ) × (p.0 ≡ k + j) × (slice_get xs j ≡ Some p.1)

first-by : {X : Type 0} (b : Bool) (k : ℕ) (x : X) (p : ℕ × X) (o : Option (ℕ × X)) (xs : List X) → (if b then Some (k, x) else o) ≡ Some p → (o ≡ Some p → StandsAt xs (suc k) p) → StandsAt (x ∷ xs) k p
first-by true k x p o xs e rest = subst (λ r. StandsAt (x ∷ xs) k r) (some-is (k, x) p e) (0, omega arith, refl)
first-by false k x p o xs e rest = let r = rest e in (suc r.0, omega (arith, r.1), r.2)

pub first-at : {X : Type 0} (is : X → Bool) (k : ℕ) (xs : List X) (p : ℕ × X) → first_where is k xs ≡ Some p → StandsAt xs k p
first-at is k [] p e = cc
first-at is k (x ∷ xs) p e = first-by (is x) k x p (first_where is (suc k) xs) xs e (λ h. first-at is (suc k) xs p h)

abbrev IsVariable : Tables → ℕ × ValueType → Type 0
IsVariable c f = variable_type c f.0 ≡ Some f.1

usable-good : (c : Tables) (entity : ℕ) (v : ℕ × Variable) (o : Option ValueType) → variable_type c v.0 ≡ o → OkIs (IsVariable c) (usable entity v o)
usable-good c entity v None e = tt
usable-good c entity v (Some t) e = if_is (IsVariable c) (v.1.entity == entity) _ _ (λ _. e) (λ _. tt)

there : {X : Type 0} (o : Option X) (k : FormulaKind) (x : X) → ok_or o k ≡ ok x → o ≡ Some x
there None k x e = cc
there (Some y) k x e = cc

type-at : (c : Tables) (v : ℕ × Variable) → StandsAt c.variables 0 v → variable_type c v.0 ≡ v.1.value_type
type-at c v at = ap (λ i. variable_type c i) (let e = at.1 in omega (arith, e)) ∙ ap type_in at.2

variable_of-good : (c : Tables) (entity : ℕ) (x : Thing) → OkIs (IsVariable c) (variable_of c entity x)
variable_of-good c entity x =
    then_any (IsVariable c) (text_of x) _ (λ t. then_eq (IsVariable c) (ok_or (variable_named c t) kind.UnknownVariable) _ (λ v e.
    usable-good c entity v v.1.value_type (type-at c v (first-at _ 0 c.variables v (there (variable_named c t) kind.UnknownVariable v e)))))

asked-good : (c : Tables) (G : List Sort) (r : Relation) (l : Level) (v p : CallArgument) (o : Option (Result Thing FormulaKind)) → IsAskable r.whom (is_of_members l) → OkIs (IsGood c G) (asked c r l v p o)
asked-good c G r l v p o ask =
    then_any (IsGood c G) v.thing _ (λ x. then_is (IsVariable c) (IsGood c G) (variable_of c r.entity x) _ (variable_of-good c r.entity x) (λ f known.
    then_any (IsGood c G) p.thing _ (λ y. then_any (IsGood c G) (period_of y) _ (λ ms. then_any (IsGood c G) (options_of o) _ (λ how.
    then_eq (IsGood c G) (asked_type how f.1) _ (λ t e. (f.1, known, e, ask)))))))

pub asked_with-good : (c : Tables) (G : List Sort) (r : Relation) (l : Level) (gs : List CallArgument) → IsAskable r.whom (is_of_members l) → OkIs (IsGood c G) (asked_with c r l gs)
asked_with-good c G r l [] ask = tt
asked_with-good c G r l (v ∷ []) ask = tt
asked_with-good c G r l (v ∷ p ∷ []) ask =
    if_is (IsGood c G) (is_positional v.keyword) _ _ (λ _. if_is (IsGood c G) (is_positional p.keyword) _ _ (λ _. asked-good c G r l v p None ask) (λ _. tt)) (λ _. tt)
asked_with-good c G r l (v ∷ p ∷ o ∷ []) ask =
    if_is (IsGood c G) (is_positional v.keyword) _ _ (λ _. if_is (IsGood c G) (is_positional p.keyword) _ _ (λ _.
    if_is (IsGood c G) (is_options o.keyword) _ _ (λ _. asked-good c G r l v p (Some o.thing) ask) (λ _. tt)) (λ _. tt)) (λ _. tt)
asked_with-good c G r l (v ∷ p ∷ o ∷ q ∷ gs) ask = tt

-- Methods

has_role-good : (c : Tables) (G : List Sort) (l : Level) (ps : Positions) → OkIs (IsGood c G) (has_role_by l ps)
has_role-good c G l ps = then_any (IsGood c G) (alone ps) _ (λ s. then_any (IsGood c G) (role_of s.thing) _ (λ r. refl))

pub count-good : (c : Tables) (G : List Sort) (entity : ℕ) (ps : Positions) → OkIs (IsGood c G) (count_by entity ps)
count-good c G entity (by_position []) = refl
count-good c G entity (by_position (s ∷ [])) = then_any (IsGood c G) (role_in entity s.thing) _ (λ r. refl)
count-good c G entity (by_position (s ∷ t ∷ ss)) = tt
count-good c G entity (and_keyword ss k x) = tt
count-good c G entity more_keywords = tt

role-taken : {X : Type 0} (b : Bool) (r : Result X FormulaKind) (x : X) → (if b then r else Err kind.BadType) ≡ ok x → b ≡ true
role-taken true r x e = refl
role-taken false r x e = cc

total_of-good : (c : Tables) (G : List Sort) (t : Total) (x : Thing) (role : Result (Option RolePlace) FormulaKind) → IsGood c G x → OkIs (IsGood c G) (total_of t x role)
total_of-good c G t x role good =
    then_is (IsGoodValue c G) (IsGood c G) (value_of x) _ (value-good c G x good) (λ v typed.
    then_eq (IsGood c G) (if takes t v.value_type then role else Err kind.BadType) _ (λ r e. if_is (IsGood c G) (is_of_members v.level) _ _ (λ m.
    (refl, v.value_type, role-taken (takes t v.value_type) role r e, subst (λ p. IsTyped c G v.node v.value_type p) m typed)) (λ _. tt)))

total-good : (c : Tables) (G : List Sort) (entity : ℕ) (t : Total) (ps : Positions) → GoodPositions c G ps → OkIs (IsGood c G) (total_by entity t ps)
total-good c G entity t (by_position []) good = tt
total-good c G entity t (by_position (m ∷ [])) good = total_of-good c G t m.thing (Ok None) good.0
total-good c G entity t (by_position (m ∷ n ∷ ss)) good = tt
total-good c G entity t (and_keyword [] k x) good = tt
total-good c G entity t (and_keyword (m ∷ []) k x) good = total_of-good c G t m.thing (role_by entity k x) good.0.0
total-good c G entity t (and_keyword (m ∷ n ∷ ss) k x) good = tt
total-good c G entity t more_keywords good = tt

pub settled_positions-good : (c : Tables) (G : List Sort) (gs : List CallArgument) (f : Positions → Result Thing FormulaKind) → AllGiven c G gs → ((ps : Positions) → GoodPositions c G ps → OkIs (IsGood c G) (f ps)) → OkIs (IsGood c G) (settled_positions gs f)
settled_positions-good c G gs f good on = then_is _ (IsGood c G) (settled gs) _ (settled-good c G gs good) (λ ss a. on (positions ss) (positions-good c G ss a))

method_by-good : (c : Names) (G : List Sort) (m : Method) (gs : List CallArgument) → AllGiven c.tables G gs → OkIs (IsGood c.tables G) (method_by c m gs)
method_by-good c G method.HasRole gs good = settled_positions-good c.tables G gs _ good (λ ps _. has_role-good c.tables G level.Own ps)
method_by-good c G method.EachHasRole gs good = settled_positions-good c.tables G gs _ good (λ ps _. has_role-good c.tables G level.Members ps)
method_by-good c G method.Members gs good = asked_with-good c.tables G _ level.Members gs refl
method_by-good c G (method.Total t) gs good = settled_positions-good c.tables G gs _ good (λ ps a. total-good c.tables G c.entity t ps a)
method_by-good c G method.Count gs good = settled_positions-good c.tables G gs _ good (λ ps _. count-good c.tables G c.entity ps)

pub method_called-good : (c : Names) (G : List Sort) (m : Option Method) (r : Option Relation) (gs : List CallArgument) → IsGoodRelation r → AllGiven c.tables G gs → OkIs (IsGood c.tables G) (method_called c m r gs)
method_called-good c G None None gs ask good = tt
method_called-good c G None (Some r) gs ask good = asked_with-good c.tables G r level.Own gs ask
method_called-good c G (Some m) None gs ask good = method_by-good c G m gs good
method_called-good c G (Some m) (Some r) gs ask good =
    if_is (IsGood c.tables G) (begins_with_text gs) _ _ (λ _. asked_with-good c.tables G r level.Own gs ask) (λ _. method_by-good c G m gs good)

-- `scale.calc(x)`
numeric-of : (c : Tables) (G : List Sort) (x : Thing) → IsGood c G x → OkIs (λ v. IsGoodValue c G v × (is_numeric v.value_type ≡ true)) (numeric_of x)
numeric-of c G x good =
    then_is (IsGoodValue c G) _ (value_of x) _ (value-good c G x good) (λ v a. if_is (λ v. IsGoodValue c G v × (is_numeric v.value_type ≡ true)) (is_numeric v.value_type) _ _ (λ e. (a, e)) (λ _. tt))

pub calculation-good : (c : Tables) (G : List Sort) (place : ℕ) (ms : List Move) (ps : Positions) → GoodPositions c G ps → OkIs (IsGood c G) (calculation_by place ms ps)
calculation-good c G place ms ps good =
    then_is (IsSettled c G) (IsGood c G) (alone ps) _ (alone-good c G ps good) (λ s a.
    then_is (λ v. IsGoodValue c G v × (is_numeric v.value_type ≡ true)) (IsGood c G) (numeric_of s.thing) _ (numeric-of c G s.thing a) (λ v b. (refl, v.value_type, b.1, b.0)))
