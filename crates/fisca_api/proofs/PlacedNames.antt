-- What expressions of formulas stand for is placed: variables, roles, totals and names.
use Rattle.std.proofs.Common.{◌≡◌, ℕ, suc, ◌+◌, List, [], ◌∷◌, Bool, true, false, refl, sym, ◌∙◌, ap, subst, arith, Option, Some, None, inl, inr}
use Rattle.std.specs.Prelude.{⊤, ◌==◌, ◌&&◌, not, if◌then◌else◌, ok_or, option_map, slice_get, Result, Ok, Err, codes}
use Rattle.std.specs.List.{position_from}
use Rattle.std.specs.Str.{bytes_eq}
use Rattle.std.proofs.lemmas.Bool.{eqb-true, true≢false}
use Rattle.fisca_ast.specs.Tree.{Tree, Series, Argument}
use Rattle.fisca_ast.specs.Tree as tree
use Rattle.fisca_ast.specs.Words.{is}
use Rattle.fisca_ast.specs.declared.fault.FormulaKind.{FormulaKind}
use Rattle.fisca_ast.specs.declared.fault.FormulaKind.TheVariants as kind
use Rattle.fisca_ast.specs.declared.tree.Delimiter.{Delimiter}
use Rattle.fisca_ast.specs.declared.tree.Delimiter.TheVariants as bracket
use Rattle.fisca_ast.specs.declared.tree.Suffix.{Suffix}
use Rattle.fisca_ast.specs.declared.tree.Suffix.TheVariants as suffix
use Rattle.fisca_typing.proofs.Good.{OkIs, if_is, then_any, then_eq, then_is}
use Rattle.fisca_typing.proofs.GoodAsks.{StandsAt, first-at}
use Rattle.fisca_model.specs.Tables.{Entity, Tables, Variable, if_single, is_group_of, is_person_at, member_named, otherwise, place_in, role_of_constant, role_of_key, roles_at, roles_of, variable_named}
use Rattle.fisca_model.specs.declared.role_place.RolePlace.{RolePlace}
use Rattle.fisca_model.specs.declared.value_type.ValueType.{ValueType}
use Rattle.fisca_model.specs.declared.value_type.ValueType.TheVariants as vt
use Rattle.fisca_num.specs.Literal.{number_of_literal}
use Rattle.fisca_num.specs.Number.{Number}
use Rattle.fisca_num.specs.declared.faults.NumFault.{NumFault}
use Rattle.fisca_api.proofs.Placed.{IsCounted, IsFor, IsGroup, IsPlaced, RolesFit}
use Rattle.fisca_api.proofs.PlacedThings.{AllGiven, AreGood, AreGoodNodes, GoodPositions, IsGood, IsGoodMethod, IsGoodRelation, IsGoodValue, alone-good, comparison-good, function-good, node_attribute-good, nodes-good, numeric_then, ok, operated-good, operation-good, prefixed-good, root-good, settled_then, subscripted-good, value-good}
use Rattle.fisca_typing.specs.Asks.{asked, asked_type, asked_with, asker_attribute, begins_with_text, count_behind, count_by, group_led_to, group_method, group_of_whom, has_role_by, is_members, is_options, is_positional as is_by_position, method_attribute, method_by, method_called, method_named, options_of, person_method, relation_named, role_by, role_in, settled_positions, some_method, takes, to_group, to_holder, to_person, to_self, total_by, total_of, usable, variable_of}
use Rattle.fisca_typing.specs.Calls.{CallArgument, Positions, and_keyword, alone, by_position, calculation_by, function_by, more_keywords, offset_of, reader_by, settled}
use Rattle.fisca_typing.specs.Names.{Local, Names, added_function, added_word, argument_named, declared, has_name, known_word, library_function, local_named, named}
use Rattle.fisca_typing.specs.Operations.{comparison_of, operation}
use Rattle.fisca_typing.specs.Periods.{period_attribute, start_attribute, unit_named, whole}
use Rattle.fisca_typing.specs.Things.{Relation, Thing, asker, calculation, choices, entity, enumeration, function as function_thing, group_count, instant_of, library, listed, method, nodes, nodes_of, none, offset, option, period, period_of, reader, role, role_of, scale, start, text, text_of, value, value_of}
use Rattle.fisca_typing.specs.Types.{is_of_members}
use Rattle.fisca_typing.specs.Typing.{all_given, attribute_of, called, elements, given_of, in_brackets, is_positional, member_at, not_called, number_thing, only, role_at, thing_of, value_attribute, with_suffix}
use Rattle.fisca_typing.specs.declared.asking.Whom.{Whom}
use Rattle.fisca_typing.specs.declared.asking.Whom.TheVariants as whom
use Rattle.fisca_typing.specs.declared.kinds.Level.{Level}
use Rattle.fisca_typing.specs.declared.kinds.Level.TheVariants as level
use Rattle.fisca_typing.specs.declared.moves.Move.{Move}
use Rattle.fisca_typing.specs.declared.operations.Function.{Function}
use Rattle.fisca_typing.specs.declared.operations.Method.{Method}
use Rattle.fisca_typing.specs.declared.operations.Method.TheVariants as method_of
use Rattle.fisca_typing.specs.declared.operations.Total.{Total}

-- Places

some-is : {X : Type 0} (p q : X) → Some p ≡ Some q → p ≡ q
some-is p q e = cc

-- the item at a place passes the test
abbrev Passes : {X : Type 0} → (X → Bool) → List X → ℕ → ℕ → Type 0
Passes {X} is xs k i = (j : ℕ) × (x : X) × (i ≡ k + j) × (slice_get xs j ≡ Some x) × (is x ≡ true)

position-by : {X : Type 0} (is : X → Bool) (b : Bool) (k i : ℕ) (x : X) (o : Option ℕ) (xs : List X) → is x ≡ b → (if b then Some k else o) ≡ Some i → (o ≡ Some i → Passes is xs (k + 1) i) → Passes is (x ∷ xs) k i
position-by is true k i x o xs same e rest = let q = some-is k i e in (0, x, omega (arith, q), refl, same)
position-by is false k i x o xs same e rest = let r = rest e in (suc r.0, r.1, omega (arith, r.2), r.3, r.4)

position-at : {X : Type 0} (is : X → Bool) (k : ℕ) (xs : List X) (i : ℕ) → position_from is k xs ≡ Some i → Passes is xs k i
position-at is k [] i e = cc
position-at is k (x ∷ xs) i e = position-by is (is x) k i x (position_from is (k + 1) xs) xs refl e (position-at is (k + 1) xs i)

there : {X : Type 0} (o : Option X) (k : FormulaKind) (x : X) → ok_or o k ≡ ok x → o ≡ Some x
there None k x e = cc
there (Some y) k x e = cc

no_person : (b d : Bool) → (not b && d) ≡ true → b ≡ false
no_person true d e = cc
no_person false d e = refl

-- a group of this name is a group
group_named : (c : Tables) (t : List ℕ) (g : ℕ) → place_in (is_group_of t) c.entities ≡ Some g → IsGroup c g
group_named c t g e =
    let at = position-at (is_group_of t) 0 c.entities g e in
    let place : g ≡ at.0 = omega (arith, at.2) in
    record { entity = at.1; there = ap (slice_get c.entities) place ∙ at.3; group = no_person at.1.is_person (bytes_eq at.1.key t) at.4 }

-- who has roles is a group
roles_of_group : (c : Tables) (g : ℕ) (r : RolePlace) (t : List ℕ) (o : Option Entity) → slice_get c.entities g ≡ o → RolesFit c → role_of_constant (roles_of o) t ≡ Some r → IsGroup c g
roles_of_group c g r t None is fit e = cc
roles_of_group c g r t (Some x) is fit e = by x.is_person refl
  where
    by : (b : Bool) → x.is_person ≡ b → IsGroup c g
    by true person =
        let none : x.roles ≡ [] = fit g x is person in
        let nothing : None ≡ Some r = ap (λ roles. role_of_constant roles t) (sym none) ∙ e in
        absurd (cc)
    by false group = record { entity = x; there = is; group = group }

-- Variables

abbrev IsVariable : Tables → ℕ → ℕ × ValueType → Type 0
IsVariable c e f = (x : Variable) × (slice_get c.variables f.0 ≡ Some x) × (x.entity ≡ e)

usable-good : (c : Tables) (e : ℕ) (v : ℕ × Variable) (o : Option ValueType) → slice_get c.variables v.0 ≡ Some v.1 → OkIs (IsVariable c e) (usable e v o)
usable-good c e v None there = tt
usable-good c e v (Some t) there = if_is (IsVariable c e) (v.1.entity == e) _ _ (λ same. (v.1, there, eqb-true v.1.entity e same)) (λ _. tt)

variable-at : (c : Tables) (v : ℕ × Variable) → StandsAt c.variables 0 v → slice_get c.variables v.0 ≡ Some v.1
variable-at c v at = ap (λ i. slice_get c.variables i) (let e = at.1 in omega (arith, e)) ∙ at.2

variable_of-good : (c : Tables) (e : ℕ) (x : Thing) → OkIs (IsVariable c e) (variable_of c e x)
variable_of-good c e x =
    then_any (IsVariable c e) (text_of x) _ (λ t. then_eq (IsVariable c e) (ok_or (variable_named c t) kind.UnknownVariable) _ (λ v h.
    usable-good c e v v.1.value_type (variable-at c v (first-at _ 0 c.variables v (there (variable_named c t) kind.UnknownVariable v h)))))

module _ (c : Tables) (own : ℕ) (G : List Bool) where
  asked-good : (r : Relation) (l : Level) (v p : CallArgument) (o : Option (Result Thing FormulaKind)) → IsFor c own (is_of_members l) r.whom r.entity → OkIs (IsGood c own G) (asked c r l v p o)
  asked-good r l v p o ask =
      then_any (IsGood c own G) v.thing _ (λ x. then_is (IsVariable c r.entity) (IsGood c own G) (variable_of c r.entity x) _ (variable_of-good c r.entity x) (λ f known.
      then_any (IsGood c own G) p.thing _ (λ y. then_any (IsGood c own G) (period_of y) _ (λ ms. then_any (IsGood c own G) (options_of o) _ (λ how.
      then_any (IsGood c own G) (asked_type how f.1) _ (λ t. (known.0, known.1, subst (λ e. IsFor c own (is_of_members l) r.whom e) (sym known.2) ask)))))))

  pub asked_with-good : (r : Relation) (l : Level) (gs : List CallArgument) → IsFor c own (is_of_members l) r.whom r.entity → OkIs (IsGood c own G) (asked_with c r l gs)
  asked_with-good r l [] ask = tt
  asked_with-good r l (v ∷ []) ask = tt
  asked_with-good r l (v ∷ p ∷ []) ask =
      if_is (IsGood c own G) (is_by_position v.keyword) _ _ (λ _. if_is (IsGood c own G) (is_by_position p.keyword) _ _ (λ _. asked-good r l v p None ask) (λ _. tt)) (λ _. tt)
  asked_with-good r l (v ∷ p ∷ o ∷ []) ask =
      if_is (IsGood c own G) (is_by_position v.keyword) _ _ (λ _. if_is (IsGood c own G) (is_by_position p.keyword) _ _ (λ _.
      if_is (IsGood c own G) (is_options o.keyword) _ _ (λ _. asked-good r l v p (Some o.thing) ask) (λ _. tt)) (λ _. tt)) (λ _. tt)
  asked_with-good r l (v ∷ p ∷ o ∷ q ∷ gs) ask = tt

  -- Roles

  role_of-good : (x : Thing) → IsGood c own G x → OkIs (λ (r : ℕ × RolePlace). IsGroup c r.0) (role_of x)
  role_of-good (value v) good = tt
  role_of-good (period ms) good = tt
  role_of-good (start ms) good = tt
  role_of-good (offset ms) good = tt
  role_of-good reader good = tt
  role_of-good (nodes k) good = tt
  role_of-good (scale n ms) good = tt
  role_of-good (calculation n ms) good = tt
  role_of-good (enumeration e) good = tt
  role_of-good (choices e) good = tt
  role_of-good (entity g) good = tt
  role_of-good (role g r) good = good
  role_of-good asker good = tt
  role_of-good (method m r) good = tt
  role_of-good (group_count g) good = tt
  role_of-good library good = tt
  role_of-good (function_thing f) good = tt
  role_of-good (option a) good = tt
  role_of-good (text t) good = tt
  role_of-good (listed xs) good = tt

  has_role-good : (l : Level) (ps : Positions) → (is_person_at c own ≡ false → is_of_members l ≡ true) → GoodPositions c own G ps → OkIs (IsGood c own G) (has_role_by l ps)
  has_role-good l ps fits good =
      then_is (λ s. IsGood c own G s.thing) (IsGood c own G) (alone ps) _ (alone-good c own G ps good) (λ s a.
      then_is (λ (r : ℕ × RolePlace). IsGroup c r.0) (IsGood c own G) (role_of s.thing) _ (role_of-good s.thing a) (λ r is. (is, fits)))

  count-good : (e : ℕ) (ps : Positions) → IsCounted c own e → OkIs (IsGood c own G) (count_by e ps)
  count-good e (by_position []) is = is
  count-good e (by_position (s ∷ [])) is = then_any (IsGood c own G) (role_in e s.thing) _ (λ r. is)
  count-good e (by_position (s ∷ t ∷ ss)) is = tt
  count-good e (and_keyword ss k x) is = tt
  count-good e more_keywords is = tt

  -- Totals

  total_of-good : (t : Total) (x : Thing) (found : Result (Option RolePlace) FormulaKind) → is_person_at c own ≡ false → IsGood c own G x → OkIs (IsGood c own G) (total_of t x found)
  total_of-good t x found group good =
      then_is (IsGoodValue c own G) (IsGood c own G) (value_of x) _ (value-good c own G x good) (λ v placed.
      then_any (IsGood c own G) (if takes t v.value_type then found else Err kind.BadType) _ (λ r. if_is (IsGood c own G) (is_of_members v.level) _ _ (λ m.
      (group, subst (λ p. IsPlaced c own G v.node p) m placed)) (λ _. tt)))

  total-good : (e : ℕ) (t : Total) (ps : Positions) → is_person_at c own ≡ false → GoodPositions c own G ps → OkIs (IsGood c own G) (total_by e t ps)
  total-good e t (by_position []) group good = tt
  total-good e t (by_position (m ∷ [])) group good = total_of-good t m.thing (Ok None) group good.0
  total-good e t (by_position (m ∷ n ∷ ss)) group good = tt
  total-good e t (and_keyword [] k x) group good = tt
  total-good e t (and_keyword (m ∷ []) k x) group good = total_of-good t m.thing (role_by e k x) group good.0.0
  total-good e t (and_keyword (m ∷ n ∷ ss) k x) group good = tt
  total-good e t more_keywords group good = tt

  pub group_count-good : (g : ℕ) (gs : List CallArgument) → (is_person_at c own ≡ true) × IsGroup c g → AllGiven c own G gs → OkIs (IsGood c own G) (settled_positions gs (count_by g))
  group_count-good g gs is all = settled_then c own G gs (count_by g) all (λ ps _. count-good g ps (inr is))

  pub calculation-good : (place : ℕ) (ms : List Move) (gs : List CallArgument) → AllGiven c own G gs → OkIs (IsGood c own G) (settled_positions gs (calculation_by place ms))
  calculation-good place ms gs all =
      settled_then c own G gs (calculation_by place ms) all (λ ps good.
      then_is (λ s. IsGood c own G s.thing) (IsGood c own G) (alone ps) _ (alone-good c own G ps good) (λ s a. numeric_then c own G s.thing a _ (λ v b. b)))

  pub function_call-good : (f : Function) (gs : List CallArgument) → AllGiven c own G gs → OkIs (IsGood c own G) (settled_positions gs (function_by f))
  function_call-good f gs all = settled_then c own G gs (function_by f) all (function-good c own G f)

-- Methods

method_by-good : (n : Names) (G : List Bool) (m : Method) (gs : List CallArgument) → IsGoodMethod n.tables n.entity (Some m) → AllGiven n.tables n.entity G gs
    → OkIs (IsGood n.tables n.entity G) (method_by n m gs)
method_by-good n G method_of.HasRole gs is all =
    settled_then n.tables n.entity G gs (has_role_by level.Own) all (λ ps a. has_role-good n.tables n.entity G level.Own ps (λ group. absurd (true≢false (sym is ∙ group))) a)
method_by-good n G method_of.EachHasRole gs is all =
    settled_then n.tables n.entity G gs (has_role_by level.Members) all (λ ps a. has_role-good n.tables n.entity G level.Members ps (λ group. refl) a)
method_by-good n G method_of.Members gs is all = asked_with-good n.tables n.entity G (to_person n.tables) level.Members gs (is, refl, refl)
method_by-good n G (method_of.Total t) gs is all =
    settled_then n.tables n.entity G gs (total_by n.entity t) all (λ ps a. total-good n.tables n.entity G n.entity t ps is a)
method_by-good n G method_of.Count gs is all =
    settled_then n.tables n.entity G gs (count_by n.entity) all (λ ps _. count-good n.tables n.entity G n.entity ps (inl (is, refl)))

-- a relation asks for no one person after another
method_called-good : (n : Names) (G : List Bool) (m : Option Method) (r : Option Relation) (gs : List CallArgument) → IsGoodMethod n.tables n.entity m → IsGoodRelation n.tables n.entity r
    → AllGiven n.tables n.entity G gs → OkIs (IsGood n.tables n.entity G) (method_called n m r gs)
method_called-good n G None None gs is ask all = tt
method_called-good n G None (Some r) gs is ask all = asked_with-good n.tables n.entity G r level.Own gs ask
method_called-good n G (Some m) None gs is ask all = method_by-good n G m gs is all
method_called-good n G (Some m) (Some r) gs is ask all =
    if_is (IsGood n.tables n.entity G) (begins_with_text gs) _ _ (λ _. asked_with-good n.tables n.entity G r level.Own gs ask) (λ _. method_by-good n G m gs is all)

-- Names

abbrev pub LocalsGood : Tables → ℕ → List Bool → List Local → Type 0
LocalsGood c own G [] = ⊤
LocalsGood c own G (l ∷ ls) = IsGood c own G l.thing × LocalsGood c own G ls

abbrev OptionIs : Tables → ℕ → List Bool → Option Thing → Type 0
OptionIs c own G None = ⊤
OptionIs c own G (Some x) = IsGood c own G x

module _ (c : Tables) (own : ℕ) (G : List Bool) where
  or_is : (o p : Option Thing) → OptionIs c own G o → OptionIs c own G p → OptionIs c own G (otherwise o p)
  or_is None p a b = b
  or_is (Some x) p a b = a

  there_is : (o : Option Thing) (k : FormulaKind) → OptionIs c own G o → OkIs (IsGood c own G) (ok_or o k)
  there_is None k a = tt
  there_is (Some x) k a = a

  if_some : (b : Bool) (o p : Option Thing) → OptionIs c own G o → OptionIs c own G p → OptionIs c own G (if b then o else p)
  if_some true o p a b = a
  if_some false o p a b = b

  local_named-good : (ls : List Local) (t : List ℕ) → LocalsGood c own G ls → OptionIs c own G (local_named ls t)
  local_named-good [] t good = tt
  local_named-good (l ∷ ls) t good = if_some (bytes_eq l.name t) (Some l.thing) (local_named ls t) good.0 (local_named-good ls t good.1)

  word-known : (t : List ℕ) → OptionIs c own G (known_word t)
  unfolding known_word
  word-known t =
      if_some (is t (codes "True")) _ _ tt (if_some (is t (codes "False")) _ _ tt (if_some (is t (codes "where")) _ _ tt
      (if_some (is t (codes "select")) _ _ tt (if_some (is t (codes "min_")) _ _ tt (if_some (is t (codes "max_")) _ _ tt
      (if_some (is t (codes "not_")) _ _ tt (if_some (is t (codes "np")) _ _ tt (if_some (is t (codes "numpy")) _ _ tt
      (if_some (is t (codes "ADD")) _ _ tt (if_some (is t (codes "DIVIDE")) _ _ tt tt))))))))))

  word-added : (t : List ℕ) → OptionIs c own G (added_word t)
  unfolding added_word
  word-added t =
      if_some (is t (codes "round_")) _ _ tt (if_some (is t (codes "floor")) _ _ tt (if_some (is t (codes "ceil")) _ _ tt
      (if_some (is t (codes "abs_")) _ _ tt (if_some (is t (codes "clip")) _ _ tt tt))))

  enum-some : (o : Option ℕ) → OptionIs c own G (option_map enumeration o)
  enum-some None = tt
  enum-some (Some e) = tt

  entity-some : (o : Option ℕ) → OptionIs c own G (option_map entity o)
  entity-some None = tt
  entity-some (Some e) = tt

  declared-some : (t : List ℕ) → OptionIs c own G (declared c t)
  declared-some t =
      or_is (option_map enumeration (place_in (λ e. bytes_eq e.name t) c.enums)) (option_map entity (place_in (λ e. bytes_eq e.constant t) c.entities))
      (enum-some (place_in (λ e. bytes_eq e.name t) c.enums)) (entity-some (place_in (λ e. bytes_eq e.constant t) c.entities))

  -- Names behind a point

  value_attribute-good : (t : List ℕ) (s : ValueType) → OkIs (IsGood c own G) (value_attribute t s)
  value_attribute-good t vt.Number = tt
  value_attribute-good t vt.Bool = tt
  value_attribute-good t (vt.Enum e) = if_is (IsGood c own G) (is t (codes "possible_values")) _ _ (λ _. tt) (λ _. tt)

  period_attribute-good : (t : List ℕ) (ms : List Move) → OkIs (IsGood c own G) (period_attribute t ms)
  unfolding period_attribute
  period_attribute-good t ms =
      if_is (IsGood c own G) (is t (codes "this_year")) _ _ (λ _. tt) (λ _. if_is (IsGood c own G) (is t (codes "first_month")) _ _ (λ _. tt) (λ _.
      if_is (IsGood c own G) (is t (codes "first_day")) _ _ (λ _. tt) (λ _. if_is (IsGood c own G) (is t (codes "last_month")) _ _ (λ _. tt) (λ _.
      if_is (IsGood c own G) (is t (codes "last_3_months")) _ _ (λ _. tt) (λ _. if_is (IsGood c own G) (is t (codes "last_year")) _ _ (λ _. tt) (λ _.
      if_is (IsGood c own G) (is t (codes "n_2")) _ _ (λ _. tt) (λ _. if_is (IsGood c own G) (is t (codes "start")) _ _ (λ _. tt) (λ _.
      if_is (IsGood c own G) (is t (codes "offset")) _ _ (λ _. tt) (λ _. tt)))))))))

  start_attribute-good : (t : List ℕ) (ms : List Move) → OkIs (IsGood c own G) (start_attribute t ms)
  unfolding start_attribute
  start_attribute-good t ms =
      if_is (IsGood c own G) (is t (codes "year")) _ _ (λ _. tt) (λ _. if_is (IsGood c own G) (is t (codes "month")) _ _ (λ _. tt) (λ _.
      if_is (IsGood c own G) (is t (codes "day")) _ _ (λ _. tt) (λ _. tt)))

  added-good : (t : List ℕ) → OkIs (IsGood c own G) (added_function t)
  unfolding added_function
  added-good t =
      if_is (IsGood c own G) (is t (codes "round")) _ _ (λ _. tt) (λ _. if_is (IsGood c own G) (is t (codes "floor")) _ _ (λ _. tt) (λ _.
      if_is (IsGood c own G) (is t (codes "ceil")) _ _ (λ _. tt) (λ _. if_is (IsGood c own G) (is t (codes "abs")) _ _ (λ _. tt) (λ _.
      if_is (IsGood c own G) (is t (codes "absolute")) _ _ (λ _. tt) (λ _. if_is (IsGood c own G) (is t (codes "clip")) _ _ (λ _. tt) (λ _.
      if_is (IsGood c own G) (is t (codes "logical_and")) _ _ (λ _. tt) (λ _. if_is (IsGood c own G) (is t (codes "logical_or")) _ _ (λ _. tt) (λ _. tt))))))))

  library-good : (t : List ℕ) → OkIs (IsGood c own G) (library_function t)
  unfolding library_function
  library-good t =
      if_is (IsGood c own G) (is t (codes "where")) _ _ (λ _. tt) (λ _. if_is (IsGood c own G) (is t (codes "select")) _ _ (λ _. tt) (λ _.
      if_is (IsGood c own G) (is t (codes "minimum")) _ _ (λ _. tt) (λ _. if_is (IsGood c own G) (is t (codes "maximum")) _ _ (λ _. tt) (λ _.
      if_is (IsGood c own G) (is t (codes "logical_not")) _ _ (λ _. tt) (λ _. added-good t)))))

  member-good : (e : ℕ) (o : Option ℕ) → OkIs (IsGood c own G) (member_at e o)
  member-good e None = tt
  member-good e (Some i) = tt

  role-good : (g : ℕ) (t : List ℕ) (o : Option RolePlace) → RolesFit c → role_of_constant (roles_at c g) t ≡ o → OkIs (IsGood c own G) (role_at g o)
  role-good g t None fit e = tt
  role-good g t (Some r) fit e = roles_of_group c g r t (slice_get c.entities g) refl fit e

  some_method-good : (m : Option Method) (r : Option Relation) → IsGoodMethod c own m → IsGoodRelation c own r → OkIs (IsGood c own G) (some_method m r)
  some_method-good None None is ask = tt
  some_method-good None (Some r) is ask = (is, ask)
  some_method-good (Some m) r is ask = (is, ask)

  led_to-good : (t : List ℕ) (w : Whom) (e : ℕ) → IsFor c own false w e → OkIs (IsGood c own G) (count_behind t (group_of_whom w))
  led_to-good t whom.Own e ask = tt
  led_to-good t (whom.Group g) e ask = if_is (IsGood c own G) (is t (codes "nb_persons")) _ _ (λ _. (ask.0, ask.2)) (λ _. tt)
  led_to-good t whom.Person e ask = tt
  led_to-good t (whom.Holder r) e ask = tt

  count_behind-good : (t : List ℕ) (r : Option Relation) → IsGoodRelation c own r → OkIs (IsGood c own G) (count_behind t (group_led_to r))
  count_behind-good t None ask = tt
  count_behind-good t (Some r) ask = led_to-good t r.whom r.entity ask

  members_of-good : (m : Option Method) → is_members m ≡ true → IsGoodMethod c own m → is_person_at c own ≡ false
  members_of-good None e is = cc
  members_of-good (Some method_of.HasRole) e is = cc
  members_of-good (Some method_of.EachHasRole) e is = cc
  members_of-good (Some method_of.Members) e is = is
  members_of-good (Some (method_of.Total t)) e is = cc
  members_of-good (Some method_of.Count) e is = cc

  method_attribute-good : (t : List ℕ) (m : Option Method) (r : Option Relation) → IsGoodMethod c own m → IsGoodRelation c own r → OkIs (IsGood c own G) (method_attribute t m r)
  method_attribute-good t m r good ask =
      if_is (IsGood c own G) (is_members m) _ _ (λ e. if_is (IsGood c own G) (is t (codes "has_role")) _ _ (λ _. (members_of-good m e good, tt)) (λ _. tt)) (λ _. count_behind-good t r ask)

-- Names behind the first argument

module _ (c : Tables) (own : ℕ) where
  method_if : (b : Bool) (m o : Option Method) → IsGoodMethod c own m → IsGoodMethod c own o → IsGoodMethod c own (if b then m else o)
  method_if true m o a b = a
  method_if false m o a b = b

  group_method-good : (t : List ℕ) → is_person_at c own ≡ false → IsGoodMethod c own (group_method t)
  unfolding group_method
  group_method-good t group =
      method_if (is t (codes "members")) _ _ group (method_if (is t (codes "sum")) _ _ group (method_if (is t (codes "min")) _ _ group
      (method_if (is t (codes "max")) _ _ group (method_if (is t (codes "any")) _ _ group (method_if (is t (codes "all")) _ _ group (method_if (is t (codes "nb_persons")) _ _ group tt))))))

  person_method-good : (t : List ℕ) → is_person_at c own ≡ true → IsGoodMethod c own (person_method t)
  unfolding person_method
  person_method-good t person = method_if (is t (codes "has_role")) _ _ person tt

  method_by_level : (t : List ℕ) (b : Bool) → is_person_at c own ≡ b → IsGoodMethod c own (if b then person_method t else group_method t)
  method_by_level t true e = person_method-good t e
  method_by_level t false e = group_method-good t e

  to_group-good : (t : List ℕ) (o : Option ℕ) → place_in (is_group_of t) c.entities ≡ o → is_person_at c own ≡ true → IsGoodRelation c own (option_map to_group o)
  to_group-good t None e person = tt
  to_group-good t (Some g) e person = (person, refl, group_named c t g e)

  to_holder-good : (o : Option RolePlace) → is_person_at c own ≡ false → IsGoodRelation c own (option_map (to_holder c) o)
  to_holder-good None group = tt
  to_holder-good (Some r) group = (group, refl)

  relation_if : (b : Bool) (r s : Option Relation) → IsGoodRelation c own r → IsGoodRelation c own s → IsGoodRelation c own (if b then r else s)
  relation_if true r s a b = a
  relation_if false r s a b = b

  relation_by_level : (t : List ℕ) (b : Bool) → is_person_at c own ≡ b
      → IsGoodRelation c own (if b then option_map to_group (place_in (is_group_of t) c.entities) else (if is t (codes "members") then None else option_map (to_holder c) (if_single (roles_at c own) (role_of_key (roles_at c own) t))))
  relation_by_level t true e = to_group-good t (place_in (is_group_of t) c.entities) refl e
  relation_by_level t false e = relation_if (is t (codes "members")) None _ tt (to_holder-good _ e)

asker-good : (n : Names) (G : List Bool) (t : List ℕ) → OkIs (IsGood n.tables n.entity G) (asker_attribute n t)
asker-good n G t =
    some_method-good n.tables n.entity G (method_named n t) (relation_named n t) (method_by_level n.tables n.entity t (is_person_at n.tables n.entity) refl)
    (relation_by_level n.tables n.entity t (is_person_at n.tables n.entity) refl)

argument_named-good : (n : Names) (G : List Bool) (t : List ℕ) → OptionIs n.tables n.entity G (argument_named n t)
argument_named-good n G t =
    if_some n.tables n.entity G (bytes_eq n.asker_name t) _ _ tt (if_some n.tables n.entity G (bytes_eq n.period_name t) _ _ tt (if_some n.tables n.entity G (has_name n.reader_name t) _ _ tt tt))

named-good : (n : Names) (G : List Bool) (t : List ℕ) → LocalsGood n.tables n.entity G n.locals → OkIs (IsGood n.tables n.entity G) (named n t)
named-good n G t good =
    there_is n.tables n.entity G (otherwise (local_named n.locals t) (otherwise (argument_named n t) (otherwise (known_word t) (otherwise (declared n.tables t) (added_word t))))) kind.UnknownName
    (or_is n.tables n.entity G (local_named n.locals t) (otherwise (argument_named n t) (otherwise (known_word t) (otherwise (declared n.tables t) (added_word t)))) (local_named-good n.tables n.entity G n.locals t good)
    (or_is n.tables n.entity G (argument_named n t) (otherwise (known_word t) (otherwise (declared n.tables t) (added_word t))) (argument_named-good n G t)
    (or_is n.tables n.entity G (known_word t) (otherwise (declared n.tables t) (added_word t)) (word-known n.tables n.entity G t)
    (or_is n.tables n.entity G (declared n.tables t) (added_word t) (declared-some n.tables n.entity G t) (word-added n.tables n.entity G t)))))

attribute-good : (n : Names) (G : List Bool) (t : List ℕ) → RolesFit n.tables → (x : Thing) → IsGood n.tables n.entity G x → OkIs (IsGood n.tables n.entity G) (attribute_of n t x)
attribute-good n G t fit (value v) good = value_attribute-good n.tables n.entity G t v.value_type
attribute-good n G t fit (period ms) good = period_attribute-good n.tables n.entity G t ms
attribute-good n G t fit (start ms) good = start_attribute-good n.tables n.entity G t ms
attribute-good n G t fit (offset ms) good = tt
attribute-good n G t fit reader good = tt
attribute-good n G t fit (nodes k) good = node_attribute-good n.tables n.entity G t k good
attribute-good n G t fit (scale i ms) good = if_is (IsGood n.tables n.entity G) (is t (codes "calc")) _ _ (λ _. tt) (λ _. tt)
attribute-good n G t fit (calculation i ms) good = tt
attribute-good n G t fit (enumeration e) good = member-good n.tables n.entity G e (member_named n.tables e t)
attribute-good n G t fit (choices e) good = member-good n.tables n.entity G e (member_named n.tables e t)
attribute-good n G t fit (entity g) good = role-good n.tables n.entity G g t (role_of_constant (roles_at n.tables g) t) fit refl
attribute-good n G t fit (role g r) good = tt
attribute-good n G t fit asker good = asker-good n G t
attribute-good n G t fit (method m r) good = method_attribute-good n.tables n.entity G t m r good.0 good.1
attribute-good n G t fit (group_count g) good = tt
attribute-good n G t fit library good = library-good n.tables n.entity G t
attribute-good n G t fit (function_thing f) good = tt
attribute-good n G t fit (option a) good = tt
attribute-good n G t fit (text s) good = tt
attribute-good n G t fit (listed xs) good = tt

-- Calls

module _ (c : Tables) (own : ℕ) (G : List Bool) where
  offset-good : (ms : List Move) (ps : Positions) → OkIs (IsGood c own G) (offset_of ms ps)
  offset-good ms (by_position []) = tt
  offset-good ms (by_position (k ∷ [])) = then_any (IsGood c own G) (ok_or (whole k.tree) kind.BadType) _ (λ n. tt)
  offset-good ms (by_position (k ∷ u ∷ [])) =
      then_any (IsGood c own G) (text_of u.thing) _ (λ t. then_any (IsGood c own G) (ok_or (whole k.tree) kind.BadType) _ (λ n. then_any (IsGood c own G) (ok_or (unit_named t) kind.BadType) _ (λ m. tt)))
  offset-good ms (by_position (k ∷ u ∷ v ∷ ss)) = tt
  offset-good ms (and_keyword ss k x) = tt
  offset-good ms more_keywords = tt

  reader-good : (ps : Positions) → OkIs (IsGood c own G) (reader_by c ps)
  reader-good ps = then_any (IsGood c own G) (alone ps) _ (λ s. then_any (IsGood c own G) (instant_of s.thing) _ (λ ms. root-good c own G ms))

  not-good : (gs : List CallArgument) → OkIs (IsGood c own G) (not_called gs)
  not-good gs = then_any (IsGood c own G) (settled gs) _ (λ ss. tt)

  -- Brackets

  elements-good : (gs : List CallArgument) → AllGiven c own G gs → OkIs (AreGood c own G) (elements gs)
  elements-good [] all = tt
  elements-good (g ∷ gs) all =
      then_is (IsGood c own G) (AreGood c own G) g.thing _ all.0 (λ x a. if_is (AreGood c own G) (is_positional g.keyword) _ _ (λ _. then_is (AreGood c own G) (AreGood c own G) (elements gs) _ (elements-good gs all.1) (λ xs b. (a, b))) (λ _. tt))

  only-good : (gs : List CallArgument) → AllGiven c own G gs → OkIs (IsGood c own G) (only gs)
  only-good [] all = tt
  only-good (g ∷ []) all = if_is (IsGood c own G) (is_positional g.keyword) g.thing _ (λ _. all.0) (λ _. tt)
  only-good (g ∷ h ∷ gs) all = tt

  brackets-good : (b : Delimiter) (gs : List CallArgument) → AllGiven c own G gs → OkIs (IsGood c own G) (in_brackets b gs)
  brackets-good bracket.Round gs all = only-good gs all
  brackets-good bracket.Square gs all = then_is (AreGood c own G) (IsGood c own G) (elements gs) _ (elements-good gs all) (λ xs a. a)
  brackets-good bracket.Curly gs all = tt

  number-good : (o : Result Number NumFault) → OkIs (IsGood c own G) (number_thing o)
  number-good (Ok n) = tt
  number-good (Err e) = tt

called-good : (n : Names) (G : List Bool) (x : Thing) (gs : List CallArgument) → IsGood n.tables n.entity G x → AllGiven n.tables n.entity G gs → OkIs (IsGood n.tables n.entity G) (called n x gs)
called-good n G (value v) gs good all = not-good n.tables n.entity G gs
called-good n G (period ms) gs good all = not-good n.tables n.entity G gs
called-good n G (start ms) gs good all = not-good n.tables n.entity G gs
called-good n G (offset ms) gs good all = settled_then n.tables n.entity G gs (offset_of ms) all (λ ps _. offset-good n.tables n.entity G ms ps)
called-good n G reader gs good all = settled_then n.tables n.entity G gs (reader_by n.tables) all (λ ps _. reader-good n.tables n.entity G ps)
called-good n G (nodes k) gs good all = not-good n.tables n.entity G gs
called-good n G (scale i ms) gs good all = not-good n.tables n.entity G gs
called-good n G (calculation i ms) gs good all = calculation-good n.tables n.entity G i ms gs all
called-good n G (enumeration e) gs good all = not-good n.tables n.entity G gs
called-good n G (choices e) gs good all = not-good n.tables n.entity G gs
called-good n G (entity g) gs good all = not-good n.tables n.entity G gs
called-good n G (role g r) gs good all = not-good n.tables n.entity G gs
called-good n G asker gs good all = asked_with-good n.tables n.entity G (to_self n.entity) level.Own gs refl
called-good n G (method m r) gs good all = method_called-good n G m r gs good.0 good.1 all
called-good n G (group_count g) gs good all = group_count-good n.tables n.entity G g gs good all
called-good n G library gs good all = not-good n.tables n.entity G gs
called-good n G (function_thing f) gs good all = function_call-good n.tables n.entity G f gs all
called-good n G (option a) gs good all = not-good n.tables n.entity G gs
called-good n G (text s) gs good all = not-good n.tables n.entity G gs
called-good n G (listed xs) gs good all = not-good n.tables n.entity G gs

suffix-good : (n : Names) (G : List Bool) (s : Suffix) (x : Thing) (gs : List CallArgument) → IsGood n.tables n.entity G x → AllGiven n.tables n.entity G gs → OkIs (IsGood n.tables n.entity G) (with_suffix n s x gs)
suffix-good n G suffix.Call x gs good all = called-good n G x gs good all
suffix-good n G suffix.Subscript x gs good all =
    then_is (IsGood n.tables n.entity G) (IsGood n.tables n.entity G) (only gs) _ (only-good n.tables n.entity G gs all) (λ i a.
    then_is (AreGoodNodes n.tables n.entity G) (IsGood n.tables n.entity G) (nodes_of x) _ (nodes-good n.tables n.entity G x good) (λ k b.
    then_is (IsGoodValue n.tables n.entity G) (IsGood n.tables n.entity G) (value_of i) _ (value-good n.tables n.entity G i a) (λ v d. subscripted-good n.tables n.entity G k v b d)))

module _ (n : Names) (G : List Bool) (fit : RolesFit n.tables) (locals : LocalsGood n.tables n.entity G n.locals) where
  mutual
    pub thing-good : (e : Tree) → OkIs (IsGood n.tables n.entity G) (thing_of n e)
    thing-good (tree.name t) = named-good n G t locals
    thing-good (tree.number t) = number-good n.tables n.entity G (number_of_literal t)
    thing-good (tree.text t) = tt
    thing-good (tree.bracketed b xs) = brackets-good n.tables n.entity G b (all_given n xs) (all-good xs)
    thing-good (tree.attribute e t) = then_is (IsGood n.tables n.entity G) (IsGood n.tables n.entity G) (thing_of n e) _ (thing-good e) (attribute-good n G t fit)
    thing-good (tree.applied s f xs) = then_is (IsGood n.tables n.entity G) (IsGood n.tables n.entity G) (thing_of n f) _ (thing-good f) (λ x a. suffix-good n G s x (all_given n xs) a (all-good xs))
    thing-good (tree.prefixed p e) = then_is (IsGood n.tables n.entity G) (IsGood n.tables n.entity G) (thing_of n e) _ (thing-good e) (prefixed-good n.tables n.entity G p)
    thing-good (tree.binary o a b) =
        then_is (IsGood n.tables n.entity G) (IsGood n.tables n.entity G) (thing_of n a) _ (thing-good a) (λ x u. then_is (IsGood n.tables n.entity G) (IsGood n.tables n.entity G) (thing_of n b) _ (thing-good b) (λ y w.
        operated-good n.tables n.entity G (operation o) x y (operation-good n.tables n.entity G o) u w))
    thing-good (tree.compare o a b) =
        then_is (IsGood n.tables n.entity G) (IsGood n.tables n.entity G) (thing_of n a) _ (thing-good a) (λ x u. then_is (IsGood n.tables n.entity G) (IsGood n.tables n.entity G) (thing_of n b) _ (thing-good b) (λ y w.
        operated-good n.tables n.entity G (comparison_of o) x y (comparison-good n.tables n.entity G o) u w))

    all-good : (xs : Series) → AllGiven n.tables n.entity G (all_given n xs)
    all-good tree.nothing = tt
    all-good (tree.last a) = (given-good a, tt)
    all-good (tree.next a xs) = (given-good a, all-good xs)

    given-good : (a : Argument) → OkIs (IsGood n.tables n.entity G) (given_of n a).thing
    given-good (tree.positional e) = thing-good e
    given-good (tree.keyword k e) = thing-good e
    given-good (tree.entry k e) = tt
