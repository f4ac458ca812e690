-- What expressions of formulas stand for is placed: operations, parameters and calls of functions.
use Rattle.std.proofs.Common.{◌≡◌, ℕ, suc, List, [], ◌∷◌, length, Bool, true, false, refl, subst, Option, Some, None}
use Rattle.std.specs.Prelude.{⊤, pos, ◌==◌, ◌&&◌, if◌then◌else◌, Result, Ok, Err, codes}
use Rattle.std.specs.List.{list_all}
use Rattle.fisca_ast.specs.Words.{is}
use Rattle.fisca_ast.specs.declared.fault.FormulaKind.{FormulaKind}
use Rattle.fisca_ast.specs.declared.fault.FormulaKind.TheVariants as kind
use Rattle.fisca_ast.specs.declared.tree.Comparison.{Comparison}
use Rattle.fisca_ast.specs.declared.tree.Comparison.TheVariants as cmp
use Rattle.fisca_ast.specs.declared.tree.Operator.{Operator}
use Rattle.fisca_ast.specs.declared.tree.Operator.TheVariants as operator
use Rattle.fisca_ast.specs.declared.tree.Prefix.{Prefix}
use Rattle.fisca_ast.specs.declared.tree.Prefix.TheVariants as prefix
use Rattle.fisca_typing.proofs.Good.{OkIs, if_is, then_any, then_eq, then_is}
use Rattle.fisca_typing.specs.Wellformed.{Within}
use Rattle.fisca_model.specs.Tables.{Tables, is_person_at, members_at}
use Rattle.fisca_model.specs.declared.value_type.ValueType.{ValueType}
use Rattle.fisca_model.specs.declared.value_type.ValueType.TheVariants as vt
use Rattle.fisca_num.specs.Results.{and_then}
use Rattle.fisca_params.specs.declared.content.NodeKind.{NodeKind}
use Rattle.fisca_params.specs.declared.content.NodeKind.TheVariants as found
use Rattle.fisca_api.proofs.Placed.{ArePlaced, IsFor, IsGroup, IsPlaced, weaken, weaken_all}
use Rattle.fisca_typing.specs.Calls.{CallArgument, Settled, Positions, by_position, and_keyword, more_keywords, before_keyword, in_front, put, settled, positions, all_bools, selected, select_typed, select_default, select_values, select_of, default_in, nothing_selected, where_by, select_by, alone, two, extreme_all, extreme_by, unary_by, operator_by, places_of, round_by, clip_by, function_by}
use Rattle.fisca_typing.specs.Nodes.{Node, Indices, no_index, index, behind}
use Rattle.fisca_typing.specs.Operations.{Operation, is_just, on_bools_or_numbers, with_numbers, with_bools, operation, extreme, comparison_of_members, comparison_by, comparison_of, with_levels, operated, are_bools, are_numeric, unary_type, unary_on, unary_of, prefixed_by, prefixed_value, typed_all, common_all, highest, where_of, numeric_of}
use Rattle.fisca_typing.specs.Parameters.{is_number as number_kind, is_bool as bool_kind, is_node, kinds_at, of_one_kind, chosen_thing, thing_chosen, children_below, root_at, node_attribute, enum_by, subscripted}
use Rattle.fisca_typing.specs.Things.{Thing, Things, Typed, Chosen, Relation, value, period, start, offset, reader, nodes, scale, calculation, enumeration, choices, entity, role, asker, method, group_count, library, function as function_thing, option, text, listed, none, more, value_of, nodes_of, things_of}
use Rattle.fisca_typing.specs.Types.{is_bool, is_number, is_numeric, common, higher, is_of_members}
use Rattle.fisca_typing.specs.declared.kinds.Level.{Level}
use Rattle.fisca_typing.specs.declared.kinds.Level.TheVariants as level
use Rattle.fisca_typing.specs.declared.moves.Move.{Move}
use Rattle.fisca_typing.specs.declared.operations.Arithmetic.{Arithmetic}
use Rattle.fisca_typing.specs.declared.operations.Arithmetic.TheVariants as arithm
use Rattle.fisca_typing.specs.declared.operations.Function.{Function}
use Rattle.fisca_typing.specs.declared.operations.Function.TheVariants as function
use Rattle.fisca_typing.specs.declared.operations.Logic.{Logic}
use Rattle.fisca_typing.specs.declared.operations.Logic.TheVariants as logic
use Rattle.fisca_typing.specs.declared.operations.Method.{Method}
use Rattle.fisca_typing.specs.declared.operations.Method.TheVariants as method_of
use Rattle.fisca_typing.specs.declared.operations.Unary.{Unary}
use Rattle.fisca_typing.specs.declared.operations.Unary.TheVariants as unary

-- Results

abbrev pub ok : {X : Type 0} → X → Result X FormulaKind
ok x = Ok x

steps : {X Y : Type 0} (r : Result X FormulaKind) (f : X → Result Y FormulaKind) (y : Y) → and_then r f ≡ ok y → (x : X) × (r ≡ ok x) × (f x ≡ ok y)
steps (Ok x) f y e = (x, refl, e)
steps (Err k) f y e = cc

-- Things

abbrev pub IsGoodValue : Tables → ℕ → List Bool → Typed → Type 0
IsGoodValue c own G v = IsPlaced c own G v.node (is_of_members v.level)

abbrev pub AreGoodNodes : Tables → ℕ → List Bool → Chosen → Type 0
AreGoodNodes c own G k = ArePlaced c own G k.indices (is_of_members k.level)

-- whom a name behind the first argument asks for
abbrev pub IsGoodRelation : Tables → ℕ → Option Relation → Type 0
IsGoodRelation c own None = ⊤
IsGoodRelation c own (Some r) = IsFor c own false r.whom r.entity

-- only persons have roles, and only groups have persons
abbrev pub IsGoodMethod : Tables → ℕ → Option Method → Type 0
IsGoodMethod c own None = ⊤
IsGoodMethod c own (Some method_of.HasRole) = is_person_at c own ≡ true
IsGoodMethod c own (Some method_of.EachHasRole) = is_person_at c own ≡ false
IsGoodMethod c own (Some method_of.Members) = is_person_at c own ≡ false
IsGoodMethod c own (Some (method_of.Total t)) = is_person_at c own ≡ false
IsGoodMethod c own (Some method_of.Count) = is_person_at c own ≡ false

abbrev mutual
  pub IsGood : Tables → ℕ → List Bool → Thing → Type 0
  IsGood c own G (value v) = IsGoodValue c own G v
  IsGood c own G (period ms) = ⊤
  IsGood c own G (start ms) = ⊤
  IsGood c own G (offset ms) = ⊤
  IsGood c own G reader = ⊤
  IsGood c own G (nodes k) = AreGoodNodes c own G k
  IsGood c own G (scale n ms) = ⊤
  IsGood c own G (calculation n ms) = ⊤
  IsGood c own G (enumeration e) = ⊤
  IsGood c own G (choices e) = ⊤
  IsGood c own G (entity g) = ⊤
  IsGood c own G (role g r) = IsGroup c g
  IsGood c own G asker = ⊤
  IsGood c own G (method m r) = IsGoodMethod c own m × IsGoodRelation c own r
  IsGood c own G (group_count g) = (is_person_at c own ≡ true) × IsGroup c g
  IsGood c own G library = ⊤
  IsGood c own G (function_thing f) = ⊤
  IsGood c own G (option a) = ⊤
  IsGood c own G (text t) = ⊤
  IsGood c own G (listed xs) = AreGood c own G xs

  pub AreGood : Tables → ℕ → List Bool → Things → Type 0
  AreGood c own G none = ⊤
  AreGood c own G (more x xs) = IsGood c own G x × AreGood c own G xs

-- Levels

members_level : (n : Level) → ok level.Members ≡ ok n → is_of_members n ≡ true
members_level level.Constant e = cc
members_level level.Own e = cc
members_level level.Members e = refl

pub higher-left : (l m n : Level) → higher l m ≡ Ok n → Within (is_of_members l) (is_of_members n)
higher-left level.Constant m n e is = cc
higher-left level.Own m n e is = cc
higher-left level.Members level.Constant n e is = members_level n e
higher-left level.Members level.Own n e is = cc
higher-left level.Members level.Members n e is = members_level n e

pub higher-right : (l m n : Level) → higher l m ≡ Ok n → Within (is_of_members m) (is_of_members n)
higher-right l level.Constant n e is = cc
higher-right l level.Own n e is = cc
higher-right level.Constant level.Members n e is = members_level n e
higher-right level.Own level.Members n e is = cc
higher-right level.Members level.Members n e is = members_level n e

level_is : (l m : Level) → ok l ≡ ok m → l ≡ m
level_is l m e = cc

abbrev pub AllGiven : Tables → ℕ → List Bool → List CallArgument → Type 0
AllGiven c own G [] = ⊤
AllGiven c own G (g ∷ gs) = OkIs (IsGood c own G) g.thing × AllGiven c own G gs

abbrev AllSettled : Tables → ℕ → List Bool → List Settled → Type 0
AllSettled c own G [] = ⊤
AllSettled c own G (s ∷ ss) = IsGood c own G s.thing × AllSettled c own G ss

abbrev pub GoodPositions : Tables → ℕ → List Bool → Positions → Type 0
GoodPositions c own G (by_position ss) = AllSettled c own G ss
GoodPositions c own G (and_keyword ss k x) = AllSettled c own G ss × IsGood c own G x
GoodPositions c own G more_keywords = ⊤

abbrev AllValues : Tables → ℕ → List Bool → List Typed → Type 0
AllValues c own G [] = ⊤
AllValues c own G (v ∷ vs) = IsGoodValue c own G v × AllValues c own G vs

-- all are placed where persons are, or where they are not
abbrev AllAt : Tables → ℕ → List Bool → List Typed → Bool → Type 0
AllAt c own G [] p = ⊤
AllAt c own G (v ∷ vs) p = IsPlaced c own G v.node p × AllAt c own G vs p

abbrev OptionGood : Tables → ℕ → List Bool → Option Typed → Type 0
OptionGood c own G None = ⊤
OptionGood c own G (Some v) = IsGoodValue c own G v

-- so is an operation on what is
abbrev IsOperation : Tables → ℕ → List Bool → Operation → Type 0
IsOperation c own G o = (a b : Node) (p : Bool) → IsPlaced c own G a p → IsPlaced c own G b p → IsPlaced c own G (o.node a b) p

-- a node that is placed everywhere
abbrev IsAnywhere : Tables → ℕ → List Bool → Node → Type 0
IsAnywhere c own G n = (p : Bool) → IsPlaced c own G n p

module _ (c : Tables) (own : ℕ) (G : List Bool) where
  pub value-good : (x : Thing) → IsGood c own G x → OkIs (IsGoodValue c own G) (value_of x)
  value-good (value v) good = good
  value-good (period ms) good = tt
  value-good (start ms) good = tt
  value-good (offset ms) good = tt
  value-good reader good = tt
  value-good (nodes k) good = tt
  value-good (scale n ms) good = tt
  value-good (calculation n ms) good = tt
  value-good (enumeration e) good = tt
  value-good (choices e) good = tt
  value-good (entity g) good = tt
  value-good (role g r) good = tt
  value-good asker good = tt
  value-good (method m r) good = tt
  value-good (group_count g) good = tt
  value-good library good = tt
  value-good (function_thing f) good = tt
  value-good (option a) good = tt
  value-good (text t) good = tt
  value-good (listed xs) good = tt

  pub nodes-good : (x : Thing) → IsGood c own G x → OkIs (AreGoodNodes c own G) (nodes_of x)
  nodes-good (value v) good = tt
  nodes-good (period ms) good = tt
  nodes-good (start ms) good = tt
  nodes-good (offset ms) good = tt
  nodes-good reader good = tt
  nodes-good (nodes k) good = good
  nodes-good (scale n ms) good = tt
  nodes-good (calculation n ms) good = tt
  nodes-good (enumeration e) good = tt
  nodes-good (choices e) good = tt
  nodes-good (entity g) good = tt
  nodes-good (role g r) good = tt
  nodes-good asker good = tt
  nodes-good (method m r) good = tt
  nodes-good (group_count g) good = tt
  nodes-good library good = tt
  nodes-good (function_thing f) good = tt
  nodes-good (option a) good = tt
  nodes-good (text t) good = tt
  nodes-good (listed xs) good = tt

  things-good : (x : Thing) → IsGood c own G x → OkIs (AreGood c own G) (things_of x)
  things-good (value v) good = tt
  things-good (period ms) good = tt
  things-good (start ms) good = tt
  things-good (offset ms) good = tt
  things-good reader good = tt
  things-good (nodes k) good = tt
  things-good (scale n ms) good = tt
  things-good (calculation n ms) good = tt
  things-good (enumeration e) good = tt
  things-good (choices e) good = tt
  things-good (entity g) good = tt
  things-good (role g r) good = tt
  things-good asker good = tt
  things-good (method m r) good = tt
  things-good (group_count g) good = tt
  things-good library good = tt
  things-good (function_thing f) good = tt
  things-good (option a) good = tt
  things-good (text t) good = tt
  things-good (listed xs) good = good

  -- Operations

  numbers-good : (o : Arithmetic) → OkIs (IsOperation c own G) (with_numbers o)
  numbers-good o = λ a b p x y. (x, y)

  bools-good : (o : Logic) → OkIs (IsOperation c own G) (with_bools o)
  bools-good o = λ a b p x y. (x, y)

  on-good : (bools numbers : Result Operation FormulaKind) (s t : ValueType) → OkIs (IsOperation c own G) bools → OkIs (IsOperation c own G) numbers
      → OkIs (IsOperation c own G) (on_bools_or_numbers bools numbers s t)
  on-good bools numbers s t b n = if_is (IsOperation c own G) (are_bools s t) _ _ (λ _. b) (λ _. if_is (IsOperation c own G) (are_numeric s t) _ _ (λ _. n) (λ _. tt))

  pub operation-good : (o : Operator) (s t : ValueType) → OkIs (IsOperation c own G) (operation o s t)
  operation-good operator.Or s t = on-good (with_bools logic.Or) (Err kind.BadType) s t (bools-good logic.Or) tt
  operation-good operator.And s t = on-good (with_bools logic.And) (Err kind.BadType) s t (bools-good logic.And) tt
  operation-good operator.Add s t = on-good (with_bools logic.Or) (with_numbers arithm.Add) s t (bools-good logic.Or) (numbers-good arithm.Add)
  operation-good operator.Subtract s t = on-good (Err kind.BadType) (with_numbers arithm.Subtract) s t tt (numbers-good arithm.Subtract)
  operation-good operator.Multiply s t = on-good (with_bools logic.And) (with_numbers arithm.Multiply) s t (bools-good logic.And) (numbers-good arithm.Multiply)
  operation-good operator.Divide s t = on-good (with_numbers arithm.Divide) (with_numbers arithm.Divide) s t (numbers-good arithm.Divide) (numbers-good arithm.Divide)

  extreme-good : (o : Arithmetic) (s t : ValueType) → OkIs (IsOperation c own G) (extreme o s t)
  extreme-good o s t = on-good (Err kind.BadType) (with_numbers o) s t tt (numbers-good o)

  members-good : (o : Comparison) → OkIs (IsOperation c own G) (comparison_of_members o)
  members-good cmp.Less = tt
  members-good cmp.LessEqual = tt
  members-good cmp.Greater = tt
  members-good cmp.GreaterEqual = tt
  members-good cmp.Equal = λ a b p x y. (x, y)
  members-good cmp.NotEqual = λ a b p x y. (x, y)

  comparison_by-good : (o : Comparison) (t : ValueType) → OkIs (IsOperation c own G) (comparison_by o t)
  comparison_by-good o vt.Number = λ a b p x y. (x, y)
  comparison_by-good o vt.Bool = λ a b p x y. (x, y)
  comparison_by-good o (vt.Enum e) = members-good o

  pub comparison-good : (o : Comparison) (s t : ValueType) → OkIs (IsOperation c own G) (comparison_of o s t)
  comparison-good o s t = then_any (IsOperation c own G) (common s t) (comparison_by o) (comparison_by-good o)

  -- at a higher level
  pub raised : (v : Typed) (l : Level) → Within (is_of_members v.level) (is_of_members l) → IsGoodValue c own G v → IsPlaced c own G v.node (is_of_members l)
  raised v l up good = weaken c own G G (λ i b e. e) v.node (is_of_members v.level) (is_of_members l) up good

  levels-good : (a b : Typed) (o : Operation) → IsGoodValue c own G a → IsGoodValue c own G b → IsOperation c own G o → OkIs (IsGood c own G) (with_levels a b o)
  levels-good a b o x y is =
      then_eq (IsGood c own G) (higher a.level b.level) _ (λ l e. is a.node b.node (is_of_members l) (raised a l (higher-left a.level b.level l e) x) (raised b l (higher-right a.level b.level l e) y))

  pub operated-good : (by : ValueType → ValueType → Result Operation FormulaKind) (x y : Thing) → ((s t : ValueType) → OkIs (IsOperation c own G) (by s t)) → IsGood c own G x → IsGood c own G y
      → OkIs (IsGood c own G) (operated by x y)
  operated-good by x y are good too =
      then_is (IsGoodValue c own G) (IsGood c own G) (value_of x) _ (value-good x good) (λ a u. then_is (IsGoodValue c own G) (IsGood c own G) (value_of y) _ (value-good y too) (λ b w.
      then_is (IsOperation c own G) (IsGood c own G) (by a.value_type b.value_type) _ (are a.value_type b.value_type) (λ o is. levels-good a b o u w is)))

  unary_on-good : (o : Unary) (a : Typed) → IsGoodValue c own G a → OkIs (IsGood c own G) (unary_on o a)
  unary_on-good o a good = if_is (IsGood c own G) (is_just (unary_type o) a.value_type) _ _ (λ _. good) (λ _. tt)

  unary-good : (o : Unary) (x : Thing) → IsGood c own G x → OkIs (IsGood c own G) (unary_of o x)
  unary-good o x good = then_is (IsGoodValue c own G) (IsGood c own G) (value_of x) _ (value-good x good) (λ a u. unary_on-good o a u)

  prefixed_by-good : (p : Prefix) (a : Typed) → IsGoodValue c own G a → OkIs (IsGood c own G) (prefixed_by p a)
  prefixed_by-good prefix.Plus a good = if_is (IsGood c own G) (is_number a.value_type) _ _ (λ _. good) (λ _. tt)
  prefixed_by-good prefix.Minus a good = unary_on-good unary.Minus a good
  prefixed_by-good prefix.Not a good = unary_on-good unary.Not a good

  pub prefixed-good : (p : Prefix) (x : Thing) → IsGood c own G x → OkIs (IsGood c own G) (prefixed_value p x)
  prefixed-good p x good = then_is (IsGoodValue c own G) (IsGood c own G) (value_of x) _ (value-good x good) (λ a u. prefixed_by-good p a u)

  -- Parameters

  one_kind-good : (k : Chosen) (ks : List NodeKind) → AreGoodNodes c own G k → OkIs (IsGood c own G) (of_one_kind k ks)
  one_kind-good k ks good =
      if_is (IsGood c own G) (list_all number_kind ks) _ _ (λ _. good) (λ _.
      if_is (IsGood c own G) (list_all bool_kind ks) _ _ (λ _. good) (λ _.
      if_is (IsGood c own G) (list_all is_node ks) _ _ (λ _. good) (λ _. tt)))

  chosen-good : (k : Chosen) (is : Indices) (places : List ℕ) (ks : List NodeKind) → OkIs (IsGood c own G) (of_one_kind k ks) → OkIs (IsGood c own G) (chosen_thing k is places ks)
  chosen-good k (index n size is) places ks good = good
  chosen-good k no_index [] ks good = good
  chosen-good k no_index (p ∷ q ∷ places) ks good = good
  chosen-good k no_index (p ∷ []) [] good = good
  chosen-good k no_index (p ∷ []) (found.Node ∷ ks) good = good
  chosen-good k no_index (p ∷ []) (found.Number ∷ ks) good = good
  chosen-good k no_index (p ∷ []) (found.Bool ∷ ks) good = good
  chosen-good k no_index (p ∷ []) (found.Unusable ∷ ks) good = good
  chosen-good k no_index (p ∷ []) (found.Scale ∷ []) good = tt
  chosen-good k no_index (p ∷ []) (found.Scale ∷ x ∷ ks) good = good

  thing_chosen-good : (k : Chosen) → AreGoodNodes c own G k → OkIs (IsGood c own G) (thing_chosen c.nodes k)
  thing_chosen-good k good = chosen-good k k.indices k.places (kinds_at c.nodes k.places) (one_kind-good k (kinds_at c.nodes k.places) good)

  pub root-good : (ms : List Move) → OkIs (IsGood c own G) (root_at c.nodes ms)
  root-good ms = thing_chosen-good (record { level = level.Constant; indices = no_index; places = 0 ∷ []; moves = ms }) tt

  pub node_attribute-good : (t : List ℕ) (k : Chosen) → AreGoodNodes c own G k → OkIs (IsGood c own G) (node_attribute c.nodes t k)
  node_attribute-good t k good = then_any (IsGood c own G) (children_below c.nodes k.places (t ∷ [])) _ (λ ps. thing_chosen-good (record k { places = ps }) good)

  behind-good : (is : Indices) (n : Node) (size : ℕ) (p : Bool) → ArePlaced c own G is p → IsPlaced c own G n p → ArePlaced c own G (behind is n size) p
  behind-good no_index n size p all placed = (placed, tt)
  behind-good (index m s is) n size p all placed = (all.0, behind-good is n size p all.1 placed)

  pub subscripted-good : (k : Chosen) (i : Typed) → AreGoodNodes c own G k → IsGoodValue c own G i → OkIs (IsGood c own G) (subscripted c k i)
  subscripted-good k i good placed =
      then_any (IsGood c own G) (enum_by i.value_type) _ (λ e. then_eq (IsGood c own G) (higher k.level i.level) _ (λ l u.
      then_any (IsGood c own G) (children_below c.nodes k.places (members_at c e)) _ (λ ps.
      thing_chosen-good _ (
      behind-good k.indices i.node (length (members_at c e)) (is_of_members l) (weaken_all c own G G (λ j b q. q) k.indices _ _ (higher-left k.level i.level l u) good)
      (raised i l (higher-right k.level i.level l u) placed)
      ))))

  -- One or the other

  typed_all-good : (xs : Things) → AreGood c own G xs → OkIs (AllValues c own G) (typed_all xs)
  typed_all-good none good = tt
  typed_all-good (more x xs) good =
      then_is (IsGoodValue c own G) (AllValues c own G) (value_of x) _ (value-good x good.0) (λ v a. then_is (AllValues c own G) (AllValues c own G) (typed_all xs) _ (typed_all-good xs good.1) (λ vs b. (a, b)))

  all_raised : (vs : List Typed) (p q : Bool) → Within p q → AllAt c own G vs p → AllAt c own G vs q
  all_raised [] p q up all = tt
  all_raised (v ∷ vs) p q up all = (weaken c own G G (λ i b e. e) v.node p q up all.0, all_raised vs p q up all.1)

  highest-all : (l : Level) (vs : List Typed) (m : Level) → highest l vs ≡ ok m → AllValues c own G vs → Within (is_of_members l) (is_of_members m) × AllAt c own G vs (is_of_members m)
  highest-all l [] m e good = (λ w. subst (λ x. is_of_members x ≡ true) (level_is l m e) w, tt)
  highest-all l (v ∷ vs) m e good =
      let x = steps (higher l v.level) (λ k. highest k vs) m e in let r = highest-all x.0 vs m x.2 good.1 in
      (λ w. r.0 (higher-left l v.level x.0 x.1 w), (raised v m (λ w. r.0 (higher-right l v.level x.0 x.1 w)) good.0, r.1))

  where-good : (q a b : Typed) → IsGoodValue c own G q → IsGoodValue c own G a → IsGoodValue c own G b → OkIs (IsGood c own G) (where_of q a b)
  where-good q a b x y z =
      then_any (IsGood c own G) (if is_bool q.value_type then common a.value_type b.value_type else Err kind.BadType) _ (λ t.
      then_eq (IsGood c own G) (highest q.level (a ∷ b ∷ [])) _ (λ l h.
      let r = highest-all q.level (a ∷ b ∷ []) l h (y, (z, tt)) in (raised q l r.0 x, r.1.0, r.1.1.0)))

  selected-good : (cs vs : List Typed) (rest : Node) (p : Bool) → AllAt c own G cs p → AllAt c own G vs p → IsPlaced c own G rest p → IsPlaced c own G (selected cs vs rest) p
  selected-good [] vs rest p a b r = r
  selected-good (q ∷ cs) [] rest p a b r = r
  selected-good (q ∷ cs) (v ∷ vs) rest p a b r = (a.0, b.0, selected-good cs vs rest p a.1 b.1 r)

  select_typed-good : (t : ValueType) (cs vs ds : List Typed) (rest : Node) → AllValues c own G cs → AllValues c own G vs → AllValues c own G ds
      → ((p : Bool) → AllAt c own G ds p → IsPlaced c own G rest p) → OkIs (IsGood c own G) (select_typed t cs vs ds rest)
  select_typed-good t cs vs ds rest x y z last =
      then_eq (IsGood c own G) (highest level.Constant cs) _ (λ l e. then_eq (IsGood c own G) (highest l vs) _ (λ m f. then_eq (IsGood c own G) (highest m ds) _ (λ n g.
      let one = highest-all level.Constant cs l e x in
      let two = highest-all l vs m f y in
      let three = highest-all m ds n g z in
      selected-good cs vs rest (is_of_members n) (all_raised cs _ _ (λ w. three.0 (two.0 w)) one.1) (all_raised vs _ _ three.0 two.1) (last (is_of_members n) three.1))))

  nothing-good : (t : ValueType) → OkIs (IsAnywhere c own G) (nothing_selected t)
  nothing-good vt.Number = λ p. tt
  nothing-good vt.Bool = λ p. tt
  nothing-good (vt.Enum e) = tt

  select_default-good : (t : ValueType) (cs vs : List Typed) (d : Option Typed) → AllValues c own G cs → AllValues c own G vs → OptionGood c own G d → OkIs (IsGood c own G) (select_default t cs vs d)
  select_default-good t cs vs None x y z =
      then_is (IsAnywhere c own G) (IsGood c own G) (nothing_selected t) _ (nothing-good t) (λ rest anywhere. select_typed-good t cs vs [] rest x y tt (λ p _. anywhere p))
  select_default-good t cs vs (Some d) x y z = then_any (IsGood c own G) (common t d.value_type) _ (λ s. select_typed-good s cs vs (d ∷ []) d.node x y (z, tt) (λ p all. all.0))

  select_values-good : (cs vs : List Typed) (d : Option Typed) → AllValues c own G cs → AllValues c own G vs → OptionGood c own G d → OkIs (IsGood c own G) (select_values cs vs d)
  select_values-good cs [] d x y z = tt
  select_values-good cs (v ∷ vs) d x y z =
      if_is (IsGood c own G) (all_bools cs && (length cs == suc (length vs))) (and_then (common_all v.value_type vs) (λ t. select_default t cs (v ∷ vs) d)) (Err kind.BadType)
      (λ _. then_any (IsGood c own G) (common_all v.value_type vs) (λ t. select_default t cs (v ∷ vs) d) (λ t. select_default-good t cs (v ∷ vs) d x y z)) (λ _. tt)

  select-good : (cs vs : Thing) (d : Result (Option Typed) FormulaKind) → IsGood c own G cs → IsGood c own G vs → OkIs (OptionGood c own G) d → OkIs (IsGood c own G) (select_of cs vs d)
  select-good cs vs d x y z =
      then_is (AreGood c own G) (IsGood c own G) (things_of cs) _ (things-good cs x) (λ xs a. then_is (AllValues c own G) (IsGood c own G) (typed_all xs) _ (typed_all-good xs a) (λ us u.
      then_is (AreGood c own G) (IsGood c own G) (things_of vs) _ (things-good vs y) (λ ys b. then_is (AllValues c own G) (IsGood c own G) (typed_all ys) _ (typed_all-good ys b) (λ ws w.
      then_is (OptionGood c own G) (IsGood c own G) d _ z (λ o g. select_values-good us ws o u w g)))))

  -- Positions

  settled-good : (gs : List CallArgument) → AllGiven c own G gs → OkIs (AllSettled c own G) (settled gs)
  settled-good [] good = tt
  settled-good (g ∷ gs) good =
      then_is (IsGood c own G) (AllSettled c own G) g.thing _ good.0 (λ x a. then_is (AllSettled c own G) (AllSettled c own G) (settled gs) _ (settled-good gs good.1) (λ ss b. (a, b)))

  front-good : (s : Settled) (ps : Positions) → IsGood c own G s.thing → GoodPositions c own G ps → GoodPositions c own G (in_front s ps)
  front-good s (by_position ss) a b = (a, b)
  front-good s (and_keyword ss k x) a b = ((a, b.0), b.1)
  front-good s more_keywords a b = tt

  keyword-good : (k : List ℕ) (x : Thing) (ss : List Settled) → IsGood c own G x → GoodPositions c own G (before_keyword k x ss)
  keyword-good k x [] a = (tt, a)
  keyword-good k x (s ∷ ss) a = tt

  put-good : (o : Option (List ℕ)) (s : Settled) (ss : List Settled) (ps : Positions) → IsGood c own G s.thing → GoodPositions c own G ps → GoodPositions c own G (put o s ss ps)
  put-good None s ss ps a b = front-good s ps a b
  put-good (Some k) s ss ps a b = keyword-good k s.thing ss a

  positions-good : (ss : List Settled) → AllSettled c own G ss → GoodPositions c own G (positions ss)
  positions-good [] good = tt
  positions-good (s ∷ ss) good = put-good s.keyword s ss (positions ss) good.0 (positions-good ss good.1)

  pub settled_then : (gs : List CallArgument) (f : Positions → Result Thing FormulaKind) → AllGiven c own G gs → ((ps : Positions) → GoodPositions c own G ps → OkIs (IsGood c own G) (f ps))
      → OkIs (IsGood c own G) (and_then (settled gs) (λ ss. f (positions ss)))
  settled_then gs f good on = then_is (AllSettled c own G) (IsGood c own G) (settled gs) _ (settled-good gs good) (λ ss a. on (positions ss) (positions-good ss a))

  pub alone-good : (ps : Positions) → GoodPositions c own G ps → OkIs (λ s. IsGood c own G s.thing) (alone ps)
  alone-good (by_position []) good = tt
  alone-good (by_position (s ∷ [])) good = good.0
  alone-good (by_position (s ∷ t ∷ ss)) good = tt
  alone-good (and_keyword ss k x) good = tt
  alone-good more_keywords good = tt

  two-good : (ps : Positions) (f : Settled → Settled → Result Thing FormulaKind) → GoodPositions c own G ps
      → ((a b : Settled) → IsGood c own G a.thing → IsGood c own G b.thing → OkIs (IsGood c own G) (f a b)) → OkIs (IsGood c own G) (two ps f)
  two-good (by_position []) f good on = tt
  two-good (by_position (a ∷ [])) f good on = tt
  two-good (by_position (a ∷ b ∷ [])) f good on = on a b good.0 good.1.0
  two-good (by_position (a ∷ b ∷ d ∷ ss)) f good on = tt
  two-good (and_keyword ss k x) f good on = tt
  two-good more_keywords f good on = tt

  -- Functions

  where_by-good : (ps : Positions) → GoodPositions c own G ps → OkIs (IsGood c own G) (where_by ps)
  where_by-good (by_position []) good = tt
  where_by-good (by_position (q ∷ [])) good = tt
  where_by-good (by_position (q ∷ a ∷ [])) good = tt
  where_by-good (by_position (q ∷ a ∷ b ∷ [])) good =
      then_is (IsGoodValue c own G) (IsGood c own G) (value_of q.thing) _ (value-good q.thing good.0) (λ x u. then_is (IsGoodValue c own G) (IsGood c own G) (value_of a.thing) _ (value-good a.thing good.1.0) (λ y v.
      then_is (IsGoodValue c own G) (IsGood c own G) (value_of b.thing) _ (value-good b.thing good.1.1.0) (λ z w. where-good x y z u v w)))
  where_by-good (by_position (q ∷ a ∷ b ∷ d ∷ ss)) good = tt
  where_by-good (and_keyword ss k x) good = tt
  where_by-good more_keywords good = tt

  default_in-good : (k : List ℕ) (x : Thing) → IsGood c own G x → OkIs (OptionGood c own G) (default_in k x)
  default_in-good k x good =
      if_is (OptionGood c own G) (is k (codes "default")) _ _ (λ _. then_is (IsGoodValue c own G) (OptionGood c own G) (value_of x) _ (value-good x good) (λ v a. a)) (λ _. tt)

  select_by-good : (ps : Positions) → GoodPositions c own G ps → OkIs (IsGood c own G) (select_by ps)
  select_by-good (by_position []) good = tt
  select_by-good (by_position (a ∷ [])) good = tt
  select_by-good (by_position (a ∷ b ∷ [])) good = select-good a.thing b.thing (Ok None) good.0 good.1.0 tt
  select_by-good (by_position (a ∷ b ∷ d ∷ ss)) good = tt
  select_by-good (and_keyword [] k x) good = tt
  select_by-good (and_keyword (a ∷ []) k x) good = tt
  select_by-good (and_keyword (a ∷ b ∷ []) k x) good = select-good a.thing b.thing (default_in k x) good.0.0 good.0.1.0 (default_in-good k x good.1)
  select_by-good (and_keyword (a ∷ b ∷ d ∷ ss) k x) good = tt
  select_by-good more_keywords good = tt

  extreme_all-good : (o : Arithmetic) (x : Thing) (ss : List Settled) → IsGood c own G x → AllSettled c own G ss → OkIs (IsGood c own G) (extreme_all o x ss)
  extreme_all-good o x [] good all = good
  extreme_all-good o x (s ∷ ss) good all =
      then_is (IsGood c own G) (IsGood c own G) (operated (extreme o) x s.thing) _ (operated-good (extreme o) x s.thing (extreme-good o) good all.0) (λ y a. extreme_all-good o y ss a all.1)

  extreme_by-good : (o : Arithmetic) (ps : Positions) → GoodPositions c own G ps → OkIs (IsGood c own G) (extreme_by o ps)
  extreme_by-good o (by_position []) good = tt
  extreme_by-good o (by_position (a ∷ [])) good = tt
  extreme_by-good o (by_position (a ∷ b ∷ ss)) good = extreme_all-good o a.thing (b ∷ ss) good.0 good.1
  extreme_by-good o (and_keyword ss k x) good = tt
  extreme_by-good o more_keywords good = tt

  unary_by-good : (o : Unary) (ps : Positions) → GoodPositions c own G ps → OkIs (IsGood c own G) (unary_by o ps)
  unary_by-good o ps good = then_is (λ s. IsGood c own G s.thing) (IsGood c own G) (alone ps) _ (alone-good ps good) (λ s a. unary-good o s.thing a)

  operator_by-good : (o : Operator) (ps : Positions) → GoodPositions c own G ps → OkIs (IsGood c own G) (operator_by o ps)
  operator_by-good o ps good = two-good ps _ good (λ a b x y. operated-good (operation o) a.thing b.thing (operation-good o) x y)

  round_by-good : (ps : Positions) → GoodPositions c own G ps → OkIs (IsGood c own G) (round_by ps)
  round_by-good (by_position []) good = tt
  round_by-good (by_position (x ∷ [])) good = unary-good (unary.Round (pos 0)) x.thing good.0
  round_by-good (by_position (x ∷ n ∷ [])) good = then_any (IsGood c own G) (places_of n.tree) _ (λ k. unary-good (unary.Round k) x.thing good.0)
  round_by-good (by_position (x ∷ n ∷ m ∷ ss)) good = tt
  round_by-good (and_keyword ss k x) good = tt
  round_by-good more_keywords good = tt

  clip_by-good : (ps : Positions) → GoodPositions c own G ps → OkIs (IsGood c own G) (clip_by ps)
  clip_by-good (by_position []) good = tt
  clip_by-good (by_position (x ∷ [])) good = tt
  clip_by-good (by_position (x ∷ a ∷ [])) good = tt
  clip_by-good (by_position (x ∷ a ∷ b ∷ [])) good =
      then_is (IsGood c own G) (IsGood c own G) (operated (extreme arithm.Max) x.thing a.thing) _ (operated-good (extreme arithm.Max) x.thing a.thing (extreme-good arithm.Max) good.0 good.1.0)
      (λ y u. operated-good (extreme arithm.Min) y b.thing (extreme-good arithm.Min) u good.1.1.0)
  clip_by-good (by_position (x ∷ a ∷ b ∷ d ∷ ss)) good = tt
  clip_by-good (and_keyword ss k x) good = tt
  clip_by-good more_keywords good = tt

  pub function-good : (f : Function) (ps : Positions) → GoodPositions c own G ps → OkIs (IsGood c own G) (function_by f ps)
  function-good function.Where ps good = where_by-good ps good
  function-good function.Select ps good = select_by-good ps good
  function-good function.Min ps good = extreme_by-good arithm.Min ps good
  function-good function.Max ps good = extreme_by-good arithm.Max ps good
  function-good function.Clip ps good = clip_by-good ps good
  function-good function.Not ps good = unary_by-good unary.Not ps good
  function-good function.And ps good = operator_by-good operator.And ps good
  function-good function.Or ps good = operator_by-good operator.Or ps good
  function-good function.Floor ps good = unary_by-good unary.Floor ps good
  function-good function.Ceil ps good = unary_by-good unary.Ceil ps good
  function-good function.Round ps good = round_by-good ps good
  function-good function.Absolute ps good = unary_by-good unary.Absolute ps good

  -- `scale.calc(x)`
  numeric-good : (x : Thing) → IsGood c own G x → OkIs (IsGoodValue c own G) (numeric_of x)
  numeric-good x good =
      then_is (IsGoodValue c own G) (IsGoodValue c own G) (value_of x) _ (value-good x good) (λ v a. if_is (IsGoodValue c own G) (is_numeric v.value_type) _ _ (λ _. a) (λ _. tt))

  pub numeric_then : (x : Thing) → IsGood c own G x → (f : Typed → Result Thing FormulaKind) → ((v : Typed) → IsGoodValue c own G v → OkIs (IsGood c own G) (f v)) → OkIs (IsGood c own G) (and_then (numeric_of x) f)
  numeric_then x good f on = then_is (IsGoodValue c own G) (IsGood c own G) (numeric_of x) f (numeric-good x good) on
