-- Formulas that have a type are typed.
use Rattle.std.proofs.Common.{◌≡◌, ℕ, suc, ◌+◌, ◌<◌, List, [], ◌∷◌, length, Bool, true, false, refl, arith, lt-ltb, Option, Some, None}
use Rattle.std.specs.Prelude.{⊤, if◌then◌else◌, ok_or, option_map, Result, Ok, Err, codes}
use Rattle.std.specs.List.{position_from}
use Rattle.std.specs.Str.{bytes_eq}
use Rattle.fisca_num.specs.declared.faults.NumFault.{NumFault}
use Rattle.fisca_num.specs.Number.{Number}
use Rattle.fisca_num.specs.Literal.{number_of_literal}
use Rattle.fisca_ast.specs.Words.{is}
use Rattle.fisca_ast.specs.Tree.{Tree, Series, Argument}
use Rattle.fisca_ast.specs.Tree as tree
use Rattle.fisca_ast.specs.declared.tree.Delimiter.{Delimiter}
use Rattle.fisca_ast.specs.declared.tree.Delimiter.TheVariants as bracket
use Rattle.fisca_ast.specs.declared.tree.Suffix.{Suffix}
use Rattle.fisca_ast.specs.declared.tree.Suffix.TheVariants as suffix
use Rattle.fisca_ast.specs.declared.fault.FormulaKind.{FormulaKind}
use Rattle.fisca_ast.specs.declared.fault.FormulaKind.TheVariants as kind
use Rattle.fisca_model.specs.declared.role_place.RolePlace.{RolePlace}
use Rattle.fisca_typing.specs.declared.kinds.Level.TheVariants as level
use Rattle.fisca_model.specs.declared.value_type.ValueType.{ValueType}
use Rattle.fisca_model.specs.declared.value_type.ValueType.TheVariants as vt
use Rattle.fisca_typing.specs.declared.moves.Move.{Move}
use Rattle.fisca_typing.specs.declared.operations.Method.{Method}
use Rattle.fisca_typing.specs.Asks.{is_members, group_led_to, count_behind, method_attribute, some_method, method_named, relation_named, to_group, to_holder, to_self}
use Rattle.fisca_typing.specs.Calls.{CallArgument, Positions, by_position, and_keyword, more_keywords, alone, offset_of, reader_by}
use Rattle.fisca_typing.specs.Names.{Names, Local, named, local_named, argument_named, has_name, known_word, added_word, declared, library_function, added_function}
use Rattle.fisca_typing.specs.Operations.{operation, comparison_of}
use Rattle.fisca_typing.specs.Periods.{period_attribute, start_attribute, whole, unit_named}
use Rattle.fisca_model.specs.Tables.{Tables, otherwise, place_in, members_at, member_named, role_of_constant, roles_at, is_person_at}
use Rattle.fisca_typing.specs.Things.{Thing, Relation, value, period, start, offset, reader, nodes, scale, calculation, enumeration, choices, entity, role, asker, method, group_count, library, function, option, text, listed, value_of, nodes_of, text_of, instant_of}
use Rattle.fisca_typing.specs.Typing.{number_thing, value_attribute, member_at, role_at, attribute_of, not_called, called, is_positional, elements, only, in_brackets, with_suffix, thing_of, all_given, given_of}
use Rattle.fisca_typing.specs.Wellformed.{Sort}
use Rattle.fisca_typing.proofs.Good.{OkIs, then_is, then_any, if_is, IsGood, AreGood, IsGoodValue, AreGoodNodes, IsGoodRelation, value-good, nodes-good, operated-good, operation-good, comparison-good, prefixed-good}
use Rattle.fisca_typing.proofs.GoodAsks.{count-good, root-good, node_attribute-good, subscripted-good, asked_with-good, settled_positions-good, method_called-good, calculation-good}
use Rattle.fisca_typing.proofs.GoodCalls.{AllGiven, function-good}

abbrev pub LocalsGood : Tables → List Sort → List Local → Type 0
LocalsGood c G [] = ⊤
LocalsGood c G (l ∷ ls) = IsGood c G l.thing × LocalsGood c G ls

-- Names

abbrev OptionIs : Tables → List Sort → Option Thing → Type 0
OptionIs c G None = ⊤
OptionIs c G (Some x) = IsGood c G x

or_is : (c : Tables) (G : List Sort) (o p : Option Thing) → OptionIs c G o → OptionIs c G p → OptionIs c G (otherwise o p)
or_is c G None p a b = b
or_is c G (Some x) p a b = a

there_is : (c : Tables) (G : List Sort) (o : Option Thing) (k : FormulaKind) → OptionIs c G o → OkIs (IsGood c G) (ok_or o k)
there_is c G None k a = tt
there_is c G (Some x) k a = a

if_some : (c : Tables) (G : List Sort) (b : Bool) (o p : Option Thing) → OptionIs c G o → OptionIs c G p → OptionIs c G (if b then o else p)
if_some c G true o p a b = a
if_some c G false o p a b = b

local-named : (c : Tables) (G : List Sort) (ls : List Local) (t : List ℕ) → LocalsGood c G ls → OptionIs c G (local_named ls t)
local-named c G [] t good = tt
local-named c G (l ∷ ls) t good = if_some c G (bytes_eq l.name t) (Some l.thing) (local_named ls t) good.0 (local-named c G ls t good.1)

argument-named : (n : Names) (G : List Sort) (t : List ℕ) → OptionIs n.tables G (argument_named n t)
argument-named n G t =
    if_some n.tables G (bytes_eq n.asker_name t) _ _ tt (if_some n.tables G (bytes_eq n.period_name t) _ _ tt (if_some n.tables G (has_name n.reader_name t) _ _ tt tt))

word-known : (c : Tables) (G : List Sort) (t : List ℕ) → OptionIs c G (known_word t)
unfolding known_word
word-known c G t =
    if_some c G (is t (codes "True")) _ _ refl (if_some c G (is t (codes "False")) _ _ refl (if_some c G (is t (codes "where")) _ _ tt
    (if_some c G (is t (codes "select")) _ _ tt (if_some c G (is t (codes "min_")) _ _ tt (if_some c G (is t (codes "max_")) _ _ tt
    (if_some c G (is t (codes "not_")) _ _ tt (if_some c G (is t (codes "np")) _ _ tt (if_some c G (is t (codes "numpy")) _ _ tt
    (if_some c G (is t (codes "ADD")) _ _ tt (if_some c G (is t (codes "DIVIDE")) _ _ tt tt))))))))))

word-added : (c : Tables) (G : List Sort) (t : List ℕ) → OptionIs c G (added_word t)
unfolding added_word
word-added c G t =
    if_some c G (is t (codes "round_")) _ _ tt (if_some c G (is t (codes "floor")) _ _ tt (if_some c G (is t (codes "ceil")) _ _ tt
    (if_some c G (is t (codes "abs_")) _ _ tt (if_some c G (is t (codes "clip")) _ _ tt tt))))

enum-some : (c : Tables) (G : List Sort) (o : Option ℕ) → OptionIs c G (option_map enumeration o)
enum-some c G None = tt
enum-some c G (Some e) = tt

entity-some : (c : Tables) (G : List Sort) (o : Option ℕ) → OptionIs c G (option_map entity o)
entity-some c G None = tt
entity-some c G (Some e) = tt

declared-some : (c : Tables) (G : List Sort) (t : List ℕ) → OptionIs c G (declared c t)
declared-some c G t =
    or_is c G (option_map enumeration (place_in (λ e. bytes_eq e.name t) c.enums)) (option_map entity (place_in (λ e. bytes_eq e.constant t) c.entities))
    (enum-some c G (place_in (λ e. bytes_eq e.name t) c.enums)) (entity-some c G (place_in (λ e. bytes_eq e.constant t) c.entities))

named-good : (n : Names) (G : List Sort) (t : List ℕ) → LocalsGood n.tables G n.locals → OkIs (IsGood n.tables G) (named n t)
named-good n G t good =
    there_is n.tables G _ kind.UnknownName (or_is n.tables G (local_named n.locals t) _ (local-named n.tables G n.locals t good) (or_is n.tables G (argument_named n t) _ (argument-named n G t)
    (or_is n.tables G (known_word t) _ (word-known n.tables G t) (or_is n.tables G (declared n.tables t) (added_word t) (declared-some n.tables G t) (word-added n.tables G t)))))

-- Names behind a point

value_attribute-good : (c : Tables) (G : List Sort) (t : List ℕ) (s : ValueType) → OkIs (IsGood c G) (value_attribute t s)
value_attribute-good c G t vt.Number = tt
value_attribute-good c G t vt.Bool = tt
value_attribute-good c G t (vt.Enum e) = if_is (IsGood c G) (is t (codes "possible_values")) _ _ (λ _. tt) (λ _. tt)

period_attribute-good : (c : Tables) (G : List Sort) (t : List ℕ) (ms : List Move) → OkIs (IsGood c G) (period_attribute t ms)
unfolding period_attribute
period_attribute-good c G t ms =
    if_is (IsGood c G) (is t (codes "this_year")) _ _ (λ _. tt) (λ _. if_is (IsGood c G) (is t (codes "first_month")) _ _ (λ _. tt) (λ _.
    if_is (IsGood c G) (is t (codes "first_day")) _ _ (λ _. tt) (λ _. if_is (IsGood c G) (is t (codes "last_month")) _ _ (λ _. tt) (λ _.
    if_is (IsGood c G) (is t (codes "last_3_months")) _ _ (λ _. tt) (λ _. if_is (IsGood c G) (is t (codes "last_year")) _ _ (λ _. tt) (λ _.
    if_is (IsGood c G) (is t (codes "n_2")) _ _ (λ _. tt) (λ _. if_is (IsGood c G) (is t (codes "start")) _ _ (λ _. tt) (λ _.
    if_is (IsGood c G) (is t (codes "offset")) _ _ (λ _. tt) (λ _. tt)))))))))

start_attribute-good : (c : Tables) (G : List Sort) (t : List ℕ) (ms : List Move) → OkIs (IsGood c G) (start_attribute t ms)
unfolding start_attribute
start_attribute-good c G t ms =
    if_is (IsGood c G) (is t (codes "year")) _ _ (λ _. refl) (λ _. if_is (IsGood c G) (is t (codes "month")) _ _ (λ _. refl) (λ _.
    if_is (IsGood c G) (is t (codes "day")) _ _ (λ _. refl) (λ _. tt)))

added-good : (c : Tables) (G : List Sort) (t : List ℕ) → OkIs (IsGood c G) (added_function t)
unfolding added_function
added-good c G t =
    if_is (IsGood c G) (is t (codes "round")) _ _ (λ _. tt) (λ _. if_is (IsGood c G) (is t (codes "floor")) _ _ (λ _. tt) (λ _.
    if_is (IsGood c G) (is t (codes "ceil")) _ _ (λ _. tt) (λ _. if_is (IsGood c G) (is t (codes "abs")) _ _ (λ _. tt) (λ _.
    if_is (IsGood c G) (is t (codes "absolute")) _ _ (λ _. tt) (λ _. if_is (IsGood c G) (is t (codes "clip")) _ _ (λ _. tt) (λ _.
    if_is (IsGood c G) (is t (codes "logical_and")) _ _ (λ _. tt) (λ _. if_is (IsGood c G) (is t (codes "logical_or")) _ _ (λ _. tt) (λ _. tt))))))))

library-good : (c : Tables) (G : List Sort) (t : List ℕ) → OkIs (IsGood c G) (library_function t)
unfolding library_function
library-good c G t =
    if_is (IsGood c G) (is t (codes "where")) _ _ (λ _. tt) (λ _. if_is (IsGood c G) (is t (codes "select")) _ _ (λ _. tt) (λ _.
    if_is (IsGood c G) (is t (codes "minimum")) _ _ (λ _. tt) (λ _. if_is (IsGood c G) (is t (codes "maximum")) _ _ (λ _. tt) (λ _.
    if_is (IsGood c G) (is t (codes "logical_not")) _ _ (λ _. tt) (λ _. added-good c G t)))))

place-is : (k i : ℕ) → Some k ≡ Some i → k ≡ i
place-is k i e = cc

position-by : {X : Type 0} (b : Bool) (k i : ℕ) (o : Option ℕ) (xs : List X) → (if b then Some k else o) ≡ Some i → (o ≡ Some i → i < k + 1 + length xs) → i < k + suc (length xs)
position-by true k i o xs e rest = let q = place-is k i e in omega (arith, q)
position-by false k i o xs e rest = let q = rest e in omega (arith, q)

position-below : {X : Type 0} (test : X → Bool) (k : ℕ) (xs : List X) (i : ℕ) → position_from test k xs ≡ Some i → i < k + length xs
position-below test k [] i e = cc
position-below test k (x ∷ xs) i e = position-by (test x) k i (position_from test (k + 1) xs) xs e (position-below test (k + 1) xs i)

member-good : (c : Tables) (G : List Sort) (e : ℕ) (t : List ℕ) (o : Option ℕ) → member_named c e t ≡ o → OkIs (IsGood c G) (member_at e o)
member-good c G e t None h = tt
member-good c G e t (Some i) h = (refl, lt-ltb i (length (members_at c e)) (let q = position-below (λ m. bytes_eq m t) 0 (members_at c e) i h in omega (arith, q)))

role-good : (c : Tables) (G : List Sort) (g : ℕ) (o : Option RolePlace) → OkIs (IsGood c G) (role_at g o)
role-good c G g None = tt
role-good c G g (Some r) = tt

some_method-good : (c : Tables) (G : List Sort) (m : Option Method) (r : Option Relation) → IsGoodRelation r → OkIs (IsGood c G) (some_method m r)
some_method-good c G None None good = tt
some_method-good c G None (Some r) good = good
some_method-good c G (Some m) r good = good

count_behind-good : (c : Tables) (G : List Sort) (t : List ℕ) (o : Option ℕ) → OkIs (IsGood c G) (count_behind t o)
count_behind-good c G t None = tt
count_behind-good c G t (Some g) = if_is (IsGood c G) (is t (codes "nb_persons")) _ _ (λ _. tt) (λ _. tt)

method_attribute-good : (c : Tables) (G : List Sort) (t : List ℕ) (m : Option Method) (r : Option Relation) → OkIs (IsGood c G) (method_attribute t m r)
method_attribute-good c G t m r =
    if_is (IsGood c G) (is_members m) _ _ (λ _. if_is (IsGood c G) (is t (codes "has_role")) _ _ (λ _. tt) (λ _. tt)) (λ _. count_behind-good c G t (group_led_to r))

relation-if : (b : Bool) (r s : Option Relation) → IsGoodRelation r → IsGoodRelation s → IsGoodRelation (if b then r else s)
relation-if true r s a b = a
relation-if false r s a b = b

to-group : (o : Option ℕ) → IsGoodRelation (option_map to_group o)
to-group None = tt
to-group (Some g) = tt

to-holder : (c : Tables) (o : Option RolePlace) → IsGoodRelation (option_map (to_holder c) o)
to-holder c None = tt
to-holder c (Some r) = tt

relation-good : (n : Names) (t : List ℕ) → IsGoodRelation (relation_named n t)
relation-good n t = relation-if (is_person_at n.tables n.entity) _ _ (to-group _) (relation-if (is t (codes "members")) None _ tt (to-holder n.tables _))

attribute-good : (n : Names) (G : List Sort) (t : List ℕ) (x : Thing) → IsGood n.tables G x → OkIs (IsGood n.tables G) (attribute_of n t x)
attribute-good n G t (value v) good = value_attribute-good n.tables G t v.value_type
attribute-good n G t (period ms) good = period_attribute-good n.tables G t ms
attribute-good n G t (start ms) good = start_attribute-good n.tables G t ms
attribute-good n G t (offset ms) good = tt
attribute-good n G t reader good = tt
attribute-good n G t (nodes k) good = node_attribute-good n.tables G t k good
attribute-good n G t (scale i ms) good = if_is (IsGood n.tables G) (is t (codes "calc")) _ _ (λ _. tt) (λ _. tt)
attribute-good n G t (calculation i ms) good = tt
attribute-good n G t (enumeration e) good = member-good n.tables G e t (member_named n.tables e t) refl
attribute-good n G t (choices e) good = member-good n.tables G e t (member_named n.tables e t) refl
attribute-good n G t (entity g) good = role-good n.tables G g (role_of_constant (roles_at n.tables g) t)
attribute-good n G t (role g r) good = tt
attribute-good n G t asker good = some_method-good n.tables G (method_named n t) (relation_named n t) (relation-good n t)
attribute-good n G t (method m r) good = method_attribute-good n.tables G t m r
attribute-good n G t (group_count g) good = tt
attribute-good n G t library good = library-good n.tables G t
attribute-good n G t (function f) good = tt
attribute-good n G t (option a) good = tt
attribute-good n G t (text s) good = tt
attribute-good n G t (listed xs) good = tt

-- Calls

offset-good : (c : Tables) (G : List Sort) (ms : List Move) (ps : Positions) → OkIs (IsGood c G) (offset_of ms ps)
offset-good c G ms (by_position []) = tt
offset-good c G ms (by_position (k ∷ [])) = then_any (IsGood c G) (ok_or (whole k.tree) kind.BadType) _ (λ n. tt)
offset-good c G ms (by_position (k ∷ u ∷ [])) = then_any (IsGood c G) (text_of u.thing) _ (λ t. then_any (IsGood c G) (ok_or (whole k.tree) kind.BadType) _ (λ n. then_any (IsGood c G) (ok_or (unit_named t) kind.BadType) _ (λ m. tt)))
offset-good c G ms (by_position (k ∷ u ∷ v ∷ ss)) = tt
offset-good c G ms (and_keyword ss k x) = tt
offset-good c G ms more_keywords = tt

reader-good : (c : Tables) (G : List Sort) (ps : Positions) → OkIs (IsGood c G) (reader_by c ps)
reader-good c G ps = then_any (IsGood c G) (alone ps) _ (λ s. then_any (IsGood c G) (instant_of s.thing) _ (root-good c G))

not-good : (c : Tables) (G : List Sort) (gs : List CallArgument) → AllGiven c G gs → OkIs (IsGood c G) (not_called gs)
not-good c G gs all = settled_positions-good c G gs (λ ps. Err kind.BadType) all (λ ps _. tt)

called-good : (n : Names) (G : List Sort) (x : Thing) (gs : List CallArgument) → IsGood n.tables G x → AllGiven n.tables G gs → OkIs (IsGood n.tables G) (called n x gs)
called-good n G (value v) gs good all = not-good n.tables G gs all
called-good n G (period ms) gs good all = not-good n.tables G gs all
called-good n G (start ms) gs good all = not-good n.tables G gs all
called-good n G (offset ms) gs good all = settled_positions-good n.tables G gs _ all (λ ps _. offset-good n.tables G ms ps)
called-good n G reader gs good all = settled_positions-good n.tables G gs _ all (λ ps _. reader-good n.tables G ps)
called-good n G (nodes k) gs good all = not-good n.tables G gs all
called-good n G (scale i ms) gs good all = not-good n.tables G gs all
called-good n G (calculation i ms) gs good all = settled_positions-good n.tables G gs _ all (calculation-good n.tables G i ms)
called-good n G (enumeration e) gs good all = not-good n.tables G gs all
called-good n G (choices e) gs good all = not-good n.tables G gs all
called-good n G (entity g) gs good all = not-good n.tables G gs all
called-good n G (role g r) gs good all = not-good n.tables G gs all
called-good n G asker gs good all = asked_with-good n.tables G (to_self n.entity) level.Own gs tt
called-good n G (method m r) gs good all = method_called-good n G m r gs good all
called-good n G (group_count g) gs good all = settled_positions-good n.tables G gs _ all (λ ps _. count-good n.tables G g ps)
called-good n G library gs good all = not-good n.tables G gs all
called-good n G (function f) gs good all = settled_positions-good n.tables G gs _ all (function-good n.tables G f)
called-good n G (option a) gs good all = not-good n.tables G gs all
called-good n G (text s) gs good all = not-good n.tables G gs all
called-good n G (listed xs) gs good all = not-good n.tables G gs all

-- Brackets

elements-good : (c : Tables) (G : List Sort) (gs : List CallArgument) → AllGiven c G gs → OkIs (AreGood c G) (elements gs)
elements-good c G [] all = tt
elements-good c G (g ∷ gs) all =
    then_is (IsGood c G) (AreGood c G) g.thing _ all.0 (λ x a. if_is (AreGood c G) (is_positional g.keyword) _ _ (λ _. then_is (AreGood c G) (AreGood c G) (elements gs) _ (elements-good c G gs all.1) (λ xs b. (a, b))) (λ _. tt))

only-good : (c : Tables) (G : List Sort) (gs : List CallArgument) → AllGiven c G gs → OkIs (IsGood c G) (only gs)
only-good c G [] all = tt
only-good c G (g ∷ []) all = if_is (IsGood c G) (is_positional g.keyword) g.thing _ (λ _. all.0) (λ _. tt)
only-good c G (g ∷ h ∷ gs) all = tt

brackets-good : (c : Tables) (G : List Sort) (b : Delimiter) (gs : List CallArgument) → AllGiven c G gs → OkIs (IsGood c G) (in_brackets b gs)
brackets-good c G bracket.Round gs all = only-good c G gs all
brackets-good c G bracket.Square gs all = then_is (AreGood c G) (IsGood c G) (elements gs) _ (elements-good c G gs all) (λ xs a. a)
brackets-good c G bracket.Curly gs all = tt

suffix-good : (n : Names) (G : List Sort) (s : Suffix) (x : Thing) (gs : List CallArgument) → IsGood n.tables G x → AllGiven n.tables G gs → OkIs (IsGood n.tables G) (with_suffix n s x gs)
suffix-good n G suffix.Call x gs good all = called-good n G x gs good all
suffix-good n G suffix.Subscript x gs good all =
    then_is (IsGood n.tables G) (IsGood n.tables G) (only gs) _ (only-good n.tables G gs all) (λ i a. then_is (AreGoodNodes n.tables G) (IsGood n.tables G) (nodes_of x) _ (nodes-good n.tables G x good) (λ k b.
    then_is (IsGoodValue n.tables G) (IsGood n.tables G) (value_of i) _ (value-good n.tables G i a) (λ v d. subscripted-good n.tables G k v b d)))

number-good : (c : Tables) (G : List Sort) (o : Result Number NumFault) → OkIs (IsGood c G) (number_thing o)
number-good c G (Ok n) = refl
number-good c G (Err e) = tt

module _ (n : Names) (G : List Sort) (locals : LocalsGood n.tables G n.locals) where
  mutual
    pub thing-good : (e : Tree) → OkIs (IsGood n.tables G) (thing_of n e)
    thing-good (tree.name t) = named-good n G t locals
    thing-good (tree.number t) = number-good n.tables G (number_of_literal t)
    thing-good (tree.text t) = tt
    thing-good (tree.bracketed b xs) = brackets-good n.tables G b (all_given n xs) (all-good xs)
    thing-good (tree.attribute e t) = then_is (IsGood n.tables G) (IsGood n.tables G) (thing_of n e) _ (thing-good e) (attribute-good n G t)
    thing-good (tree.applied s f xs) = then_is (IsGood n.tables G) (IsGood n.tables G) (thing_of n f) _ (thing-good f) (λ x a. suffix-good n G s x (all_given n xs) a (all-good xs))
    thing-good (tree.prefixed p e) = then_is (IsGood n.tables G) (IsGood n.tables G) (thing_of n e) _ (thing-good e) (prefixed-good n.tables G p)
    thing-good (tree.binary o a b) = then_is (IsGood n.tables G) (IsGood n.tables G) (thing_of n a) _ (thing-good a) (λ x u. then_is (IsGood n.tables G) (IsGood n.tables G) (thing_of n b) _ (thing-good b) (λ y w. operated-good n.tables G (operation o) x y (operation-good n.tables G o) u w))
    thing-good (tree.compare o a b) = then_is (IsGood n.tables G) (IsGood n.tables G) (thing_of n a) _ (thing-good a) (λ x u. then_is (IsGood n.tables G) (IsGood n.tables G) (thing_of n b) _ (thing-good b) (λ y w. operated-good n.tables G (comparison_of o) x y (comparison-good n.tables G o) u w))

    all-good : (xs : Series) → AllGiven n.tables G (all_given n xs)
    all-good tree.nothing = tt
    all-good (tree.last a) = (given-good a, tt)
    all-good (tree.next a xs) = (given-good a, all-good xs)

    given-good : (a : Argument) → OkIs (IsGood n.tables G) (given_of n a).thing
    given-good (tree.positional e) = thing-good e
    given-good (tree.keyword k e) = thing-good e
    given-good (tree.entry k e) = tt
