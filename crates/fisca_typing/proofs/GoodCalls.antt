-- What functions give is typed.
use Rattle.std.proofs.Common.{◌≡◌, ℕ, suc, List, [], ◌∷◌, length, Bool, true, false, refl, sym, subst, arith, Option, Some, None}
use Rattle.std.specs.Prelude.{⊤, ℤ, pos, ok_or, ◌==◌, ◌&&◌, if◌then◌else◌, Result, Ok, Err, codes}
use Rattle.std.proofs.lemmas.Bool.{eqb-true, and_parts}
use Rattle.fisca_ast.specs.Words.{is}
use Rattle.fisca_num.specs.Results.{and_then}
use Rattle.fisca_ast.specs.declared.fault.FormulaKind.{FormulaKind}
use Rattle.fisca_ast.specs.declared.fault.FormulaKind.TheVariants as kind
use Rattle.fisca_typing.specs.declared.kinds.Level.{Level}
use Rattle.fisca_typing.specs.declared.kinds.Level.TheVariants as level
use Rattle.fisca_model.specs.declared.value_type.ValueType.{ValueType}
use Rattle.fisca_model.specs.declared.value_type.ValueType.TheVariants as vt
use Rattle.fisca_typing.specs.declared.operations.Arithmetic.{Arithmetic}
use Rattle.fisca_typing.specs.declared.operations.Arithmetic.TheVariants as arithm
use Rattle.fisca_typing.specs.declared.operations.Function.{Function}
use Rattle.fisca_typing.specs.declared.operations.Function.TheVariants as function
use Rattle.fisca_typing.specs.declared.operations.Unary.{Unary}
use Rattle.fisca_typing.specs.declared.operations.Unary.TheVariants as unary
use Rattle.fisca_typing.specs.Periods.{whole}
use Rattle.fisca_ast.specs.Tree.{Tree}
use Rattle.fisca_ast.specs.declared.tree.Operator.{Operator}
use Rattle.fisca_ast.specs.declared.tree.Operator.TheVariants as operator
use Rattle.fisca_typing.specs.Calls.{CallArgument, Settled, Positions, by_position, and_keyword, more_keywords, before_keyword, in_front, put, settled, positions, all_bools, selected, select_typed, select_default, select_values, select_of, default_in, where_by, select_by, alone, two, extreme_all, extreme_by, unary_by, operator_by, places_of, round_by, clip_by, function_by}
use Rattle.fisca_typing.specs.Nodes.{Node}
use Rattle.fisca_typing.specs.Operations.{operated, operation, extreme, is_places, typed_all, common_all, highest, where_of}
use Rattle.fisca_model.specs.Tables.{Tables}
use Rattle.fisca_typing.specs.Things.{Thing, Things, Typed, none, more, value_of, things_of}
use Rattle.fisca_typing.specs.Types.{is_bool, common, higher, is_of_members}
use Rattle.fisca_typing.specs.Wellformed.{Sort, Within, has_places, is_below, IsTyped}
use Rattle.fisca_typing.proofs.Good.{OkIs, then_is, then_any, then_eq, if_is, IsGood, AreGood, IsGoodValue, value-good, things-good, higher-left, higher-right, raised, operated-good, operation-good, extreme-good, unary-good, below-self, common-below, fine}
use Rattle.fisca_typing.proofs.Totals.{bool-is}
use Rattle.fisca_typing.proofs.Weaken.{weaken}

abbrev pub ok : {X : Type 0} → X → Result X FormulaKind
ok x = Ok x

pub steps : {X Y : Type 0} (r : Result X FormulaKind) (f : X → Result Y FormulaKind) (y : Y) → and_then r f ≡ ok y → (x : X) × (r ≡ ok x) × (f x ≡ ok y)
steps (Ok x) f y e = (x, refl, e)
steps (Err k) f y e = cc

level-is : (l m : Level) → ok l ≡ ok m → l ≡ m
level-is l m e = cc

abbrev pub AllValues : Tables → List Sort → List Typed → Type 0
AllValues c G [] = ⊤
AllValues c G (v ∷ vs) = IsGoodValue c G v × AllValues c G vs

-- all are typed where persons are, or where they are not
abbrev AllAt : Tables → List Sort → List Typed → Bool → Type 0
AllAt c G [] p = ⊤
AllAt c G (v ∷ vs) p = IsTyped c G v.node v.value_type p × AllAt c G vs p

abbrev AllBelow : List Typed → ValueType → Type 0
AllBelow [] t = ⊤
AllBelow (v ∷ vs) t = (is_below v.value_type t ≡ true) × AllBelow vs t

typed_all-good : (c : Tables) (G : List Sort) (xs : Things) → AreGood c G xs → OkIs (AllValues c G) (typed_all xs)
typed_all-good c G none good = tt
typed_all-good c G (more x xs) good =
    then_is (IsGoodValue c G) (AllValues c G) (value_of x) _ (value-good c G x good.0) (λ v a. then_is (AllValues c G) (AllValues c G) (typed_all xs) _ (typed_all-good c G xs good.1) (λ vs b. (a, b)))

all-raised : (c : Tables) (G : List Sort) (vs : List Typed) (p q : Bool) → Within p q → AllAt c G vs p → AllAt c G vs q
all-raised c G [] p q up all = tt
all-raised c G (v ∷ vs) p q up all = (weaken c G G (λ i s e. e) v.node v.value_type p q up all.0, all-raised c G vs p q up all.1)

highest-all : (c : Tables) (G : List Sort) (l : Level) (vs : List Typed) (m : Level) → highest l vs ≡ ok m → AllValues c G vs → Within (is_of_members l) (is_of_members m) × AllAt c G vs (is_of_members m)
highest-all c G l [] m e good = (λ w. subst (λ x. is_of_members x ≡ true) (level-is l m e) w, tt)
highest-all c G l (v ∷ vs) m e good =
    let x = steps (higher l v.level) (λ k. highest k vs) m e in let r = highest-all c G x.0 vs m x.2 good.1 in
    (λ w. r.0 (higher-left l v.level x.0 x.1 w), (raised c G v m (λ w. r.0 (higher-right l v.level x.0 x.1 w)) good.0, r.1))

-- `where`

condition : (b : Bool) (r s t : ValueType) → (if b then common r s else Err kind.BadType) ≡ fine t → (b ≡ true) × (common r s ≡ fine t)
condition true r s t e = (refl, e)
condition false r s t e = cc

as_bool : (c : Tables) (G : List Sort) (n : Node) (t : ValueType) (p : Bool) → is_bool t ≡ true → IsTyped c G n t p → IsTyped c G n vt.Bool p
as_bool c G n t p b typed = subst (λ x. IsTyped c G n x p) (bool-is t b) typed

where-good : (c : Tables) (G : List Sort) (q a b : Typed) → IsGoodValue c G q → IsGoodValue c G a → IsGoodValue c G b → OkIs (IsGood c G) (where_of q a b)
where-good c G q a b x y z =
    then_eq (IsGood c G) (if is_bool q.value_type then common a.value_type b.value_type else Err kind.BadType) _ (λ t e.
    then_eq (IsGood c G) (highest q.level (a ∷ b ∷ [])) _ (λ l h.
    let k = condition (is_bool q.value_type) a.value_type b.value_type t e in let u = common-below a.value_type b.value_type t k.1 in
    let r = highest-all c G q.level (a ∷ b ∷ []) l h (y, (z, tt)) in
    (a.value_type, b.value_type, u.0, u.1, as_bool c G q.node q.value_type _ k.0 (raised c G q l r.0 x), r.1.0, r.1.1.0)))

-- `select`

below-trans : (r s t : ValueType) → is_below r s ≡ true → is_below s t ≡ true → is_below r t ≡ true
below-trans vt.Number vt.Number t p q = q
below-trans vt.Number vt.Bool t p q = cc
below-trans vt.Number (vt.Enum f) t p q = cc
below-trans vt.Bool vt.Number vt.Number p q = refl
below-trans vt.Bool vt.Number vt.Bool p q = cc
below-trans vt.Bool vt.Number (vt.Enum f) p q = cc
below-trans vt.Bool vt.Bool t p q = q
below-trans vt.Bool (vt.Enum f) t p q = cc
below-trans (vt.Enum e) vt.Number t p q = cc
below-trans (vt.Enum e) vt.Bool t p q = cc
below-trans (vt.Enum e) (vt.Enum f) t p q = subst (λ x. is_below (vt.Enum x) t ≡ true) (sym (eqb-true e f p)) q

type-is : (s t : ValueType) → fine s ≡ fine t → s ≡ t
type-is s t e = cc

all-below-up : (vs : List Typed) (s t : ValueType) → is_below s t ≡ true → AllBelow vs s → AllBelow vs t
all-below-up [] s t b all = tt
all-below-up (v ∷ vs) s t b all = (below-trans v.value_type s t all.0 b, all-below-up vs s t b all.1)

common_all-below : (t : ValueType) (vs : List Typed) (u : ValueType) → common_all t vs ≡ fine u → (is_below t u ≡ true) × AllBelow vs u
common_all-below t [] u e = (subst (λ x. is_below t x ≡ true) (type-is t u e) (below-self t), tt)
common_all-below t (v ∷ vs) u e =
    let x = steps (common t v.value_type) (λ s. common_all s vs) u e in let b = common-below t v.value_type x.0 x.1 in let r = common_all-below x.0 vs u x.2 in
    (below-trans t x.0 u b.0 r.0, (below-trans v.value_type x.0 u b.1 r.0, r.1))

-- the rest of a selection has a type below
abbrev IsBelow : Tables → List Sort → Node → ValueType → Bool → Type 0
IsBelow c G n t p = (u : ValueType) × (is_below u t ≡ true) × IsTyped c G n u p

selected-below : (c : Tables) (G : List Sort) (cs vs : List Typed) (rest : Node) (t : ValueType) (p : Bool) → all_bools cs ≡ true → AllAt c G cs p → AllAt c G vs p → AllBelow vs t → IsBelow c G rest t p → IsBelow c G (selected cs vs rest) t p
selected-below c G [] vs rest t p bools a b all r = r
selected-below c G (q ∷ cs) [] rest t p bools a b all r = r
selected-below c G (q ∷ cs) (v ∷ vs) rest t p bools a b all r =
    let k = and_parts (is_bool q.value_type) (all_bools cs) bools in let i = selected-below c G cs vs rest t p k.1 a.1 b.1 all.1 r in
    (t, below-self t, (v.value_type, i.0, all.0, i.1, as_bool c G q.node q.value_type p k.0 a.0, b.0, i.2))

selected-typed : (c : Tables) (G : List Sort) (cs : List Typed) (v : Typed) (vs : List Typed) (rest : Node) (t : ValueType) (p : Bool) → (length cs == suc (length vs)) ≡ true → all_bools cs ≡ true → AllAt c G cs p → AllAt c G (v ∷ vs) p → AllBelow (v ∷ vs) t → IsBelow c G rest t p → IsTyped c G (selected cs (v ∷ vs) rest) t p
selected-typed c G [] v vs rest t p n bools a b all r = absurd (omega (arith, eqb-true 0 (suc (length vs)) n))
selected-typed c G (q ∷ cs) v vs rest t p n bools a b all r =
    let k = and_parts (is_bool q.value_type) (all_bools cs) bools in let i = selected-below c G cs vs rest t p k.1 a.1 b.1 all.1 r in
    (v.value_type, i.0, all.0, i.1, as_bool c G q.node q.value_type p k.0 a.0, b.0, i.2)

select_typed-good : (c : Tables) (G : List Sort) (t : ValueType) (cs : List Typed) (v : Typed) (vs ds : List Typed) (rest : Node) → (length cs == suc (length vs)) ≡ true → all_bools cs ≡ true → AllValues c G cs → AllValues c G (v ∷ vs) → AllBelow (v ∷ vs) t → AllValues c G ds → ((p : Bool) → AllAt c G ds p → IsBelow c G rest t p) → OkIs (IsGood c G) (select_typed t cs (v ∷ vs) ds rest)
select_typed-good c G t cs v vs ds rest n bools a b all d r =
    then_eq (IsGood c G) (highest level.Constant cs) _ (λ l e. then_eq (IsGood c G) (highest l (v ∷ vs)) _ (λ m f. then_eq (IsGood c G) (highest m ds) _ (λ k h.
    let x = highest-all c G level.Constant cs l e a in let y = highest-all c G l (v ∷ vs) m f b in let z = highest-all c G m ds k h d in
    selected-typed c G cs v vs rest t (is_of_members k) n bools (all-raised c G cs _ _ (λ w. z.0 (y.0 w)) x.1) (all-raised c G (v ∷ vs) _ _ z.0 y.1) all (r (is_of_members k) z.1))))

abbrev OptionGood : Tables → List Sort → Option Typed → Type 0
OptionGood c G None = ⊤
OptionGood c G (Some d) = IsGoodValue c G d

default-good : (c : Tables) (G : List Sort) (t : ValueType) (cs : List Typed) (v : Typed) (vs : List Typed) (d : Option Typed) → (length cs == suc (length vs)) ≡ true → all_bools cs ≡ true → AllValues c G cs → AllValues c G (v ∷ vs) → AllBelow (v ∷ vs) t → OptionGood c G d → OkIs (IsGood c G) (select_default t cs (v ∷ vs) d)
default-good c G vt.Number cs v vs None n bools a b all good = select_typed-good c G vt.Number cs v vs [] _ n bools a b all tt (λ p _. (vt.Number, refl, refl))
default-good c G vt.Bool cs v vs None n bools a b all good = select_typed-good c G vt.Bool cs v vs [] _ n bools a b all tt (λ p _. (vt.Bool, refl, refl))
default-good c G (vt.Enum e) cs v vs None n bools a b all good = tt
default-good c G t cs v vs (Some d) n bools a b all good =
    then_eq (IsGood c G) (common t d.value_type) _ (λ s e. let k = common-below t d.value_type s e in
    select_typed-good c G s cs v vs (d ∷ []) d.node n bools a b (all-below-up (v ∷ vs) t s k.0 all) (good, tt) (λ p x. (d.value_type, k.1, x.0)))

values-good : (c : Tables) (G : List Sort) (cs vs : List Typed) (d : Option Typed) → AllValues c G cs → AllValues c G vs → OptionGood c G d → OkIs (IsGood c G) (select_values cs vs d)
values-good c G cs [] d a b good = tt
values-good c G cs (v ∷ vs) d a b good =
    if_is (IsGood c G) (all_bools cs && (length cs == suc (length vs))) _ _ (λ e. let k = and_parts (all_bools cs) (length cs == suc (length vs)) e in
    then_eq (IsGood c G) (common_all v.value_type vs) _ (λ t h. default-good c G t cs v vs d k.1 k.0 a b (common_all-below v.value_type vs t h) good)) (λ _. tt)

select-good : (c : Tables) (G : List Sort) (x y : Thing) (d : Result (Option Typed) FormulaKind) → IsGood c G x → IsGood c G y → OkIs (OptionGood c G) d → OkIs (IsGood c G) (select_of x y d)
select-good c G x y d good too three =
    then_is (AreGood c G) (IsGood c G) (things_of x) _ (things-good c G x good) (λ xs a. then_is (AllValues c G) (IsGood c G) (typed_all xs) _ (typed_all-good c G xs a) (λ us u.
    then_is (AreGood c G) (IsGood c G) (things_of y) _ (things-good c G y too) (λ ys b. then_is (AllValues c G) (IsGood c G) (typed_all ys) _ (typed_all-good c G ys b) (λ ws w.
    then_is (OptionGood c G) (IsGood c G) d _ three (λ z h. values-good c G us ws z u w h)))))

-- Arguments

abbrev pub AllGiven : Tables → List Sort → List CallArgument → Type 0
AllGiven c G [] = ⊤
AllGiven c G (g ∷ gs) = OkIs (IsGood c G) g.thing × AllGiven c G gs

abbrev AllSettled : Tables → List Sort → List Settled → Type 0
AllSettled c G [] = ⊤
AllSettled c G (s ∷ ss) = IsGood c G s.thing × AllSettled c G ss

abbrev pub GoodPositions : Tables → List Sort → Positions → Type 0
GoodPositions c G (by_position ss) = AllSettled c G ss
GoodPositions c G (and_keyword ss k x) = AllSettled c G ss × IsGood c G x
GoodPositions c G more_keywords = ⊤

pub settled-good : (c : Tables) (G : List Sort) (gs : List CallArgument) → AllGiven c G gs → OkIs (AllSettled c G) (settled gs)
settled-good c G [] good = tt
settled-good c G (g ∷ gs) good =
    then_is (IsGood c G) (AllSettled c G) g.thing _ good.0 (λ x a. then_is (AllSettled c G) (AllSettled c G) (settled gs) _ (settled-good c G gs good.1) (λ ss b. (a, b)))

front-good : (c : Tables) (G : List Sort) (s : Settled) (ps : Positions) → IsGood c G s.thing → GoodPositions c G ps → GoodPositions c G (in_front s ps)
front-good c G s (by_position ss) a b = (a, b)
front-good c G s (and_keyword ss k x) a b = ((a, b.0), b.1)
front-good c G s more_keywords a b = tt

keyword-good : (c : Tables) (G : List Sort) (k : List ℕ) (x : Thing) (ss : List Settled) → IsGood c G x → GoodPositions c G (before_keyword k x ss)
keyword-good c G k x [] a = (tt, a)
keyword-good c G k x (s ∷ ss) a = tt

put-good : (c : Tables) (G : List Sort) (o : Option (List ℕ)) (s : Settled) (ss : List Settled) (ps : Positions) → IsGood c G s.thing → GoodPositions c G ps → GoodPositions c G (put o s ss ps)
put-good c G None s ss ps a b = front-good c G s ps a b
put-good c G (Some k) s ss ps a b = keyword-good c G k s.thing ss a

pub positions-good : (c : Tables) (G : List Sort) (ss : List Settled) → AllSettled c G ss → GoodPositions c G (positions ss)
positions-good c G [] good = tt
positions-good c G (s ∷ ss) good = put-good c G s.keyword s ss (positions ss) good.0 (positions-good c G ss good.1)

abbrev pub IsSettled : Tables → List Sort → Settled → Type 0
IsSettled c G s = IsGood c G s.thing

pub alone-good : (c : Tables) (G : List Sort) (ps : Positions) → GoodPositions c G ps → OkIs (IsSettled c G) (alone ps)
alone-good c G (by_position []) good = tt
alone-good c G (by_position (s ∷ [])) good = good.0
alone-good c G (by_position (s ∷ t ∷ ss)) good = tt
alone-good c G (and_keyword ss k x) good = tt
alone-good c G more_keywords good = tt

two-good : (c : Tables) (G : List Sort) (ps : Positions) (f : Settled → Settled → Result Thing FormulaKind) → GoodPositions c G ps → ((a b : Settled) → IsSettled c G a → IsSettled c G b → OkIs (IsGood c G) (f a b)) → OkIs (IsGood c G) (two ps f)
two-good c G (by_position []) f good on = tt
two-good c G (by_position (a ∷ [])) f good on = tt
two-good c G (by_position (a ∷ b ∷ [])) f good on = on a b good.0 good.1.0
two-good c G (by_position (a ∷ b ∷ d ∷ ss)) f good on = tt
two-good c G (and_keyword ss k x) f good on = tt
two-good c G more_keywords f good on = tt

where_by-good : (c : Tables) (G : List Sort) (ps : Positions) → GoodPositions c G ps → OkIs (IsGood c G) (where_by ps)
where_by-good c G (by_position []) good = tt
where_by-good c G (by_position (q ∷ [])) good = tt
where_by-good c G (by_position (q ∷ a ∷ [])) good = tt
where_by-good c G (by_position (q ∷ a ∷ b ∷ [])) good =
    then_is (IsGoodValue c G) (IsGood c G) (value_of q.thing) _ (value-good c G q.thing good.0) (λ x u. then_is (IsGoodValue c G) (IsGood c G) (value_of a.thing) _ (value-good c G a.thing good.1.0) (λ y v.
    then_is (IsGoodValue c G) (IsGood c G) (value_of b.thing) _ (value-good c G b.thing good.1.1.0) (λ z w. where-good c G x y z u v w)))
where_by-good c G (by_position (q ∷ a ∷ b ∷ d ∷ ss)) good = tt
where_by-good c G (and_keyword ss k x) good = tt
where_by-good c G more_keywords good = tt

default_in-good : (c : Tables) (G : List Sort) (k : List ℕ) (x : Thing) → IsGood c G x → OkIs (OptionGood c G) (default_in k x)
default_in-good c G k x good =
    if_is (OptionGood c G) (is k (codes "default")) _ _ (λ _. then_is (IsGoodValue c G) (OptionGood c G) (value_of x) _ (value-good c G x good) (λ v a. a)) (λ _. tt)

select_by-good : (c : Tables) (G : List Sort) (ps : Positions) → GoodPositions c G ps → OkIs (IsGood c G) (select_by ps)
select_by-good c G (by_position []) good = tt
select_by-good c G (by_position (a ∷ [])) good = tt
select_by-good c G (by_position (a ∷ b ∷ [])) good = select-good c G a.thing b.thing (Ok None) good.0 good.1.0 tt
select_by-good c G (by_position (a ∷ b ∷ d ∷ ss)) good = tt
select_by-good c G (and_keyword [] k x) good = tt
select_by-good c G (and_keyword (a ∷ []) k x) good = tt
select_by-good c G (and_keyword (a ∷ b ∷ []) k x) good = select-good c G a.thing b.thing (default_in k x) good.0.0 good.0.1.0 (default_in-good c G k x good.1)
select_by-good c G (and_keyword (a ∷ b ∷ d ∷ ss) k x) good = tt
select_by-good c G more_keywords good = tt

extreme_all-good : (c : Tables) (G : List Sort) (o : Arithmetic) (x : Thing) (ss : List Settled) → IsGood c G x → AllSettled c G ss → OkIs (IsGood c G) (extreme_all o x ss)
extreme_all-good c G o x [] good all = good
extreme_all-good c G o x (s ∷ ss) good all =
    then_is (IsGood c G) (IsGood c G) (operated (extreme o) x s.thing) _ (operated-good c G (extreme o) x s.thing (extreme-good c G o) good all.0) (λ y a. extreme_all-good c G o y ss a all.1)

extreme_by-good : (c : Tables) (G : List Sort) (o : Arithmetic) (ps : Positions) → GoodPositions c G ps → OkIs (IsGood c G) (extreme_by o ps)
extreme_by-good c G o (by_position []) good = tt
extreme_by-good c G o (by_position (a ∷ [])) good = tt
extreme_by-good c G o (by_position (a ∷ b ∷ ss)) good = extreme_all-good c G o a.thing (b ∷ ss) good.0 good.1
extreme_by-good c G o (and_keyword ss k x) good = tt
extreme_by-good c G o more_keywords good = tt

abbrev HasPlaces : ℤ → Type 0
HasPlaces n = is_places n ≡ true

places-good : (k : Tree) → OkIs HasPlaces (places_of k)
places-good k = then_any HasPlaces (ok_or (whole k) kind.BadType) _ (λ n. if_is HasPlaces (is_places n) _ _ (λ e. e) (λ _. tt))

unary_by-good : (c : Tables) (G : List Sort) (o : Unary) (ps : Positions) → has_places o ≡ true → GoodPositions c G ps → OkIs (IsGood c G) (unary_by o ps)
unary_by-good c G o ps has good = then_is (IsSettled c G) (IsGood c G) (alone ps) _ (alone-good c G ps good) (λ s a. unary-good c G o has s.thing a)

operator_by-good : (c : Tables) (G : List Sort) (o : Operator) (ps : Positions) → GoodPositions c G ps → OkIs (IsGood c G) (operator_by o ps)
operator_by-good c G o ps good = two-good c G ps _ good (λ a b x y. operated-good c G (operation o) a.thing b.thing (operation-good c G o) x y)

round_by-good : (c : Tables) (G : List Sort) (ps : Positions) → GoodPositions c G ps → OkIs (IsGood c G) (round_by ps)
round_by-good c G (by_position []) good = tt
round_by-good c G (by_position (x ∷ [])) good = unary-good c G (unary.Round (pos 0)) refl x.thing good.0
round_by-good c G (by_position (x ∷ n ∷ [])) good = then_is HasPlaces (IsGood c G) (places_of n.tree) _ (places-good n.tree) (λ k has. unary-good c G (unary.Round k) has x.thing good.0)
round_by-good c G (by_position (x ∷ n ∷ m ∷ ss)) good = tt
round_by-good c G (and_keyword ss k x) good = tt
round_by-good c G more_keywords good = tt

clip_by-good : (c : Tables) (G : List Sort) (ps : Positions) → GoodPositions c G ps → OkIs (IsGood c G) (clip_by ps)
clip_by-good c G (by_position []) good = tt
clip_by-good c G (by_position (x ∷ [])) good = tt
clip_by-good c G (by_position (x ∷ a ∷ [])) good = tt
clip_by-good c G (by_position (x ∷ a ∷ b ∷ [])) good =
    then_is (IsGood c G) (IsGood c G) (operated (extreme arithm.Max) x.thing a.thing) _ (operated-good c G (extreme arithm.Max) x.thing a.thing (extreme-good c G arithm.Max) good.0 good.1.0)
    (λ y u. operated-good c G (extreme arithm.Min) y b.thing (extreme-good c G arithm.Min) u good.1.1.0)
clip_by-good c G (by_position (x ∷ a ∷ b ∷ d ∷ ss)) good = tt
clip_by-good c G (and_keyword ss k x) good = tt
clip_by-good c G more_keywords good = tt

pub function-good : (c : Tables) (G : List Sort) (f : Function) (ps : Positions) → GoodPositions c G ps → OkIs (IsGood c G) (function_by f ps)
function-good c G function.Where ps good = where_by-good c G ps good
function-good c G function.Select ps good = select_by-good c G ps good
function-good c G function.Min ps good = extreme_by-good c G arithm.Min ps good
function-good c G function.Max ps good = extreme_by-good c G arithm.Max ps good
function-good c G function.Clip ps good = clip_by-good c G ps good
function-good c G function.Not ps good = unary_by-good c G unary.Not ps refl good
function-good c G function.And ps good = operator_by-good c G operator.And ps good
function-good c G function.Or ps good = operator_by-good c G operator.Or ps good
function-good c G function.Floor ps good = unary_by-good c G unary.Floor ps refl good
function-good c G function.Ceil ps good = unary_by-good c G unary.Ceil ps refl good
function-good c G function.Round ps good = round_by-good c G ps good
function-good c G function.Absolute ps good = unary_by-good c G unary.Absolute ps refl good
