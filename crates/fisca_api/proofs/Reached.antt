-- What placed formulas ask for is there, and who is not there, or has no group, is looked up by none.
use Rattle.std.proofs.Common.{◌≡◌, ◌<◌, ℕ, zero, suc, ◌*◌, ◌+◌, List, [], ◌∷◌, ◌++◌, length, Bool, true, false, refl, ap, sym, ◌∙◌, subst, Option, Some, None, inl, inr}
use Rattle.std.specs.Prelude.{⊤, ◌==◌, ◌&&◌, if◌then◌else◌, slice_get, Result, Ok, Err}
use Rattle.std.proofs.Common.{eq-eqb}
use Rattle.fisca_ast.specs.declared.tree.Comparison.{Comparison}
use Rattle.fisca_typing.specs.Answers.{arithmetic_of, comparison_of, logic_of, number_by, same_of, unary_of}
use Rattle.fisca_typing.specs.Meaning.{Locals, at_index, at_person, at_place, formula_means, from_first, in_turn, local_at, mean, mean_from, parameter_value, scale_value, total_over}
use Rattle.fisca_typing.specs.Questions.{ask_all, ask_by, ask_first, ask_known, ask_of, ask_part, ask_person, ask_plain, ask_typed, ask_year, at_period, at_start, counted, group_at, has_no_parts, in_range, moved_all, on_start, person_of, persons_in, twelve}
use Rattle.fisca_typing.specs.Wellformed.{Within}
use Rattle.fisca_groups.specs.declared.entity_members.EntityMembers.{EntityMembers}
use Rattle.fisca_key_semantics.specs.Dialogues.{Dialogue, asks, computed, fails, gives, stuck, with_bool, with_member, with_number, ◌>>=◌}
use Rattle.fisca_model.specs.Groups.{Groups, Point, has, persons_at, with_role}
use Rattle.fisca_model.specs.Periods.{fits}
use Rattle.fisca_model.specs.Tables.{Tables, Variable, is_person_at, person_by}
use Rattle.fisca_model.specs.Values.{Key, Value, bool, member, number}
use Rattle.fisca_model.specs.declared.role_place.RolePlace.{RolePlace}
use Rattle.fisca_model.specs.declared.value_type.ValueType.{ValueType}
use Rattle.fisca_num.specs.Number.{Number, one_number, zero_number}
use Rattle.fisca_num.specs.Operations.{quotient_of, sum_of}
use Rattle.fisca_num.specs.Rounding.{ceil_of, floor_of, number_of_whole, rounded_to}
use Rattle.fisca_num.specs.declared.faults.NumFault.{NumFault}
use Rattle.fisca_params.specs.Lookup.{sum_in, value_in}
use Rattle.fisca_params.specs.Tree.{content_at}
use Rattle.fisca_params.specs.declared.content.ParamValue.{ParamValue}
use Rattle.fisca_params.specs.declared.content.ParamValue.TheVariants as param
use Rattle.fisca_scales.specs.declared.fault.ParamFault.{ParamFault}
use Rattle.fisca_api.proofs.Peopled.{AllOf, IsHeld, IsPeopled, all_map, persons_held, with_role_held, with_role_same}
use Rattle.fisca_api.proofs.Placed.{ArePlaced, IsCounted, IsFor, IsGroup, IsPlaced, IsPlacedFormula, IsPlacedFrom}
use Rattle.fisca_api.specs.Members.{Follows, IsMember}
use Rattle.fisca_time.specs.Instant.{CivilDate}
use Rattle.fisca_time.specs.Period.{Span, start_of, subs, this_year_of}
use Rattle.fisca_time.specs.Unit.{is_year}
use Rattle.fisca_time.specs.declared.fault.TimeFault.{TimeFault}
use Rattle.fisca_time.specs.declared.unit.Unit.{Unit}
use Rattle.fisca_time.specs.declared.unit.Unit.TheVariants as unit
use Rattle.fisca_typing.specs.Asks.{person_place}
use Rattle.fisca_typing.specs.Formulas.{Formula}
use Rattle.fisca_typing.specs.Nodes.{Indices, Node, index, no_index}
use Rattle.fisca_typing.specs.Nodes as node
use Rattle.fisca_typing.specs.Operations.{is_places}
use Rattle.fisca_typing.specs.declared.asking.Asking.{Asking}
use Rattle.fisca_typing.specs.declared.asking.Asking.TheVariants as asking
use Rattle.fisca_typing.specs.declared.asking.Whom.{Whom}
use Rattle.fisca_typing.specs.declared.asking.Whom.TheVariants as whom
use Rattle.fisca_typing.specs.declared.moves.Move.{Move}
use Rattle.fisca_typing.specs.declared.operations.Arithmetic.{Arithmetic}
use Rattle.fisca_typing.specs.declared.operations.Arithmetic.TheVariants as arithm
use Rattle.fisca_typing.specs.declared.operations.Logic.{Logic}
use Rattle.fisca_typing.specs.declared.operations.Logic.TheVariants as logic
use Rattle.fisca_typing.specs.declared.operations.Total.{Total}
use Rattle.fisca_typing.specs.declared.operations.Total.TheVariants as total
use Rattle.fisca_typing.specs.declared.operations.Unary.{Unary}
use Rattle.fisca_typing.specs.declared.operations.Unary.TheVariants as unary

-- whatever the answers are, each key that is asked for is one of these
abbrev pub AsksOnly : (Key → Type 0) → Dialogue → Type 0
AsksOnly P (gives v) = ⊤
AsksOnly P (fails e) = ⊤
AsksOnly P stuck = ⊤
AsksOnly P (asks k f) = P k × ((v : Value) → AsksOnly P (f v))

-- two dialogues are the same, and ask for these keys alone
abbrev pub Same : (Key → Type 0) → Dialogue → Dialogue → Type 0
Same P d e = (d ≡ e) × AsksOnly P d

-- Dialogues

module _ (P : Key → Type 0) where
  itself : (d : Dialogue) → AsksOnly P d → Same P d d
  itself d quiet = (refl, quiet)

  asks_then : (d : Dialogue) (f : Value → Dialogue) → AsksOnly P d → ((v : Value) → AsksOnly P (f v)) → AsksOnly P (d >>= f)
  asks_then (gives v) f only on = on v
  asks_then (fails e) f only on = tt
  asks_then stuck f only on = tt
  asks_then (asks k g) f only on = (only.0, λ v. asks_then (g v) f (only.1 v) on)

  pub same_then : (d e : Dialogue) (f f' : Value → Dialogue) → Same P d e → ((v : Value) → Same P (f v) (f' v)) → Same P (d >>= f) (e >>= f')
  same_then d e f f' is on = ((λ i. is.0 i >>= (λ v. (on v).0 i)), asks_then d f is.1 (λ v. (on v).1))

  same_number : (x : Value) (f f' : Number → Dialogue) → ((n : Number) → Same P (f n) (f' n)) → Same P (with_number x f) (with_number x f')
  same_number (number n) f f' on = on n
  same_number (bool true) f f' on = on one_number
  same_number (bool false) f f' on = on zero_number
  same_number (member i) f f' on = (refl, tt)

  pub quiet_number : (x : Value) (f : Number → Dialogue) → ((n : Number) → AsksOnly P (f n)) → AsksOnly P (with_number x f)
  quiet_number (number n) f on = on n
  quiet_number (bool true) f on = on one_number
  quiet_number (bool false) f on = on zero_number
  quiet_number (member i) f on = tt

  same_bool : (x : Value) (f f' : Bool → Dialogue) → ((b : Bool) → Same P (f b) (f' b)) → Same P (with_bool x f) (with_bool x f')
  same_bool (number n) f f' on = (refl, tt)
  same_bool (bool b) f f' on = on b
  same_bool (member i) f f' on = (refl, tt)

  quiet_bool : (x : Value) (f : Bool → Dialogue) → ((b : Bool) → AsksOnly P (f b)) → AsksOnly P (with_bool x f)
  quiet_bool (number n) f on = tt
  quiet_bool (bool b) f on = on b
  quiet_bool (member i) f on = tt

  same_member : (x : Value) (f f' : ℕ → Dialogue) → ((i : ℕ) → Same P (f i) (f' i)) → Same P (with_member x f) (with_member x f')
  same_member (number n) f f' on = (refl, tt)
  same_member (bool b) f f' on = (refl, tt)
  same_member (member i) f f' on = on i

  pub quiet_member : (x : Value) (f : ℕ → Dialogue) → ((i : ℕ) → AsksOnly P (f i)) → AsksOnly P (with_member x f)
  quiet_member (number n) f on = tt
  quiet_member (bool b) f on = tt
  quiet_member (member i) f on = on i

  pub quiet_computed : (r : Result Number NumFault) → AsksOnly P (computed r)
  quiet_computed (Ok n) = tt
  quiet_computed (Err e) = tt

  pub quiet_if : (b : Bool) (d e : Dialogue) → AsksOnly P d → AsksOnly P e → AsksOnly P (if b then d else e)
  quiet_if true d e p q = p
  quiet_if false d e p q = q

  same_if : (b : Bool) (d e d' e' : Dialogue) → Same P d d' → Same P e e' → Same P (if b then d else e) (if b then d' else e')
  same_if true d e d' e' p q = p
  same_if false d e d' e' p q = q

  same_in_range : {X : Type 0} (o : Result X TimeFault) (f f' : X → Dialogue) → ((x : X) → Same P (f x) (f' x)) → Same P (in_range o f) (in_range o f')
  same_in_range (Ok x) f f' on = on x
  same_in_range (Err e) f f' on = (refl, tt)

  same_at_period : (moves : List Move) (p : Span) (f f' : Span → Dialogue) → ((q : Span) → Same P (f q) (f' q)) → Same P (at_period moves p f) (at_period moves p f')
  same_at_period moves p f f' on = same_in_range (moved_all moves p) f f' on

  same_on_start : (o : Option CivilDate) (f f' : CivilDate → Dialogue) → ((d : CivilDate) → Same P (f d) (f' d)) → Same P (on_start o f) (on_start o f')
  same_on_start None f f' on = (refl, tt)
  same_on_start (Some d) f f' on = on d

  same_at_start : (moves : List Move) (p : Span) (f f' : CivilDate → Dialogue) → ((d : CivilDate) → Same P (f d) (f' d)) → Same P (at_start moves p f) (at_start moves p f')
  same_at_start moves p f f' on = same_at_period moves p _ _ (λ q. same_on_start (start_of q) f f' on)

  -- Operations ask for nothing

  quiet_arithmetic : (o : Arithmetic) (x y : Value) → AsksOnly P (arithmetic_of o x y)
  quiet_arithmetic o x y = quiet_number x _ (λ a. quiet_number y _ (λ b. quiet_computed (number_by o a b)))

  quiet_logic : (o : Logic) (x y : Value) → AsksOnly P (logic_of o x y)
  quiet_logic o x y = quiet_bool x _ (λ a. quiet_bool y _ (λ b. tt))

  quiet_comparison : (o : Comparison) (x y : Value) → AsksOnly P (comparison_of o x y)
  quiet_comparison o x y = quiet_number x _ (λ a. quiet_number y _ (λ b. tt))

  quiet_same : (x y : Value) → AsksOnly P (same_of x y)
  quiet_same x y = quiet_member x _ (λ i. quiet_member y _ (λ j. tt))

  quiet_unary : (o : Unary) (x : Value) → AsksOnly P (unary_of o x)
  quiet_unary unary.Not x = quiet_bool x _ (λ b. tt)
  quiet_unary unary.Minus x = quiet_number x _ (λ a. tt)
  quiet_unary unary.Floor x = quiet_number x _ (λ a. quiet_computed (number_of_whole (floor_of a)))
  quiet_unary unary.Ceil x = quiet_number x _ (λ a. quiet_computed (number_of_whole (ceil_of a)))
  quiet_unary (unary.Round places) x = quiet_if (is_places places) _ stuck (quiet_number x _ (λ a. quiet_computed (rounded_to places a))) tt
  quiet_unary unary.Absolute x = quiet_number x _ (λ a. tt)

  quiet_parameter : (o : Option ParamValue) → AsksOnly P (parameter_value o)
  quiet_parameter None = tt
  quiet_parameter (Some (param.Number n)) = tt
  quiet_parameter (Some (param.Bool b)) = tt

  quiet_scale : (r : Result Number ParamFault) → AsksOnly P (scale_value r)
  quiet_scale (Ok n) = tt
  quiet_scale (Err e) = tt

  quiet_place : (o : Option ℕ) (f : ℕ → Dialogue) → ((i : ℕ) → AsksOnly P (f i)) → AsksOnly P (at_place o f)
  quiet_place None f on = tt
  quiet_place (Some i) f on = on i

  -- Totals

  module _ (Q : ℕ → Type 0) (each each' : ℕ → Dialogue) (on : (m : ℕ) → Q m → Same P (each m) (each' m)) where
    same_in_turn : (step : Value → Value → Dialogue) → ((x y : Value) → AsksOnly P (step x y)) → (ms : List ℕ) → AllOf Q ms → (sum : Value) → Same P (in_turn step each ms sum) (in_turn step each' ms sum)
    same_in_turn step quiet [] all sum = (refl, tt)
    same_in_turn step quiet (m ∷ ms) all sum =
        same_then (each m) (each' m) _ _ (on m all.0) (λ x. same_then (step sum x) (step sum x) _ _ (itself (step sum x) (quiet sum x)) (λ s. same_in_turn step quiet ms all.1 s))

    same_from_first : (step : Value → Value → Dialogue) → ((x y : Value) → AsksOnly P (step x y)) → (ms : List ℕ) → AllOf Q ms → Same P (from_first step each ms) (from_first step each' ms)
    same_from_first step quiet [] all = (refl, tt)
    same_from_first step quiet (m ∷ ms) all = same_then (each m) (each' m) _ _ (on m all.0) (λ x. same_number x _ _ (λ n. same_in_turn step quiet ms all.1 (number n)))

    same_total : (o : Total) (ms : List ℕ) → AllOf Q ms → Same P (total_over o each ms) (total_over o each' ms)
    same_total total.Sum ms all = same_in_turn (arithmetic_of arithm.Add) (quiet_arithmetic arithm.Add) ms all (number zero_number)
    same_total total.Min ms all = same_from_first (arithmetic_of arithm.Min) (quiet_arithmetic arithm.Min) ms all
    same_total total.Max ms all = same_from_first (arithmetic_of arithm.Max) (quiet_arithmetic arithm.Max) ms all
    same_total total.Any ms all = same_in_turn (logic_of logic.Or) (quiet_logic logic.Or) ms all (bool false)
    same_total total.All ms all = same_in_turn (logic_of logic.And) (quiet_logic logic.And) ms all (bool true)

-- Keys whose members are there

abbrev pub IsKnownThere : Tables → List EntityMembers → Key → Type 0
IsKnownThere c ms k = (x : Variable) × (slice_get c.variables k.variable ≡ Some x) × IsMember ms x.entity k.member

module _ (c : Tables) (ms : List EntityMembers) (v : ℕ) (x : Variable) (known : slice_get c.variables v ≡ Some x) (m : ℕ) (there : IsMember ms x.entity m) where
  plain_there : (u : Unit) (p : Span) → AsksOnly (IsKnownThere c ms) (ask_plain v u m p)
  plain_there u p = quiet_if (IsKnownThere c ms) (fits u p) _ _ ((x, known, there), λ w. tt) tt

  all_there : (ps : List Span) (sum : Number) → AsksOnly (IsKnownThere c ms) (ask_all v m ps sum)
  all_there [] sum = tt
  all_there (p ∷ ps) sum = (
    (x, known, there),
    λ w. quiet_number (IsKnownThere c ms) w _ (λ n.
        asks_then (IsKnownThere c ms) (computed (sum_of sum n)) _ (quiet_computed (IsKnownThere c ms) (sum_of sum n)) (λ y. quiet_number (IsKnownThere c ms) y _ (λ s. all_there ps s))),
  )

  year_there : (p : Span) (f : Number → Dialogue) → ((n : Number) → AsksOnly (IsKnownThere c ms) (f n)) → AsksOnly (IsKnownThere c ms) (ask_year v m p f)
  year_there p f on = by (this_year_of p)
    where
      by : (o : Result Span TimeFault) → AsksOnly (IsKnownThere c ms) (in_range o (λ y. asks (record { variable = v; member = m; period = y }) (λ w. with_number w f)))
      by (Ok y) = ((x, known, there), λ w. quiet_number (IsKnownThere c ms) w f on)
      by (Err e) = tt

  part_there : (u : Unit) (p : Span) → AsksOnly (IsKnownThere c ms) (ask_part v u m p)
  part_there u p =
      quiet_if (IsKnownThere c ms) (is_year u && fits unit.Month p) _ _ (year_there p _ (λ n. quiet_computed (IsKnownThere c ms) (quotient_of n twelve)))
      (quiet_if (IsKnownThere c ms) (is_year u && fits unit.Year p) _ _ (year_there p _ (λ n. tt)) tt)

  by_there : (how : Asking) (u : Unit) (p : Span) → AsksOnly (IsKnownThere c ms) (ask_by how v u m p)
  by_there asking.Plain u p = plain_there u p
  by_there asking.Add u p = quiet_if (IsKnownThere c ms) (has_no_parts u p) _ _ tt (all_there (subs p u) zero_number)
  by_there asking.Divide u p = part_there u p

-- Where a formula is worked out: at a member that is there, and at a person that is there where values of persons are.
pub record HasPoint (c : Tables) (ms : List EntityMembers) (own : ℕ) (at_persons : Bool) (p : Point) : Type 0 where
  pub entity : p.entity ≡ own
  pub member : IsMember ms own p.member
  pub persons : (m : ℕ) → p.person ≡ Some m → IsMember ms (person_place c) m
  pub given : at_persons ≡ true → (m : ℕ) × (p.person ≡ Some m)

module _ (c : Tables) (ms : List EntityMembers) (people : IsPeopled c ms) (own : ℕ) (g h : Groups) (one : Follows ms g) (two : Follows ms h) where
  abbrev Like : Dialogue → Dialogue → Type 0
  Like = Same (IsKnownThere c ms)

  -- Persons and groups

  -- the persons of a group are the same
  persons_same : (e group : ℕ) (r : Option RolePlace) → is_person_at c e ≡ false → with_role g e r (g.persons e group) ≡ with_role h e r (h.persons e group)
  persons_same e group r fits =
      with_role_same c ms people g h one two e r (g.persons e group) (persons_held c ms people g one e group fits) ∙ ap (with_role h e r) (one.persons e group ∙ sym (two.persons e group))

  persons_there : (e group : ℕ) (r : Option RolePlace) → is_person_at c e ≡ false → AllOf (λ m. IsMember ms (person_place c) m) (with_role g e r (g.persons e group))
  persons_there e group r fits =
      all_map (IsHeld c ms e) (λ m. IsMember ms (person_place c) m) _ (λ m is. is.0) (with_role_held c ms people g h one two e r (g.persons e group) (persons_held c ms people g one e group fits))

  -- the group of a person
  group_same : (e m : ℕ) → IsGroup c e → IsMember ms (person_place c) m → (g.group_of e m ≡ h.group_of e m) × IsMember ms e (g.group_of e m)
  group_same e m is there =
      let home = people.held e is m there in
      let ours = one.group e m home.0 home.1 in
      (ours ∙ sym (two.group e m home.0 home.1), subst (λ group. IsMember ms e group) (sym ours) home.2)

  role_same : (e m : ℕ) (r : RolePlace) → IsGroup c e → IsMember ms (person_place c) m → has r (g.role_of e m) ≡ has r (h.role_of e m)
  role_same e m r is there = let home = people.held e is m there in ap (has r) (one.role e m home.0 home.1 ∙ sym (two.role e m home.0 home.1))

  -- a member of the persons is a person
  person_there : (m : ℕ) → is_person_at c own ≡ true → IsMember ms own m → IsMember ms (person_place c) m
  person_there m person there = subst (λ n. m < n) (people.persons own person) there

  group_is : (e : ℕ) → IsGroup c e → is_person_at c e ≡ false
  group_is e is = ap person_by is.there ∙ is.group

  -- Asking

  ask_group : (how : Asking) (v : ℕ) (x : Variable) (e : ℕ) (q : Span) (m m' : ℕ) (u : Unit) → slice_get c.variables v ≡ Some x → x.entity ≡ e → m ≡ m' → IsMember ms e m
      → Like (ask_by how v u m q) (ask_by how v u m' q)
  ask_group how v x e q m m' u known is same there =
      (ap (λ k. ask_by how v u k q) same, by_there c ms v x known m (subst (λ k. IsMember ms k m) (sym is) there) how u q)

  first_like : (how : Asking) (v : ℕ) (x : Variable) (u : Unit) (t : ValueType) (q : Span) (ps : List ℕ) → slice_get c.variables v ≡ Some x → x.entity ≡ person_place c
      → AllOf (λ m. IsMember ms (person_place c) m) ps → AsksOnly (IsKnownThere c ms) (ask_first how v u t q ps)
  first_like how v x u t q [] known is all = tt
  first_like how v x u t q (m ∷ ps) known is all = by_there c ms v x known m (subst (λ k. IsMember ms k m) (sym is) all.0) how u q

  person_like : (how : Asking) (v : ℕ) (x : Variable) (u : Unit) (q : Span) (o : Option ℕ) → slice_get c.variables v ≡ Some x → x.entity ≡ person_place c
      → ((m : ℕ) → o ≡ Some m → IsMember ms (person_place c) m) → AsksOnly (IsKnownThere c ms) (ask_person how v u q o)
  person_like how v x u q None known is persons = tt
  person_like how v x u q (Some m) known is persons = by_there c ms v x known m (subst (λ k. IsMember ms k m) (sym is) (persons m refl)) how u q

  of_like : (p : Point) (w : Whom) (how : Asking) (v : ℕ) (x : Variable) (u : Unit) (t : ValueType) (q : Span) (at_persons : Bool) → HasPoint c ms own at_persons p → slice_get c.variables v ≡ Some x
      → IsFor c own at_persons w x.entity → Like (ask_of g p w how v u t q) (ask_of h p w how v u t q)
  of_like p whom.Own how v x u t q b has known is = ask_group how v x own q p.member p.member u known is refl has.member
  of_like p (whom.Group e) how v x u t q b has known is =
      let group = group_same e p.member is.2 (person_there p.member is.0 has.member) in
      ask_group how v x e q (g.group_of e p.member) (h.group_of e p.member) u known is.1 group.0 group.1
  of_like p whom.Person how v x u t q b has known is = (refl, person_like how v x u q p.person known is.2 has.persons)
  of_like p (whom.Holder r) how v x u t q b has known is =
      let fits : is_person_at c p.entity ≡ false = ap (is_person_at c) has.entity ∙ is.0 in
      (ap (ask_first how v u t q) (persons_same p.entity p.member (Some r) fits), first_like how v x u t q _ known is.1 (persons_there p.entity p.member (Some r) fits))

  typed_like : (p : Point) (w : Whom) (how : Asking) (v : ℕ) (x : Variable) (u : Unit) (q : Span) (o : Option ValueType) (at_persons : Bool) → HasPoint c ms own at_persons p
      → slice_get c.variables v ≡ Some x → IsFor c own at_persons w x.entity → Like (ask_typed g p w how v u q o) (ask_typed h p w how v u q o)
  typed_like p w how v x u q None b has known is = (refl, tt)
  typed_like p w how v x u q (Some t) b has known is = of_like p w how v x u t q b has known is

  known_like : (p : Point) (w : Whom) (how : Asking) (v : ℕ) (x : Variable) (q : Span) (o : Option Variable) (at_persons : Bool) → HasPoint c ms own at_persons p → slice_get c.variables v ≡ Some x
      → IsFor c own at_persons w x.entity → Like (ask_known g p w how v q o) (ask_known h p w how v q o)
  known_like p w how v x q None b has known is = (refl, tt)
  known_like p w how v x q (Some y) b has known is = typed_like p w how v x y.definition_period q y.value_type b has known is

  -- Roles and counts

  has_role_like : (e : ℕ) (r : RolePlace) (p : Point) (at_persons : Bool) → HasPoint c ms own at_persons p → IsGroup c e → (is_person_at c own ≡ false → at_persons ≡ true)
      → has r (g.role_of e (person_of p)) ≡ has r (h.role_of e (person_of p))
  has_role_like e r p at_persons point is fits = by p.person refl
    where
      alone : (b : Bool) → is_person_at c own ≡ b → p.person ≡ None → is_person_at c own ≡ true
      alone true e none = e
      alone false e none = let given = point.given (fits e) in let no_one : None ≡ Some given.0 = sym none ∙ given.1 in absurd (cc)

      by : (o : Option ℕ) → p.person ≡ o → has r (g.role_of e (person_of p)) ≡ has r (h.role_of e (person_of p))
      by None none =
          let person = alone (is_person_at c own) refl none in
          let who : person_of p ≡ p.member = ap (λ o. person_of (record p { person = o })) none in
          subst (λ m. has r (g.role_of e m) ≡ has r (h.role_of e m)) (sym who) (role_same e p.member r is (person_there p.member person point.member))
      by (Some m) some =
          let who : person_of p ≡ m = ap (λ o. person_of (record p { person = o })) some in
          subst (λ m. has r (g.role_of e m) ≡ has r (h.role_of e m)) (sym who) (role_same e m r is (point.persons m some))

  group_at_same : (e : ℕ) (p : Point) (at_persons : Bool) → HasPoint c ms own at_persons p → IsCounted c own e → group_at g p e ≡ group_at h p e
  group_at_same e p at_persons point (inl is) =
      let same : (p.entity == e) ≡ true = eq-eqb p.entity e (point.entity ∙ sym is.1) in
      ap (λ b. if b then p.member else g.group_of e p.member) same ∙ sym (ap (λ b. if b then p.member else h.group_of e p.member) same)
  group_at_same e p at_persons point (inr is) =
      ap (λ group. if p.entity == e then p.member else group) (group_same e p.member is.1 (person_there p.member is.0 point.member)).0

  counted_group : (e : ℕ) → IsCounted c own e → is_person_at c e ≡ false
  counted_group e (inl is) = ap (is_person_at c) is.1 ∙ is.0
  counted_group e (inr is) = group_is e is.1

  count_same : (e : ℕ) (r : Option RolePlace) (p : Point) (at_persons : Bool) → HasPoint c ms own at_persons p → IsCounted c own e → persons_in g p e r ≡ persons_in h p e r
  count_same e r p at_persons point is =
      ap (λ group. with_role g e r (g.persons e group)) (group_at_same e p at_persons point is) ∙ persons_same e (group_at h p e) r (counted_group e is)

  -- Nodes

  abbrev IsContext : List Bool → Locals → Locals → Type 0
  IsContext [] [] [] = ⊤
  IsContext [] [] (e ∷ es) = ⊥
  IsContext [] (d ∷ ds) es = ⊥
  IsContext (b ∷ G) [] es = ⊥
  IsContext (b ∷ G) (d ∷ ds) [] = ⊥
  IsContext (b ∷ G) (d ∷ ds) (e ∷ es) = ((p : Point) → HasPoint c ms own b p → Like (d p) (e p)) × IsContext G ds es

  some_bool : (a b : Bool) → Some a ≡ Some b → a ≡ b
  some_bool a b e = cc

  local_like : (G : List Bool) (ds es : Locals) (i : ℕ) (b : Bool) (p : Point) → IsContext G ds es → slice_get G i ≡ Some b → HasPoint c ms own b p
      → Like (local_at (slice_get ds i) p) (local_at (slice_get es i) p)
  local_like [] ds es i b p all e point = cc
  local_like (a ∷ G) [] es i b p all e point = absurd all
  local_like (a ∷ G) (d ∷ ds) [] i b p all e point = absurd all
  local_like (a ∷ G) (d ∷ ds) (f ∷ es) zero b p all e point = all.0 p (subst (λ k. HasPoint c ms own k p) (sym (some_bool a b e)) point)
  local_like (a ∷ G) (d ∷ ds) (f ∷ es) (suc i) b p all e point = local_like G ds es i b p all.1 e point

  -- where values of persons may be, others are too
  within : (a b : Bool) (p : Point) → Within a b → HasPoint c ms own b p → HasPoint c ms own a p
  within a b p more point = record { entity = point.entity; member = point.member; persons = point.persons; given = λ e. point.given (more e) }

  at_person_point : (b : Bool) (p : Point) (m : ℕ) → HasPoint c ms own b p → IsMember ms (person_place c) m → HasPoint c ms own true (at_person p m)
  at_person_point b p m point there = record {
    entity = point.entity;
    member = point.member;
    persons = λ k e. subst (λ j. IsMember ms (person_place c) j) (some_same m k e) there;
    given = λ e. (m, refl);
  }
    where
      some_same : (j k : ℕ) → Some j ≡ Some k → j ≡ k
      some_same j k e = cc

  module _ (G : List Bool) (ds es : Locals) (context : IsContext G ds es) where
    mutual
      mean_like : (n : Node) (b : Bool) (p : Point) → IsPlaced c own G n b → HasPoint c ms own b p → Like (mean c g ds n p) (mean c h es n p)
      mean_like (node.literal n) b p is point = (refl, tt)
      mean_like (node.truth q) b p is point = (refl, tt)
      mean_like (node.member e i) b p is point = (refl, tt)
      mean_like (node.local i) b p is point = local_like G ds es i is.0 p context is.1 (within is.0 b p is.2 point)
      mean_like (node.date_part d moves) b p is point = same_at_start (IsKnownThere c ms) moves p.period _ _ (λ day. (refl, quiet_computed (IsKnownThere c ms) _))
      mean_like (node.ask v w how moves) b p is point =
          same_at_period (IsKnownThere c ms) moves p.period _ _ (λ q. known_like p w how v is.0 q (slice_get c.variables v) b point is.1 is.2)
      mean_like (node.has_role e r) b p is point = (ap (λ q. gives (bool q)) (has_role_like e r p b point is.0 is.1), tt)
      mean_like (node.count e r) b p is point = (ap (λ ps. counted (length ps)) (count_same e r p b point is), quiet_computed (IsKnownThere c ms) _)
      mean_like (node.total o r n) b p is point =
          let fits : is_person_at c p.entity ≡ false = ap (is_person_at c) point.entity ∙ is.0 in
          let all = persons_there p.entity p.member r fits in
          let like = same_total (IsKnownThere c ms) (λ m. IsMember ms (person_place c) m) (λ m. mean c g ds n (at_person p m)) (λ m. mean c h es n (at_person p m))
          (λ m there. mean_like n true (at_person p m) is.1 (at_person_point b p m point there)) o (persons_at g p r) all in
          (like.0 ∙ ap (total_over o (λ m. mean c h es n (at_person p m))) (persons_same p.entity p.member r fits), like.1)
      mean_like (node.unary o n) b p is point =
          same_then (IsKnownThere c ms) _ _ _ _ (mean_like n b p is point) (λ x. (refl, quiet_unary (IsKnownThere c ms) o x))
      mean_like (node.arithmetic o m n) b p is point =
          same_then (IsKnownThere c ms) _ _ _ _ (mean_like m b p is.0 point) (λ x. same_then (IsKnownThere c ms) _ _ _ _ (mean_like n b p is.1 point) (λ y. (refl, quiet_arithmetic (IsKnownThere c ms) o x y)))
      mean_like (node.logic o m n) b p is point =
          same_then (IsKnownThere c ms) _ _ _ _ (mean_like m b p is.0 point) (λ x. same_then (IsKnownThere c ms) _ _ _ _ (mean_like n b p is.1 point) (λ y. (refl, quiet_logic (IsKnownThere c ms) o x y)))
      mean_like (node.comparison o m n) b p is point =
          same_then (IsKnownThere c ms) _ _ _ _ (mean_like m b p is.0 point) (λ x. same_then (IsKnownThere c ms) _ _ _ _ (mean_like n b p is.1 point) (λ y. (refl, quiet_comparison (IsKnownThere c ms) o x y)))
      mean_like (node.same m n) b p is point =
          same_then (IsKnownThere c ms) _ _ _ _ (mean_like m b p is.0 point) (λ x. same_then (IsKnownThere c ms) _ _ _ _ (mean_like n b p is.1 point) (λ y. (refl, quiet_same (IsKnownThere c ms) x y)))
      mean_like (node.choose q m n) b p is point =
          same_then (IsKnownThere c ms) _ _ _ _ (mean_like q b p is.0 point) (λ x. same_bool (IsKnownThere c ms) x _ _ (λ k.
          same_if (IsKnownThere c ms) k _ _ _ _ (mean_like m b p is.1 point) (mean_like n b p is.2 point)))
      mean_like (node.parameter is places moves) b p all point =
          same_at_start (IsKnownThere c ms) moves p.period _ _ (λ day. index_like is 0 b p all point _ (λ i. quiet_place (IsKnownThere c ms) (slice_get places i) _ (λ place. quiet_parameter (IsKnownThere c ms) (value_in (content_at c.nodes place) day))))
      mean_like (node.scale_sum place moves n) b p is point =
          same_at_start (IsKnownThere c ms) moves p.period _ _ (λ day. same_then (IsKnownThere c ms) _ _ _ _ (mean_like n b p is point) (λ x. same_number (IsKnownThere c ms) x _ _ (λ k.
          (refl, quiet_scale (IsKnownThere c ms) (sum_in (content_at c.nodes place) day k)))))

      index_like : (is : Indices) (i : ℕ) (b : Bool) (p : Point) → ArePlaced c own G is b → HasPoint c ms own b p → (f : ℕ → Dialogue) → ((i : ℕ) → AsksOnly (IsKnownThere c ms) (f i))
          → Like (at_index c g ds is i p f) (at_index c h es is i p f)
      index_like no_index i b p all point f quiet = (refl, quiet i)
      index_like (index n size is) i b p all point f quiet =
          same_then (IsKnownThere c ms) _ _ _ _ (mean_like n b p all.0 point) (λ x. same_member (IsKnownThere c ms) x _ _ (λ j. index_like is (i * size + j) b p all.1 point f quiet))

  one_more : (G : List Bool) (ds es : Locals) (b : Bool) (d e : Point → Dialogue) → IsContext G ds es → ((p : Point) → HasPoint c ms own b p → Like (d p) (e p))
      → IsContext (G ++ b ∷ []) (ds ++ d ∷ []) (es ++ e ∷ [])
  one_more [] [] [] b d e all is = (is, tt)
  one_more [] [] (f ∷ es) b d e all is = absurd all
  one_more [] (k ∷ ds) es b d e all is = absurd all
  one_more (a ∷ G) [] es b d e all is = absurd all
  one_more (a ∷ G) (k ∷ ds) [] b d e all is = absurd all
  one_more (a ∷ G) (k ∷ ds) (f ∷ es) b d e all is = (all.0, one_more G ds es b d e all.1 is)

  from_like : (G : List Bool) (ds es : Locals) → IsContext G ds es → (ns : List Node) (result : Node) (p : Point) → IsPlacedFrom c own G ns result → HasPoint c ms own false p
      → Like (mean_from c g ds ns result p) (mean_from c h es ns result p)
  from_like G ds es context [] result p is point = mean_like G ds es context result false p is point
  from_like G ds es context (n ∷ ns) result p is point =
      from_like (G ++ is.0 ∷ []) (ds ++ (λ q. mean c g ds n q) ∷ []) (es ++ (λ q. mean c h es n q) ∷ [])
      (one_more G ds es is.0 (λ q. mean c g ds n q) (λ q. mean c h es n q) context (λ q there. mean_like G ds es context n is.0 q is.1 there)) ns result p is.2 point

  pub formula_like : (f : Formula) → IsPlacedFormula c own f → (p : Point) → HasPoint c ms own false p → Same (IsKnownThere c ms) (formula_means c g f p) (formula_means c h f p)
  formula_like f is p point = from_like [] [] [] tt f.values f.result p is point
