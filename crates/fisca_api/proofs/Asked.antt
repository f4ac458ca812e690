-- The members that the work of a key asks for are there.
use Rattle.std.proofs.Common.{◌≡◌, ◌<◌, ◌&&◌, ℕ, zero, suc, List, [], ◌∷◌, map, Bool, true, false, refl, ap, sym, ◌∙◌, subst, lt-ltb, Option, Some, None, inl, inr, if◌then◌else◌, option_map}
use Rattle.std.specs.Prelude.{⊤, slice_get, nat_lt, Result, Ok, Err}
use Rattle.std.specs.List.{list_all}
use Rattle.std.specs.Ordering.{is_gt}
use Rattle.std.proofs.lemmas.Bool.{true≢false}
use Rattle.fisca_ast.specs.Modules.{Statement}
use Rattle.fisca_groups.specs.Grouped.{grouped, persons_of}
use Rattle.fisca_groups.specs.Lookup.{count_at}
use Rattle.fisca_groups.specs.declared.entity_members.EntityMembers.{EntityMembers}
use Rattle.fisca_inputs.specs.Entries.{value_at}
use Rattle.fisca_inputs.specs.Steps.Inputs.{is_marked}
use Rattle.fisca_inputs.specs.Steps.Rules.{default_of}
use Rattle.fisca_key_semantics.specs.Answers.{Halt, Oracle, formula, value_within}
use Rattle.fisca_key_semantics.specs.Chains.{AsksFor, PathFrom, asked, on_value}
use Rattle.fisca_key_semantics.specs.Dialogues.{Dialogue, asks, fails, gives, stuck}
use Rattle.fisca_key_semantics.specs.Inquiry.{Inquiry, of_key}
use Rattle.fisca_key_semantics.specs.Keys.{In}
use Rattle.fisca_model.specs.Groups.{Groups}
use Rattle.fisca_model.specs.Periods.{fits}
use Rattle.fisca_model.specs.Seen.{key_of}
use Rattle.fisca_model.specs.Tables as typing
use Rattle.fisca_model.specs.Values.{Key, Value}
use Rattle.fisca_model.specs.declared.value.Value.{Value as Given}
use Rattle.fisca_num.specs.Number.{Number, trunc_of}
use Rattle.fisca_ops.specs.Casts.{cast}
use Rattle.fisca_ops.specs.Steps.Casts.{fits_int, if_int}
use Rattle.fisca_params.specs.Tree.{TreeNode}
use Rattle.fisca_api.proofs.Peopled.{AllOf, IsHeld, IsPeopled, all_map, grouped_follows, holders}
use Rattle.fisca_api.proofs.Placed.{IsPlacedFormula}
use Rattle.fisca_api.proofs.PlacedRules.{AllPlaced, EachPlaced, rules_placed}
use Rattle.fisca_api.proofs.Reached.{AsksOnly, HasPoint, IsKnownThere, Same, formula_like, quiet_computed, quiet_if, quiet_member, quiet_number, same_then}
use Rattle.fisca_api.proofs.SituationMembers.{peopled}
use Rattle.fisca_api.specs.Members.{AreMembers, AreThere, Follows, HasGroup, IsMember, IsThere}
use Rattle.fisca_rules.specs.Rules.{DatedFormula, Rules, known_by}
use Rattle.fisca_rules.specs.Steps.InForce.{has_started, in_force, later, latest_of, latest_with}
use Rattle.fisca_rules.specs.Steps.Rules.{rules_of}
use Rattle.fisca_rules.specs.Views.{rule_set}
use Rattle.fisca_rules.specs.declared.rule_set.RuleSet.{RuleSet}
use Rattle.fisca_simulation.specs.Simulations.{Simulation, computed, formula_from, formula_of, given_or_computed, if_askable, known_or_refused, source_of, sources, start_point, worked_out}
use Rattle.fisca_simulation.specs.Steps.InForce.{has_ended}
use Rattle.fisca_simulation.specs.Steps.Simulations.{all_dated}
use Rattle.fisca_situations.specs.Situations.{Situation}
use Rattle.fisca_symbols.specs.Known.{tables as known}
use Rattle.fisca_symbols.specs.KnownEntities.{entity as known_entity}
use Rattle.fisca_symbols.specs.KnownVariables.{variable as known_variable}
use Rattle.fisca_symbols.specs.declared.entity.Entity.{Entity}
use Rattle.fisca_symbols.specs.declared.tables.Tables.{Tables}
use Rattle.fisca_symbols.specs.declared.variable.DeclaredType.{DeclaredType}
use Rattle.fisca_symbols.specs.declared.variable.DeclaredType.TheVariants as type
use Rattle.fisca_symbols.specs.declared.variable.Variable.{Variable}
use Rattle.fisca_time.specs.Instant.{CivilDate, date_cmp}
use Rattle.fisca_time.specs.Period.{start_of}
use Rattle.fisca_typing.specs.Asks.{person_place}
use Rattle.fisca_typing.specs.Formulas.{Formula}

some_same : {X : Type 0} (x y : X) → Some x ≡ Some y → x ≡ y
some_same x y e = cc

-- The formula in force

module _ (c : typing.Tables) (own : ℕ) where
  abbrev Holds : Option DatedFormula → Type 0
  Holds None = ⊤
  Holds (Some d) = IsPlacedFormula c own d.formula

  later_placed : (found : Option DatedFormula) (d : DatedFormula) → Holds found → IsPlacedFormula c own d.formula → IsPlacedFormula c own (later found d).formula
  later_placed None d f p = p
  later_placed (Some e) d f p = by (is_gt (date_cmp d.start e.start))
    where
      by : (b : Bool) → IsPlacedFormula c own (if b then d else e).formula
      by true = p
      by false = f

  with_placed : (day : CivilDate) (found : Option DatedFormula) (d : DatedFormula) → Holds found → IsPlacedFormula c own d.formula → Holds (latest_with day found d)
  with_placed day found d f p = by (has_started day d)
    where
      by : (b : Bool) → Holds (if b then Some (later found d) else found)
      by true = later_placed found d f p
      by false = f

  latest_placed : (day : CivilDate) (found : Option DatedFormula) (ds : List DatedFormula) → Holds found → AllPlaced c own ds → Holds (latest_of day found ds)
  latest_placed day found [] f all = f
  latest_placed day found (d ∷ ds) f all = latest_placed day (latest_with day found d) ds (with_placed day found d f all.0) all.1

  module _ (w : Variable) (ds : List DatedFormula) (all : AllPlaced c own ds) (f : Formula) where
    force_placed : (o : Option DatedFormula) → Holds o → option_map (λ d. d.formula) o ≡ Some f → IsPlacedFormula c own f
    force_placed None holds h = cc
    force_placed (Some d) holds h = subst (IsPlacedFormula c own) (some_same d.formula f h) holds

    day_placed : (day : CivilDate) (b : Bool) → (if b then None else option_map (λ d. d.formula) (in_force day ds)) ≡ Some f → IsPlacedFormula c own f
    day_placed day true h = cc
    day_placed day false h = force_placed (in_force day ds) (latest_placed day None ds tt all) h

    from_placed : (o : Option CivilDate) → formula_from w ds o ≡ Some f → IsPlacedFormula c own f
    from_placed None h = cc
    from_placed (Some day) h = day_placed day (has_ended w.end day) h

    unmarked_placed : (day : Option CivilDate) (b : Bool) → (if b then None else formula_from w ds day) ≡ Some f → IsPlacedFormula c own f
    unmarked_placed day true h = cc
    unmarked_placed day false h = from_placed day h

each_at : (c : typing.Tables) (vs : List Variable) (fs : List (List DatedFormula)) → EachPlaced c vs fs → (i : ℕ) (w : Variable) → slice_get vs i ≡ Some w → AllPlaced c w.entity (all_dated (slice_get fs i))
each_at c [] fs e i w h = cc
each_at c (v ∷ vs) [] e i w h = tt
each_at c (v ∷ vs) (ds ∷ more) e zero w h = subst (λ (z : Variable). AllPlaced c z.entity ds) (some_same v w h) e.0
each_at c (v ∷ vs) (ds ∷ more) e (suc i) w h = each_at c vs more e.1 i w h

known_at : (vs : List Variable) (i : ℕ) (x : typing.Variable) → slice_get (map known_variable vs) i ≡ Some x → (w : Variable) × (slice_get vs i ≡ Some w) × (x.entity ≡ w.entity)
known_at [] i x h = cc
known_at (v ∷ vs) zero x h = (v, refl, ap (λ (y : typing.Variable). y.entity) (sym (some_same (known_variable v) x h)))
known_at (v ∷ vs) (suc i) x h = known_at vs i x h

-- What a formula gives is made a value of its variable, and asks for nothing more.
quiet_int : (P : Key → Type 0) (n : Number) → AsksOnly P (if_int (trunc_of n))
quiet_int P n = quiet_if P (fits_int (trunc_of n)) _ _ (quiet_computed P _) tt

quiet_cast : (P : Key → Type 0) (t : DeclaredType) (v : Value) → AsksOnly P (cast t v)
quiet_cast P type.Float v = quiet_number P v _ (λ n. tt)
quiet_cast P type.Int v = quiet_number P v _ (λ n. quiet_int P n)
quiet_cast P type.Bool v = quiet_number P v _ (λ n. tt)
quiet_cast P type.Date v = tt
quiet_cast P type.Text v = tt
quiet_cast P (type.Enum e) v = quiet_member P v _ (λ i. tt)

-- Work

module _ (r : Rules) (placed : EachPlaced (known_by r) r.variables r.formulas) (ms : List EntityMembers) (people : IsPeopled (known_by r) ms) where
  pub work_like : (g h : Groups) → Follows ms g → Follows ms h → (k : Key) (w : Variable) → slice_get r.variables k.variable ≡ Some w → IsMember ms w.entity k.member → (neutral : List Bool)
      (f : Formula) → formula_of r neutral w k ≡ Some f → Same (IsKnownThere (known_by r) ms) (worked_out r g w k f) (worked_out r h w k f)
  work_like g h one two k w is there neutral f found =
      let c = known_by r in
      let all = each_at c r.variables r.formulas placed k.variable w is in
      let formula = unmarked_placed c w.entity w (all_dated (slice_get r.formulas k.variable)) all f (start_of k.period) (is_marked neutral k.variable) found in
      let point : HasPoint c ms w.entity false (start_point w k) = record { entity = refl; member = there; persons = λ m e. cc; given = λ e. absurd (true≢false (sym e)) } in
      same_then (IsKnownThere c ms) _ _ (cast w.value_type) (cast w.value_type) (formula_like c ms people w.entity g h one two f formula (start_point w k) point) (λ v. (refl, quiet_cast (IsKnownThere c ms) w.value_type v))

  asked_there : (W : Oracle) (k : Key) (d : Dialogue) (j : Key) → AsksOnly (IsKnownThere (known_by r) ms) d → In j (asked W (of_key k d)) → IsKnownThere (known_by r) ms j
  asked_there W k (gives v) j only there = absurd there
  asked_there W k (fails e) j only there = absurd there
  asked_there W k stuck j only there = absurd there
  asked_there W k (asks i go) j only (inl same) = subst (IsKnownThere (known_by r) ms) same only.0
  asked_there W k (asks i go) j only (inr rest) = by (W i) rest (λ v there. asked_there W k (go v) j (only.1 v) there)
    where
      by : (o : Result Value Halt) → In j (on_value o (λ v. asked W (of_key k (go v)))) → ((v : Value) → In j (asked W (of_key k (go v))) → IsKnownThere (known_by r) ms j)
          → IsKnownThere (known_by r) ms j
      by (Ok v) there next = next v there
      by (Err e) there next = absurd there

  is_there : (k : Key) → IsKnownThere (known_by r) ms k → IsThere r ms k
  is_there k is = let w = known_at r.variables k.variable is.0 is.1 in (w.0, w.1, subst (λ e. IsMember ms e k.member) w.2 is.2)

-- the formula of a key, where its value comes from one
pub record ComesFrom (m : Simulation) (k : Key) (q : Inquiry) : Type 0 where
  pub variable : Variable
  pub declared : slice_get m.rules.variables k.variable ≡ Some variable
  pub formula : Formula
  pub found : formula_of m.rules m.neutral variable k ≡ Some formula
  pub is : q ≡ of_key k (worked_out m.rules (grouped m.situation.members) variable k formula)

comes_from : (m : Simulation) (k : Key) (q : Inquiry) → sources m k ≡ formula q → ComesFrom m k q
comes_from m k q h = of_variable (slice_get m.rules.variables k.variable) refl h
  where
    inquiry_same : (a b : Inquiry) → formula a ≡ formula b → a ≡ b
    inquiry_same a b e = cc

    of_default : (o : Option Given) → known_or_refused o ≡ formula q → ⊥
    of_default None e = cc
    of_default (Some x) e = cc

    of_formula : (w : Variable) → slice_get m.rules.variables k.variable ≡ Some w → (o : Option Formula) → formula_of m.rules m.neutral w k ≡ o → computed m w k o ≡ formula q → ComesFrom m k q
    of_formula w is None e k' = absurd (of_default (default_of w.default_value) k')
    of_formula w is (Some f) e k' = record { variable = w; declared = is; formula = f; found = e; is = sym (inquiry_same _ q k') }

    of_given : (w : Variable) → slice_get m.rules.variables k.variable ≡ Some w → (o : Option Given) → given_or_computed m w k o ≡ formula q → ComesFrom m k q
    of_given w is None k' = of_formula w is (formula_of m.rules m.neutral w k) refl k'
    of_given w is (Some x) k' = cc

    of_fitting : (w : Variable) → slice_get m.rules.variables k.variable ≡ Some w → (b : Bool) → source_of m k (if b then Some w else None) ≡ formula q → ComesFrom m k q
    of_fitting w is true k' = of_given w is (value_at m.situation.inputs (key_of k)) k'
    of_fitting w is false k' = cc

    of_variable : (o : Option Variable) → slice_get m.rules.variables k.variable ≡ o → source_of m k (if_askable k o) ≡ formula q → ComesFrom m k q
    of_variable None e k' = cc
    of_variable (Some w) e k' = of_fitting w e (fits w.definition_period k.period) k'

module _ (nodes : List TreeNode) (modules : List (List Statement)) (rules : RuleSet) (built : rules_of nodes modules ≡ Ok (rule_set rules)) (s : Situation) (are : AreMembers rules.tables s.members) where
  people : IsPeopled (known_by (rule_set rules)) s.members
  people = peopled (known_by (rule_set rules)) are.0 are.1 s.members are.2

  placed : EachPlaced (known_by (rule_set rules)) rules.tables.variables (rule_set rules).formulas
  placed = rules_placed nodes modules (rule_set rules) built

  pub others_same : (g : Groups) → Follows s.members g → (neutral : List Bool) (k : Key) (x : Variable) → slice_get rules.tables.variables k.variable ≡ Some x → IsMember s.members x.entity k.member
      → (f : Formula) → formula_of (rule_set rules) neutral x k ≡ Some f → worked_out (rule_set rules) g x k f ≡ worked_out (rule_set rules) (grouped s.members) x k f
  others_same g follows neutral k x is there f found = (work_like (rule_set rules) placed s.members people g (grouped s.members) follows (grouped_follows s.members) k x is there neutral f found).0

  pub asked_members : (neutral : List Bool) (k j : Key) → IsThere (rule_set rules) s.members k → AsksFor (sources (record { rules = rule_set rules; situation = s; neutral = neutral })) k j
      → IsThere (rule_set rules) s.members j
  asked_members neutral k j is for =
      let m : Simulation = record { rules = rule_set rules; situation = s; neutral = neutral } in
      let from = comes_from m k for.inquiry for.is_formula in
      let same : is.0 ≡ from.variable = some_same is.0 from.variable (sym is.1 ∙ from.declared) in
      let there : IsMember s.members from.variable.entity k.member = subst (λ (x : Variable). IsMember s.members x.entity k.member) same is.2 in
      let like = work_like (rule_set rules) placed s.members people (grouped s.members) (grouped s.members) (grouped_follows s.members) (grouped_follows s.members) k from.variable from.declared there neutral from.formula from.found in
      let among = subst (λ q. In j (asked (value_within (sources m) for.fuel) q)) from.is for.asks in
      is_there (rule_set rules) placed s.members people j
      (asked_there (rule_set rules) placed s.members people (value_within (sources m) for.fuel) k (worked_out (rule_set rules) (grouped s.members) from.variable k from.formula) j like.1 among)

  pub chained_members : (neutral : List Bool) (k : Key) (ks : List Key) → IsThere (rule_set rules) s.members k → PathFrom (sources (record { rules = rule_set rules; situation = s; neutral = neutral })) k ks
      → AreThere (rule_set rules) s.members ks
  chained_members neutral k [] is path = tt
  chained_members neutral k (j ∷ ks) is path = let there = asked_members neutral k j is path.0 in (there, chained_members neutral j ks there path.1)

-- Persons and groups

entity_at : (es : List Entity) (i : ℕ) (x : Entity) → slice_get es i ≡ Some x → slice_get (map known_entity es) i ≡ Some (known_entity x)
entity_at [] i x h = cc
entity_at (e ∷ es) zero x h = ap (λ y. Some (known_entity y)) (some_same e x h)
entity_at (e ∷ es) (suc i) x h = entity_at es i x h

module _ (c : Tables) (ms : List EntityMembers) (are : AreMembers c ms) (e : ℕ) (x : Entity) (is : slice_get c.entities e ≡ Some x) (group : x.is_person ≡ false) (q : ℕ) (y : Entity) (at : slice_get c.entities q ≡ Some y)
    (person : y.is_person ≡ true) where
  all_people : IsPeopled (known c) ms
  all_people = peopled (known c) are.0 are.1 ms are.2

  is_person : typing.is_person_at (known c) q ≡ true
  is_person = ap typing.person_by (entity_at c.entities q y at) ∙ person

  as_many : count_at ms q ≡ count_at ms (person_place (known c))
  as_many = all_people.persons q is_person

  pub grouped_persons : (p : ℕ) → IsMember ms q p → HasGroup ms e p
  grouped_persons p there =
      all_people.held e (record { entity = known_entity x; there = entity_at c.entities e x is; group = group }) p (subst (λ n. p < n) as_many there)

  all_below : (count : ℕ) (ps : List ℕ) → AllOf (λ p. p < count) ps → list_all (λ p. nat_lt p count) ps ≡ true
  all_below count [] all = refl
  all_below count (p ∷ ps) all = let here : nat_lt p count ≡ true = lt-ltb p count all.0 in let rest = all_below count ps all.1 in λ i. here i && rest i

  pub held_persons : (g : ℕ) → list_all (λ p. nat_lt p (count_at ms q)) (persons_of g (slice_get ms e)) ≡ true
  held_persons g =
      let fits : typing.is_person_at (known c) e ≡ false = ap typing.person_by (entity_at c.entities e x is) ∙ group in
      let all = holders (known c) ms all_people e g (slice_get ms e) refl fits in
      all_below (count_at ms q) (persons_of g (slice_get ms e)) (all_map (IsHeld (known c) ms e) (λ p. p < count_at ms q) (persons_of g (slice_get ms e)) (λ p held. subst (λ n. p < n) (sym as_many) held.0) all)
