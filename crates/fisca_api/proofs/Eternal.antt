-- Inputs for eternity are those of eternal variables, and these have no others.
use Rattle.std.proofs.Common.{◌≡◌, true≢false, ℕ, List, [], ◌∷◌, map, Bool, true, false, cond, not, ◌/◌, ◌*◌, Option, Some, None, slice_get, refl, sym, ap, ap₂, subst, ◌∙◌, if◌then◌else◌, ◌||◌, ◌&&◌}
use Rattle.std.specs.Prelude.{Ok, ◌==◌, option_map}
use Rattle.std.specs.List.{list_any, range_with_len}
use Rattle.std.specs.Ordering.{eq_by_cmp}
use Rattle.std.proofs.lemmas.Bool.{and_parts, eqb-true, eq-eqb}
use Rattle.std.proofs.lemmas.Map.Entries.{lookup-filter-keys}
use Rattle.fisca_groups.specs.Lookup.{counts_of}
use Rattle.fisca_groups.specs.declared.entity_members.EntityMembers.{EntityMembers}
use Rattle.fisca_inputs.proofs.Beside.{defaults_beside}
use Rattle.fisca_inputs.proofs.Numbered.{key_parts}
use Rattle.fisca_inputs.proofs.Looked.{looked-like}
use Rattle.fisca_inputs.proofs.Typed.{then_ok}
use Rattle.fisca_inputs.specs.Defaults.{row_key, rows_of, with_defaults}
use Rattle.fisca_inputs.specs.Entries.{Entries, key, same_key, value_at}
use Rattle.fisca_inputs.specs.Inputs.{inputs_of, without_marked}
use Rattle.fisca_inputs.specs.Rules.{Rule, rule_of}
use Rattle.fisca_inputs.specs.Sharing.{all_shared, own_key, shared_by}
use Rattle.fisca_inputs.specs.Steps.Inputs.{is_marked}
use Rattle.fisca_inputs.specs.Steps.Order.{in_order}
use Rattle.fisca_inputs.specs.Overlaps.{shares_day}
use Rattle.fisca_inputs.specs.Steps.Overlaps.{is_across, is_other}
use Rattle.fisca_inputs.specs.Steps.Sharing.{parts_of}
use Rattle.fisca_inputs.specs.Totals.{default_for, is_beside}
use Rattle.fisca_inputs.specs.declared.given.Given.{Given}
use Rattle.fisca_model.specs.Periods.{fits, is_eternity, key_period}
use Rattle.fisca_model.specs.Tables.{otherwise}
use Rattle.fisca_model.specs.declared.key.Key.{Key}
use Rattle.fisca_model.specs.declared.value.Value.{Value}
use Rattle.fisca_api.proofs.Turns.{IsShared, shared as shared_from}
use Rattle.fisca_api.specs.Axes.{AreApart}
use Rattle.fisca_api.specs.Eternal.{eternal_key, input_at, is_overlap, overlaps_another}
use Rattle.fisca_run.proofs.Normal.{rule_at}
use Rattle.fisca_situations.specs.Situations.{Situation}
use Rattle.fisca_situations.specs.Steps.Axes.{shared_anew}
use Rattle.fisca_situations.specs.Steps.Situations.{reading_of, situation_by, situation_of}
use Rattle.fisca_situations.specs.declared.reading.Reading.{Reading}
use Rattle.fisca_slots.proofs.Anew.{outside}
use Rattle.fisca_slots.proofs.Both.{keys_of}
use Rattle.fisca_slots.proofs.Parts.{in_parts, key_variable}
use Rattle.fisca_symbols.specs.declared.tables.Tables.{Tables}
use Rattle.fisca_symbols.specs.declared.variable.Variable.{Variable}
use Rattle.fisca_time.specs.Period.{Span, eternity, months, days, day_at, days_of, is_eternal, month_at, month_start, size_of, span_cmp, subs, unit_of, year_at}
use Rattle.fisca_time.specs.Unit.{is_day, is_month, is_year, months_in}
use Rattle.fisca_time.specs.declared.unit.Unit.{Unit}
use Rattle.fisca_time.specs.declared.unit.Unit.TheVariants.{Day, Month, Year, Eternity}
use Rattle.fisca_yaml.specs.Node.{Node}

-- Periods

-- none of these is eternity
none_made : (make : ℕ → Span) → ((n : ℕ) → eq_by_cmp span_cmp eternity (make n) ≡ false) → (ns : List ℕ)
    → list_any (eq_by_cmp span_cmp eternity) (map make ns) ≡ false
none_made make finite [] = refl
none_made make finite (n ∷ ns) = ap₂ (λ a b. a || b) (finite n) (none_made make finite ns)

no_part : (unit : Unit) (p : Span) → list_any (eq_by_cmp span_cmp eternity) (subs p unit) ≡ false
no_part unit eternity = refl
no_part Day (months own first size) = none_made day_at (λ n. refl) (range_with_len (month_start first) (days_of (months own first size)))
no_part Month (months own first size) = none_made month_at (λ n. refl) (range_with_len first (months_in own * size))
no_part Year (months Day first size) = refl
no_part Year (months Month first size) = refl
no_part Year (months Year first size) = none_made year_at (λ n. refl) (range_with_len (first / 12) size)
no_part Year (months Eternity first size) = refl
no_part Eternity (months own first size) = refl
no_part Day (days first size) = none_made day_at (λ n. refl) (range_with_len first size)
no_part Month (days first size) = refl
no_part Year (days first size) = refl
no_part Eternity (days first size) = refl

-- a period of one day, month or year is not eternity
finite : (p : Span) → is_eternity (unit_of p) ≡ false → eq_by_cmp span_cmp eternity p ≡ false
finite eternity h = cc
finite (months Day first size) h = refl
finite (months Month first size) h = refl
finite (months Year first size) h = refl
finite (months Eternity first size) h = cc
finite (days first size) h = refl

a_day : (u : Unit) → is_day u ≡ true → is_eternity u ≡ false
a_day Day h = refl
a_day Month h = cc
a_day Year h = cc
a_day Eternity h = cc

a_month : (u : Unit) → is_month u ≡ true → is_eternity u ≡ false
a_month Day h = cc
a_month Month h = refl
a_month Year h = cc
a_month Eternity h = cc

a_year : (u : Unit) → is_year u ≡ true → is_eternity u ≡ false
a_year Day h = cc
a_year Month h = cc
a_year Year h = refl
a_year Eternity h = cc

own_finite : (unit : Unit) (p : Span) → is_eternity unit ≡ false → fits unit p ≡ true → eq_by_cmp span_cmp eternity (key_period unit p) ≡ false
own_finite Day p other own = finite p (a_day (unit_of p) (and_parts (is_day (unit_of p)) (size_of p == 1) own).0)
own_finite Month p other own = finite p (a_month (unit_of p) (and_parts (is_month (unit_of p)) (size_of p == 1) own).0)
own_finite Year p other own = finite p (a_year (unit_of p) (and_parts (is_year (unit_of p)) (size_of p == 1) own).0)
own_finite Eternity p other own = cc

-- Keys that no input has

-- a variable of eternity takes any period as the eternal one
for_eternity : (u : Unit) (p : Span) → is_eternity u ≡ true → (fits u p ≡ true) × (key_period u p ≡ eternity)
for_eternity Day p h = cc
for_eternity Month p h = cc
for_eternity Year p h = cc
for_eternity Eternity p h = (refl, refl)

-- keys that are the same have one variable
same_mark : (marks : List Bool) (k q : Key) → same_key k q ≡ true → not (is_marked marks q.variable) ≡ not (is_marked marks k.variable)
same_mark marks k q h = ap (λ x. not (is_marked marks x)) (sym (key_parts k q h).0)

not_both : (b : Bool) → (b ≡ true → ⊥) → b ≡ false
not_both true never = absurd (never refl)
not_both false never = refl

module _ (c : Tables) where
  abbrev rules : List Rule
  rules = map rule_of c.variables

  abbrev NoKey : Key → Type 0
  NoKey q = (g : Given) (r : Rule) → slice_get rules g.variable ≡ Some r → list_any (same_key q) (keys_of r g) ≡ false

  shared_free : (o : Option Rule) (g : Given) (es new : Entries) (q : Key) → NoKey q → slice_get rules g.variable ≡ o → shared_by o g es ≡ Ok new
      → value_at new q ≡ value_at es q
  shared_free None g es new q none is h = cc
  shared_free (Some r) g es new q none is h = outside r g es new h q (none g r is)

  all_free : (gs : List Given) (es new : Entries) (q : Key) → NoKey q → all_shared rules gs es ≡ Ok new → value_at es q ≡ None → value_at new q ≡ None
  all_free [] es new q none h free = let is : es ≡ new = cc in ap (λ fs. value_at fs q) (sym is) ∙ free
  all_free (g ∷ gs) es new q none h free =
      let first = then_ok (shared_by (slice_get rules g.variable) g es) (all_shared rules gs) new h in
      all_free gs first.0 new q none first.2 (shared_free (slice_get rules g.variable) g es first.0 q none refl first.1 ∙ free)

  -- where no member has a key of this variable and period
  none_beside : (x m : ℕ) (p : Span) (es : Entries) → ((n : ℕ) → value_at es (key x n p) ≡ None) → is_beside es (key x m p) ≡ false
  none_beside x m p [] none = refl
  none_beside x m p (e ∷ es) none = ap₂ (λ a b. a || b) row (none_beside x m p es rest)
    where
      other_key : (n : ℕ) (b : Bool) → same_key (key x n p) e.0 ≡ b → b ≡ false
      other_key n true same = let found : Some e.1 ≡ None = sym (ap (λ b. cond b (Some e.1) (value_at es (key x n p))) same) ∙ none n in cc
      other_key n false other = refl

      rest : (n : ℕ) → value_at es (key x n p) ≡ None
      rest n =
          sym (ap (λ b. cond b (Some e.1) (value_at es (key x n p)))
          (by (same_key (key x n p) e.0) refl)) ∙ none n
        where
          by : (b : Bool) → same_key (key x n p) e.0 ≡ b → same_key (key x n p) e.0 ≡ false
          by b is = is ∙ other_key n b is

      row : same_key (row_key (key x m p)) (row_key e.0) ≡ false
      row =
          ap (λ b. (x == e.0.variable) && (b && eq_by_cmp span_cmp p e.0.period)) (sym (eq-eqb e.0.member e.0.member refl))
          ∙ (by (same_key (key x e.0.member p) e.0) refl)
        where
          by : (b : Bool) → same_key (key x e.0.member p) e.0 ≡ b → same_key (key x e.0.member p) e.0 ≡ false
          by b is = is ∙ other_key e.0.member b is

  none_in : (counts : List ℕ) (gs : List Given) (es : Entries) (x m : ℕ) (p : Span) → inputs_of rules counts gs ≡ Ok es → ((n : ℕ) → NoKey (key x n p))
      → value_at es (key x m p) ≡ None
  none_in counts gs es x m p h none =
      let first = then_ok (all_shared rules (in_order rules gs) []) (λ fs. with_defaults rules counts gs (rows_of fs) fs) es h in
      let free : (n : ℕ) → value_at first.0 (key x n p) ≡ None = λ n. all_free (in_order rules gs) [] first.0 (key x n p) (none n) first.1 refl in
      defaults_beside rules counts gs first.0 es first.2 (key x m p)
      ∙ ap₂ (λ o b. otherwise o (if b then default_for (slice_get rules x) counts m else None)) (free m) (none_beside x m p first.0 free)

  module _ (x : ℕ) (v : Variable) (declared : slice_get c.variables x ≡ Some v) where
    unit_is : (g : Given) (r : Rule) → slice_get rules g.variable ≡ Some r → x ≡ g.variable → r.unit ≡ v.definition_period
    unit_is g r is same =
        let found : Some (rule_of v) ≡ Some r = ap (option_map rule_of) (sym declared) ∙ (sym (rule_at c.variables x) ∙ (ap (slice_get rules) same ∙ is)) in
        let rule : rule_of v ≡ r = cc in
        ap (λ (s : Rule). s.unit) (sym rule)

    only : (q : Key) (r : Rule) (g : Given) → (same_key q (own_key r g) || false) ≡ true → same_key q (own_key r g) ≡ true
    only q r g h = by (same_key q (own_key r g)) h
      where
        by : (b : Bool) → (b || false) ≡ true → b ≡ true
        by true e = refl
        by false e = cc

    -- of an eternal variable for another period
    eternal_none : is_eternity v.definition_period ≡ true → (m : ℕ) (p : Span) → eq_by_cmp span_cmp p eternity ≡ false → NoKey (key x m p)
    eternal_none eternal m p other g r is = not_both (list_any (same_key (key x m p)) (keys_of r g)) clash
      where
        clash : list_any (same_key (key x m p)) (keys_of r g) ≡ true → ⊥
        clash inside =
            let unit : is_eternity r.unit ≡ true = ap is_eternity (unit_is g r is (key_variable r g (key x m p) inside)) ∙ eternal in
            let own = for_eternity r.unit g.period unit in
            let first : (same_key (key x m p) (own_key r g) || false) ≡ true =
            sym (ap (λ b. list_any (same_key (key x m p)) (if b then own_key r g ∷ [] else parts_of r g)) own.0) ∙ inside in
            let parts = key_parts (key x m p) (own_key r g) (only (key x m p) r g first) in
            true≢false (sym parts.2 ∙ (ap (eq_by_cmp span_cmp p) own.1 ∙ other))

    -- of another variable for eternity
    finite_none : is_eternity v.definition_period ≡ false → (m : ℕ) → NoKey (key x m eternity)
    finite_none other m g r is = not_both (list_any (same_key (key x m eternity)) (keys_of r g)) clash
      where
        by : is_eternity r.unit ≡ false → (b : Bool) → fits r.unit g.period ≡ b
            → list_any (same_key (key x m eternity)) (if b then own_key r g ∷ [] else parts_of r g) ≡ true → ⊥
        by unit true own e =
            let parts = key_parts (key x m eternity) (own_key r g) (only (key x m eternity) r g e) in
            true≢false (sym parts.2 ∙ own_finite r.unit g.period unit own)
        by unit false longer e =
            let parts = in_parts (key x m eternity) g.variable g.member (subs g.period r.unit) e in
            true≢false (sym parts.2 ∙ no_part r.unit g.period)

        clash : list_any (same_key (key x m eternity)) (keys_of r g) ≡ true → ⊥
        clash inside =
            by (ap is_eternity (unit_is g r is (key_variable r g (key x m eternity) inside)) ∙ other) (fits r.unit g.period) refl inside

-- Looking

twice : {X : Type 0} (o : Option X) → otherwise o o ≡ o
twice None = refl
twice (Some x) = refl

or_none : {X : Type 0} (o : Option X) → otherwise o None ≡ o
or_none None = refl
or_none (Some x) = refl

-- where the keys of other periods have none
eternal_at : (es : Entries) (k : Key) → (eq_by_cmp span_cmp k.period eternity ≡ false → value_at es k ≡ None) → input_at es k ≡ value_at es (eternal_key k)
eternal_at es k none = by (eq_by_cmp span_cmp k.period eternity) refl
  where
    by : (b : Bool) → eq_by_cmp span_cmp k.period eternity ≡ b → input_at es k ≡ value_at es (eternal_key k)
    by true is =
        let same : same_key k (eternal_key k) ≡ true =
        ap₂ (λ a b. a && b) (eq-eqb k.variable k.variable refl) (ap₂ (λ a b. a && b) (eq-eqb k.member k.member refl) is) in
        ap (λ o. otherwise o (value_at es (eternal_key k))) (looked-like k (eternal_key k) same es) ∙ twice (value_at es (eternal_key k))
    by false other = ap (λ o. otherwise o (value_at es (eternal_key k))) (none other)

finite_at : (es : Entries) (k : Key) → value_at es (eternal_key k) ≡ None → input_at es k ≡ value_at es k
finite_at es k none = ap (otherwise (value_at es k)) none ∙ or_none (value_at es k)

left_none : (marks : List Bool) (es : Entries) (k : Key) → value_at es k ≡ None → value_at (without_marked marks es) k ≡ None
left_none marks es k none =
    lookup-filter-keys (same_key k) (λ q. not (is_marked marks q.variable)) (not (is_marked marks k.variable)) (same_mark marks k) es
    ∙ (ap (λ o. cond (not (is_marked marks k.variable)) o None) none ∙ by (not (is_marked marks k.variable)))
  where
    by : (b : Bool) → ◌≡◌ {A = Option Value} (cond b None None) None
    by true = refl
    by false = refl

module _ (c : Tables) (marks : List Bool) (counts : List ℕ) (gs : List Given) (es : Entries) (h : inputs_of (map rule_of c.variables) counts gs ≡ Ok es)
    (k : Key) (v : Variable) (declared : slice_get c.variables k.variable ≡ Some v) where
  pub eternal_input : is_eternity v.definition_period ≡ true → input_at (without_marked marks es) k ≡ value_at (without_marked marks es) (eternal_key k)
  eternal_input eternal =
      eternal_at (without_marked marks es) k (λ other.
      left_none marks es k (none_in c counts gs es k.variable k.member k.period h (λ n. eternal_none c k.variable v declared eternal n k.period other)))

  pub finite_input : is_eternity v.definition_period ≡ false → input_at (without_marked marks es) k ≡ value_at (without_marked marks es) k
  finite_input other =
      finite_at (without_marked marks es) k
      (left_none marks es (eternal_key k) (none_in c counts gs es k.variable k.member eternity h (λ n. finite_none c k.variable v declared other n)))

-- no variable is neutralised
none_marked : (es : Entries) → without_marked [] es ≡ es
none_marked [] = refl
none_marked (e ∷ es) = ap (λ fs. e ∷ fs) (none_marked es)

module _ (c : Tables) (default : Option Span) (line : ℕ) (n : Node) (s : Situation) (h : situation_of c default line n ≡ Ok s) (k : Key) (v : Variable)
    (declared : slice_get c.variables k.variable ≡ Some v) where
  read : (r : Reading) × (es : Entries) × (inputs_of (map rule_of c.variables) (counts_of r.members) r.given ≡ Ok es) × (without_marked [] es ≡ s.inputs)
  read =
      let first = then_ok (reading_of c default line n) (situation_by c) s h in
      let shares = then_ok (inputs_of (map rule_of c.variables) (counts_of first.0.members) first.0.given) (λ es.
      Ok (record { members = first.0.members; inputs = es })) s first.2 in
      let same : record { members = first.0.members; inputs = shares.0 } ≡ s = cc in
      (first.0, shares.0, shares.1, none_marked shares.0 ∙ ap (λ (x : Situation). x.inputs) same)

  pub read_eternal : is_eternity v.definition_period ≡ true → input_at s.inputs k ≡ value_at s.inputs (eternal_key k)
  read_eternal eternal =
      subst (λ es. input_at es k ≡ value_at es (eternal_key k)) read.3 (eternal_input c [] (counts_of read.0.members) read.0.given read.1 read.2 k v declared eternal)

  pub read_finite : is_eternity v.definition_period ≡ false → input_at s.inputs k ≡ value_at s.inputs k
  read_finite other =
      subst (λ es. input_at es k ≡ value_at es k) read.3 (finite_input c [] (counts_of read.0.members) read.0.given read.1 read.2 k v declared other)

module _ (c : Tables) (marks : List Bool) (ms : List EntityMembers) (gs : List Given) (es : Entries) (h : shared_anew c marks ms gs ≡ Ok es) (k : Key) (v : Variable)
    (declared : slice_get c.variables k.variable ≡ Some v) where
  before : IsShared c marks ms gs es
  before = shared_from c marks ms gs es h

  pub shared_eternal : is_eternity v.definition_period ≡ true → input_at es k ≡ value_at es (eternal_key k)
  shared_eternal eternal =
      subst (λ fs. input_at fs k ≡ value_at fs (eternal_key k)) before.left
      (eternal_input c marks (counts_of ms) gs before.all before.shares k v declared eternal)

  pub shared_finite : is_eternity v.definition_period ≡ false → input_at es k ≡ value_at es k
  shared_finite other =
      subst (λ fs. input_at fs k ≡ value_at fs k) before.left (finite_input c marks (counts_of ms) gs before.all before.shares k v declared other)

-- Overlaps

pub never_overlaps : (c : Tables) (gs : List Given) → AreApart c gs → (x : ℕ) (v : Variable) → slice_get c.variables x ≡ Some v
    → is_eternity v.definition_period ≡ true → (m : ℕ) (p : Span) → overlaps_another gs x m p ≡ false
never_overlaps c [] all x v declared eternal m p = refl
never_overlaps c (g ∷ gs) all x v declared eternal m p = ap₂ (λ a b. a || b) (by (g.variable == x) refl) (never_overlaps c gs all.1.1 x v declared eternal m p)
  where
    by : (b : Bool) → (g.variable == x) ≡ b → is_overlap x m p g ≡ false
    by true is =
        let same : g.variable ≡ x = eqb-true g.variable x is in
        let period : g.period ≡ eternity = all.0.eternal v (ap (slice_get c.variables) same ∙ declared) eternal in
        ap (λ q. not (is_eternal q) && (is_across x m p g && is_other p g)) period
    by false other =
        ap (λ b. not (is_eternal g.period) && ((b && ((g.member == m) && shares_day g.period p)) && is_other p g)) other ∙ none (not (is_eternal g.period))
      where
        none : (b : Bool) → (b && false) ≡ false
        none true = refl
        none false = refl
