-- The sources of a rule set that was built are sound, where each input is of its variable's type.
use Rattle.std.proofs.Common.{◌≡◌, ap, sym, subst, ◌∙◌, ℕ, zero, suc, List, [], ◌∷◌, map, Bool, true, false, Option, Some, None, slice_get, refl, if◌then◌else◌}
use Rattle.std.specs.Prelude.{option_map}
use Rattle.std.specs.Ordering.{is_gt}
use Rattle.fisca_inputs.specs.Entries.{value_at}
use Rattle.fisca_inputs.specs.Steps.Inputs.{is_marked}
use Rattle.fisca_inputs.specs.Steps.Rules.{default_of}
use Rattle.fisca_model.specs.Seen.{key_of, value_seen}
use Rattle.fisca_inputs.specs.Typed.{is_typed, IsValueOf}
use Rattle.fisca_model.specs.declared.value.Value.{Value as Input}
use Rattle.fisca_model.specs.declared.value.Value.TheVariants as v
use Rattle.fisca_model.specs.Values.{Key}
use Rattle.fisca_typing.specs.Meaning.{formula_means}
use Rattle.fisca_model.specs.Groups.{Groups, Point}
use Rattle.fisca_model.specs.Periods.{fits}
use Rattle.fisca_model.specs.Tables.{type_in, variable_type}
use Rattle.fisca_typing.specs.Safe.{IsSafe}
use Rattle.fisca_typing.specs.Wellformed.{before_cast}
use Rattle.fisca_groups.specs.Grouped.{grouped}
use Rattle.fisca_rules.specs.Rules.{DatedFormula, known_by}
use Rattle.fisca_rules.specs.Safety.{IsNeverStuck, AllNeverStuck, EachNeverStuck, AreUncomputed, AllDefaultsFit, is_default}
use Rattle.fisca_symbols.specs.KnownVariables.{value_type, variable}
use Rattle.fisca_symbols.specs.declared.variable.DeclaredType.{DeclaredType}
use Rattle.fisca_symbols.specs.declared.variable.DeclaredType.TheVariants as type
use Rattle.fisca_symbols.specs.declared.variable.DefaultValue.{DefaultValue}
use Rattle.fisca_symbols.specs.declared.variable.DefaultValue.TheVariants as default
use Rattle.fisca_time.specs.Instant.{CivilDate, date_cmp}
use Rattle.fisca_time.specs.Period.{start_of}
use Rattle.fisca_typing.specs.Formulas.{Formula}
use Rattle.fisca_model.specs.Tables.{Choices, Tables}
use Rattle.fisca_model.specs.declared.value_type.ValueType.{ValueType}
use Rattle.fisca_ops.specs.Casts.{cast}
use Rattle.fisca_symbols.specs.declared.variable.Variable.{Variable}
use Rattle.fisca_rules.specs.Steps.InForce.{has_started, later, latest_with, latest_of, in_force}
use Rattle.fisca_simulation.specs.Steps.InForce.{has_ended}
use Rattle.fisca_simulation.specs.Simulations.{Simulation, formula_from, formula_of, start_point, worked_out, known_or_refused, computed, given_or_computed, if_askable, variable_of, source_of, sources}
use Rattle.fisca_simulation.specs.Steps.Simulations.{all_dated}
use Rattle.fisca_simulation.specs.Sound.{GivesOnly, IsSound, AreSound, IsSafeRules, InputsFit}
use Rattle.fisca_simulation.proofs.Casts.{gives_then, cast_gives}

-- What is known at the place of a variable

pub type_at : (vs : List Variable) (x : ℕ) (w : Variable) → slice_get vs x ≡ Some w → type_in (slice_get (map variable vs) x) ≡ value_type w.value_type
type_at [] x w h = cc
type_at (y ∷ vs) zero w h = let same : y ≡ w = cc in ap (λ (z : Variable). value_type z.value_type) same
type_at (y ∷ vs) (suc x) w h = type_at vs x w h

never_stuck_at : (c : Tables) (vs : List Variable) (fs : List (List DatedFormula)) → EachNeverStuck c vs fs → (x : ℕ) (w : Variable) → slice_get vs x ≡ Some w → AllNeverStuck c w (all_dated (slice_get fs x))
never_stuck_at c [] [] e x w h = cc
never_stuck_at c [] (ds ∷ more) e x w h = absurd e
never_stuck_at c (y ∷ vs) [] e x w h = absurd e
never_stuck_at c (y ∷ vs) (ds ∷ more) e zero w h = let same : y ≡ w = cc in subst (λ z. AllNeverStuck c z ds) same e.0
never_stuck_at c (y ∷ vs) (ds ∷ more) e (suc x) w h = never_stuck_at c vs more e.1 x w h

uncomputed_at : (vs : List Variable) (fs : List (List DatedFormula)) → AreUncomputed vs fs → (x : ℕ) (w : Variable) → slice_get vs x ≡ Some w → value_type w.value_type ≡ None → all_dated (slice_get fs x) ≡ []
uncomputed_at [] [] e x w h none = cc
uncomputed_at [] (ds ∷ more) e x w h none = absurd e
uncomputed_at (y ∷ vs) [] e x w h none = absurd e
uncomputed_at (y ∷ vs) (ds ∷ more) e zero w h none = let same : y ≡ w = cc in e.0 (ap (λ (z : Variable). value_type z.value_type) same ∙ none)
uncomputed_at (y ∷ vs) (ds ∷ more) e (suc x) w h none = uncomputed_at vs more e.1 x w h none

pub default_at : (es : List Choices) (vs : List Variable) → AllDefaultsFit es vs → (x : ℕ) (w : Variable) → slice_get vs x ≡ Some w → is_default es w.value_type w.default_value ≡ true
default_at es [] e x w h = cc
default_at es (y ∷ vs) e zero w h = let same : y ≡ w = cc in subst (λ (z : Variable). is_default es z.value_type z.default_value ≡ true) same e.0
default_at es (y ∷ vs) e (suc x) w h = default_at es vs e.1 x w h

-- Defaults

module _ (c : Tables) where
  typed_as : (d : DeclaredType) (x w : Input) → ◌≡◌ {A = Option Input} (Some x) (Some w) → is_typed c (value_type d) (value_seen x) ≡ true → is_typed c (value_type d) (value_seen w) ≡ true
  typed_as d x w e t = let same : x ≡ w = cc in subst (λ y. is_typed c (value_type d) (value_seen y) ≡ true) same t

  pub default_typed : (d : DeclaredType) (e : DefaultValue) (w : Input) → is_default c.enums d e ≡ true → default_of e ≡ Some w → is_typed c (value_type d) (value_seen w) ≡ true
  default_typed type.Float (default.Number n) w h k = typed_as type.Float (v.Number n) w k refl
  default_typed type.Int (default.Number n) w h k = typed_as type.Int (v.Number n) w k refl
  default_typed type.Bool (default.Bool b) w h k = typed_as type.Bool (v.Bool b) w k refl
  default_typed (type.Enum i) (default.Member m) w h k = typed_as (type.Enum i) (v.Member m) w k h
  default_typed type.Float (default.Bool b) w h k = cc
  default_typed type.Float (default.Member m) w h k = cc
  default_typed type.Int (default.Bool b) w h k = cc
  default_typed type.Int (default.Member m) w h k = cc
  default_typed type.Bool (default.Number n) w h k = cc
  default_typed type.Bool (default.Member m) w h k = cc
  default_typed (type.Enum i) (default.Number n) w h k = cc
  default_typed (type.Enum i) (default.Bool b) w h k = cc
  default_typed type.Date (default.Number n) w h k = cc
  default_typed type.Date (default.Bool b) w h k = cc
  default_typed type.Date (default.Member m) w h k = cc
  default_typed type.Text (default.Number n) w h k = cc
  default_typed type.Text (default.Bool b) w h k = cc
  default_typed type.Text (default.Member m) w h k = cc
  default_typed d (default.Date x) w h k = cc
  default_typed d (default.Text x) w h k = cc

-- The formula in force

module _ (P : DatedFormula → Type 0) where
  abbrev Holds : Option DatedFormula → Type 0
  Holds None = Unit {0}
  Holds (Some d) = P d

  abbrev AllHold : List DatedFormula → Type 0
  AllHold [] = Unit {0}
  AllHold (d ∷ ds) = P d × AllHold ds

  holds_later : (found : Option DatedFormula) (d : DatedFormula) → Holds found → P d → P (later found d)
  holds_later None d f p = p
  holds_later (Some e) d f p = by (is_gt (date_cmp d.start e.start))
    where
      by : (b : Bool) → P (if b then d else e)
      by true = p
      by false = f

  holds_with : (day : CivilDate) (found : Option DatedFormula) (d : DatedFormula) → Holds found → P d → Holds (latest_with day found d)
  holds_with day found d f p = by (has_started day d)
    where
      by : (b : Bool) → Holds (if b then Some (later found d) else found)
      by true = holds_later found d f p
      by false = f

  holds_latest : (day : CivilDate) (found : Option DatedFormula) (ds : List DatedFormula) → Holds found → AllHold ds → Holds (latest_of day found ds)
  holds_latest day found [] f all = f
  holds_latest day found (d ∷ ds) f all = holds_latest day (latest_with day found d) ds (holds_with day found d f all.0) all.1

all_hold : (c : Tables) (w : Variable) (ds : List DatedFormula) → AllNeverStuck c w ds → AllHold (IsNeverStuck c w) ds
all_hold c w [] h = tt
all_hold c w (d ∷ ds) h = (h.0, all_hold c w ds h.1)

-- Each key

-- the variable of a key stands at its place
there_is : (k : Key) (o : Option Variable) (w : Variable) → if_askable k o ≡ Some w → o ≡ Some w
there_is k None w h = cc
there_is k (Some v) w h = by (fits v.definition_period k.period) h
  where
    by : (b : Bool) → (if b then Some v else None) ≡ Some w → ◌≡◌ {A = Option Variable} (Some v) (Some w)
    by true h' = h'
    by false h' = cc

module _ (m : Simulation) (safe : IsSafeRules m.rules) (k : Key) (w : Variable) (is : slice_get m.rules.variables k.variable ≡ Some w) where
  abbrev c : Tables
  c = known_by m.rules

  abbrev ds : List DatedFormula
  ds = all_dated (slice_get m.rules.formulas k.variable)

  abbrev groups : Groups
  groups = grouped m.situation.members

  its_type : variable_type c k.variable ≡ value_type w.value_type
  its_type = type_at m.rules.variables k.variable w is

  abbrev Meant : Formula → Type 0
  Meant f = (g : Groups) (t : ValueType) → value_type w.value_type ≡ Some t → (p : Point) → IsSafe c (before_cast t) (formula_means c g f p)

  cast_sound : (f : Formula) → Meant f → (o : Option ValueType) → value_type w.value_type ≡ o → (o ≡ None → ⊥) → GivesOnly c (IsValueOf c k.variable) (worked_out m.rules groups w k f)
  cast_sound f meant None e some = absurd (some refl)
  cast_sound f meant (Some t) e some =
      subst (λ u. GivesOnly c (λ x. is_typed c u x ≡ true) (worked_out m.rules groups w k f)) (sym its_type)
      (gives_then c (before_cast t) (λ x. is_typed c (value_type w.value_type) x ≡ true) (formula_means c groups f (start_point w k)) (cast w.value_type) (meant groups t e (start_point w k)) (cast_gives c w.value_type t e))

  abbrev Found : Formula → Type 0
  Found f = Meant f × (value_type w.value_type ≡ None → ⊥)

  work_sound : (f : Formula) → formula_of m.rules m.neutral w k ≡ Some f → GivesOnly c (IsValueOf c k.variable) (worked_out m.rules groups w k f)
  work_sound f e = let d = unmarked (is_marked m.neutral k.variable) e in cast_sound f d.0 (value_type w.value_type) refl d.1
    where
      some_not_none : (d : DatedFormula) → ◌≡◌ {A = Option DatedFormula} (Some d) None → ⊥
      some_not_none d x = cc

      from_force : (day : CivilDate) (o : Option DatedFormula) → in_force day ds ≡ o → option_map (λ d. d.formula) o ≡ Some f → Found f
      from_force day None q h = cc
      from_force day (Some d) q h =
          let same : d.formula ≡ f = cc in
          let held : IsNeverStuck c w d = subst (Holds (IsNeverStuck c w)) q (holds_latest (IsNeverStuck c w) day None ds tt (all_hold c w ds (never_stuck_at c m.rules.variables m.rules.formulas safe.formulas k.variable w is))) in
          (subst Meant same held, λ none. some_not_none d (sym q ∙ ap (in_force day) (uncomputed_at m.rules.variables m.rules.formulas safe.uncomputed k.variable w is none)))

      on_day : (day : CivilDate) (b : Bool) → (if b then None else option_map (λ d. d.formula) (in_force day ds)) ≡ Some f → Found f
      on_day day true h = cc
      on_day day false h = from_force day (in_force day ds) refl h

      from_day : (o : Option CivilDate) → formula_from w ds o ≡ Some f → Found f
      from_day None h = cc
      from_day (Some day) h = on_day day (has_ended w.end day) h

      unmarked : (b : Bool) → (if b then None else formula_from w ds (start_of k.period)) ≡ Some f → Found f
      unmarked true h = cc
      unmarked false h = from_day (start_of k.period) h

  default_sound : (o : Option Input) → default_of w.default_value ≡ o → IsSound c k (known_or_refused o)
  default_sound None e = tt
  default_sound (Some x) e =
      subst (λ u. is_typed c u (value_seen x) ≡ true) (sym its_type) (default_typed c w.value_type w.default_value x (default_at c.enums m.rules.variables safe.defaults k.variable w is) e)

  computed_sound : (o : Option Formula) → formula_of m.rules m.neutral w k ≡ o → IsSound c k (computed m w k o)
  computed_sound None e = default_sound (default_of w.default_value) refl
  computed_sound (Some f) e = (worked_out m.rules groups w k f, refl, work_sound f e)

  module _ (given : InputsFit m.rules m.situation) where
    given_sound : (o : Option Input) → value_at m.situation.inputs (key_of k) ≡ o → IsSound c k (given_or_computed m w k o)
    given_sound None e = computed_sound (formula_of m.rules m.neutral w k) refl
    given_sound (Some x) e = given (key_of k) x e

    variable_sound : (b : Bool) → IsSound c k (source_of m k (if b then Some w else None))
    variable_sound true = given_sound (value_at m.situation.inputs (key_of k)) refl
    variable_sound false = tt

-- what a formula that is in force for a key gives
pub works_soundly : (m : Simulation) → IsSafeRules m.rules → (k : Key) (w : Variable) → variable_of m.rules k ≡ Some w → (f : Formula) → formula_of m.rules m.neutral w k ≡ Some f
    → GivesOnly (known_by m.rules) (IsValueOf (known_by m.rules) k.variable) (worked_out m.rules (grouped m.situation.members) w k f)
works_soundly m safe k w e f h = work_sound m safe k w (there_is k (slice_get m.rules.variables k.variable) w e) f h

pub sources_sound : (m : Simulation) → IsSafeRules m.rules → InputsFit m.rules m.situation → AreSound (known_by m.rules) (sources m)
sources_sound m safe given k = by (slice_get m.rules.variables k.variable) refl
  where
    by : (o : Option Variable) → slice_get m.rules.variables k.variable ≡ o → IsSound (known_by m.rules) k (source_of m k (if_askable k o))
    by None e = tt
    by (Some w) e = variable_sound m safe k w e given (fits w.definition_period k.period)
