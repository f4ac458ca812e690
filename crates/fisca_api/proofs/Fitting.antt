-- What is given and the inputs are of the types of their variables.
use Rattle.std.proofs.Common.{◌≡◌, ℕ, List, [], ◌∷◌, map, slice_get, Bool, true, false, Option, Some, None, refl, sym, ap, subst, ◌∙◌, if◌then◌else◌}
use Rattle.std.specs.Prelude.{Result, Ok, Err, IfOk, nat_lt}
use Rattle.fisca_groups.specs.Lookup.{count_at, counts_of}
use Rattle.fisca_groups.specs.declared.entity_members.EntityMembers.{EntityMembers}
use Rattle.fisca_inputs.proofs.Typed.{then_ok, inputs_typed, input_typed}
use Rattle.fisca_inputs.specs.Entries.{Entries}
use Rattle.fisca_inputs.specs.Inputs.{inputs_of, without_marked}
use Rattle.fisca_inputs.specs.Steps.Inputs.{is_marked}
use Rattle.fisca_inputs.specs.Outcomes.{Tells}
use Rattle.fisca_inputs.specs.Steps.Overlaps.{overlaps}
use Rattle.fisca_inputs.specs.Rules.{rule_of}
use Rattle.fisca_inputs.specs.Typed.{DefaultsTyped, GivensTyped, IsValueOf, is_typed}
use Rattle.fisca_inputs.specs.declared.fault.SituationFault.{SituationFault}
use Rattle.fisca_inputs.specs.declared.fault.SituationKind.TheVariants.{InconsistentInput, UnknownPerson, BadValue}
use Rattle.fisca_inputs.specs.declared.given.Given.{Given}
use Rattle.fisca_model.specs.Seen.{value_seen}
use Rattle.fisca_model.specs.Values as meaning
use Rattle.fisca_model.specs.declared.key.Key.{Key}
use Rattle.fisca_model.specs.declared.value_type.ValueType.TheVariants as vt
use Rattle.fisca_num.specs.Number.{Number}
use Rattle.fisca_num.specs.Results.{and_then}
use Rattle.fisca_rules.specs.Views.{rule_set}
use Rattle.fisca_rules.specs.declared.rule_set.RuleSet.{RuleSet}
use Rattle.fisca_simulation.proofs.Fitting.{defaults_typed, fits_left}
use Rattle.fisca_simulation.proofs.KnownTables.{tables_known}
use Rattle.fisca_simulation.specs.Sound.{InputsFit, IsSafeRules}
use Rattle.fisca_situations.proofs.Typed.{known_type, read_all_typed}
use Rattle.fisca_situations.specs.AllAxes.{put_all_in}
use Rattle.fisca_situations.specs.Axes as axes
use Rattle.fisca_situations.specs.Steps.Axes.{moved, moved_apart, moved_by, moved_by_member, moved_of, of_no_line, put_in, refused, shared_anew}
use Rattle.fisca_situations.specs.Axes.{moving}
use Rattle.fisca_situations.specs.Steps.Situations.{reading_of, situation_by}
use Rattle.fisca_situations.specs.declared.reading.Reading.{Reading}
use Rattle.fisca_situations.specs.Slots.{Slot}
use Rattle.fisca_situations.specs.Steps.Slots.{has_numbers, slot_by, slot_of}
use Rattle.fisca_symbols.specs.Known.{tables as known}
use Rattle.fisca_symbols.specs.KnownVariables.{value_type}
use Rattle.fisca_symbols.specs.declared.tables.Tables.{Tables}
use Rattle.fisca_symbols.specs.declared.variable.DeclaredType.{DeclaredType}
use Rattle.fisca_symbols.specs.declared.variable.DeclaredType.TheVariants as type
use Rattle.fisca_symbols.specs.declared.variable.Variable.{Variable}
use Rattle.fisca_time.specs.Period.{Span}
use Rattle.fisca_yaml.specs.Node.{Node}
use Rattle.fisca_api.proofs.Givens.{typed_put}
use Rattle.fisca_api.proofs.OfGiven.{unmarked}
use Rattle.fisca_api.specs.Evaluators.{Fits, HasNumbers, HaveNumbers}
use Rattle.fisca_api.specs.Situations.{Moved, Situation, all_given, given_as, given_by, situation_at, situation_in, situation_of, with_axis}
use Rattle.fisca_api.specs.Views.{situation as view}
use Rattle.fisca_api.specs.declared.situation.Situation as declared
use Rattle.fisca_api.specs.declared.given.AxisValue.{AxisValue}

-- Variables of numbers

of_numbers : (d : DeclaredType) → has_numbers d ≡ true → value_type d ≡ Some vt.Number
of_numbers type.Float h = refl
of_numbers type.Int h = refl
of_numbers type.Bool h = cc
of_numbers type.Date h = cc
of_numbers type.Text h = cc
of_numbers (type.Enum e) h = cc

module _ (rules : RuleSet) where
  abbrev c : Tables
  c = rules.tables

  of_number : (x : ℕ) (n : Number) → HasNumbers rules x → IsValueOf (known c) x (meaning.number n)
  of_number x n h = subst (λ t. is_typed (known c) t (meaning.number n) ≡ true) (sym h) refl

  -- what an axis moves at a key is a number
  abbrev IsMoved : Key → Given → Type 0
  IsMoved k g = HasNumbers rules g.variable × IsValueOf (known c) g.variable (value_seen g.value) × (g.variable ≡ k.variable)

  apart_moved : (gs : List Given) (k : Key) (g h : Given) → IsMoved k g → moved_apart gs g ≡ Ok h → IsMoved k h
  apart_moved gs k g h is e = by (overlaps gs g.variable g.member g.period) e
    where
      by : (b : Bool) → (if b then refused InconsistentInput else Ok g) ≡ Ok h → IsMoved k h
      by true e = cc
      by false e = let same : g ≡ h = cc in subst (IsMoved k) same is

  member_moved : (there : Bool) (gs : List Given) (x : Variable) (k : Key) (h : Given) → HasNumbers rules k.variable → moved_by_member there gs x k ≡ Ok h → IsMoved k h
  member_moved true gs x k h n e = apart_moved gs k (moved x k) h (n, of_number k.variable _ n, refl) e
  member_moved false gs x k h n e = cc

  one_moved : (ms : List EntityMembers) (gs : List Given) (k : Key) (o : Option Variable) (h : Given) → slice_get c.variables k.variable ≡ o → moved_by ms gs k o ≡ Ok h → IsMoved k h
  one_moved ms gs k None h is e = cc
  one_moved ms gs k (Some x) h is e = by (has_numbers x.value_type) refl e
    where
      by : (b : Bool) → has_numbers x.value_type ≡ b → (if b then moved_by_member (nat_lt k.member (count_at ms x.entity)) gs x k else refused BadValue) ≡ Ok h → IsMoved k h
      by true numbers e =
          member_moved (nat_lt k.member (count_at ms x.entity)) gs x k h (known_type c.variables k.variable x is ∙ of_numbers x.value_type numbers) e
      by false numbers e = cc

  -- the slot is of the variable of what is moved
  own_slot : (neutral : Bool) (o : Option Variable) (wheel : ℕ) (g : Given) → (slot_by neutral o wheel g).variable ≡ g.variable
  own_slot true None wheel g = refl
  own_slot false None wheel g = refl
  own_slot true (Some x) wheel g = refl
  own_slot false (Some x) wheel g = refl

  own_wheel : (neutral : Bool) (o : Option Variable) (wheel : ℕ) (g : Given) → (slot_by neutral o wheel g).wheel ≡ wheel
  own_wheel true None wheel g = refl
  own_wheel false None wheel g = refl
  own_wheel true (Some x) wheel g = refl
  own_wheel false (Some x) wheel g = refl

  -- values that are given are numbers
  value_given : (a : AxisValue) (o : Option Variable) → HasNumbers rules a.variable → IsValueOf (known c) (given_as a o).variable (value_seen (given_as a o).value)
  value_given a None n = of_number a.variable _ n
  value_given a (Some x) n = of_number a.variable _ n

  all_values : (vs : List AxisValue) → HaveNumbers rules vs → GivensTyped (known c) (all_given c vs)
  all_values [] ns = tt
  all_values (a ∷ vs) ns = (value_given a (slice_get c.variables a.variable) ns.0, all_values vs ns.1)

-- Sharing

module _ (rules : RuleSet) (safe : IsSafeRules (rule_set rules)) where
  -- before the inputs of neutralised variables are taken out
  shared_fit : (ms : List EntityMembers) (gs : List Given) (es : Entries) → GivensTyped (known rules.tables) gs → inputs_of (map rule_of rules.tables.variables) (counts_of ms) gs ≡ Ok es
      → InputsFit (rule_set rules) (record { members = ms; inputs = es })
  shared_fit ms gs es ts h =
      let same = tables_known rules in
      let defaults = subst (λ d. DefaultsTyped d (map rule_of rules.tables.variables)) (sym same) (defaults_typed rules safe.defaults) in
      let typed = inputs_typed (known rules.tables) (map rule_of rules.tables.variables) (counts_of ms) gs defaults es ts h in
      λ k w there. subst (λ d. IsValueOf d k.variable (value_seen w)) same (input_typed (known rules.tables) es typed k w there)

  all_put_typed : (gs hs : List Given) → GivensTyped (known rules.tables) gs → GivensTyped (known rules.tables) hs → GivensTyped (known rules.tables) (put_all_in gs hs)
  all_put_typed gs [] ts us = ts
  all_put_typed gs (h ∷ hs) ts us = all_put_typed (put_in gs h) hs (typed_put rules.tables gs h ts us.0) us.1

  line_free : (r : Result Entries SituationFault) (es : Entries) → of_no_line r ≡ Ok es → r ≡ Ok es
  line_free (Ok fs) es h = h
  line_free (Err f) es h = cc

  anew_fit : (neutral : List Bool) (ms : List EntityMembers) (gs : List Given) (es : Entries) → GivensTyped (known rules.tables) gs → shared_anew rules.tables neutral ms gs ≡ Ok es
      → InputsFit (rule_set rules) (record { members = ms; inputs = es })
  anew_fit neutral ms gs es ts h =
      let given = inputs_of (map rule_of rules.tables.variables) (counts_of ms) gs in
      let left = line_free (and_then given (λ fs. Ok (without_marked neutral fs))) es h in
      let one = then_ok given (λ fs. Ok (without_marked neutral fs)) es left in
      let taken : without_marked neutral one.0 ≡ es = cc in
      fits_left (rule_set rules) neutral (record { members = ms; inputs = one.0 }) (record { members = ms; inputs = es }) (shared_fit ms gs one.0 ts one.1) (sym taken)

  pub read_fits : (default : Option Span) (n : Node) (s : Situation) → situation_of rules.tables default n ≡ Ok s → Fits rules s
  read_fits default n s h =
      let read = then_ok (reading_of rules.tables default 1 n) (situation_in rules.tables) s h in
      let whole = then_ok (situation_by rules.tables read.0) (λ t. Ok (record { given = read.0.given; shared = t; neutral = [] })) s read.2 in
      let given = inputs_of (map rule_of rules.tables.variables) (counts_of read.0.members) read.0.given in
      let shared = then_ok given (λ es. Ok (record { members = read.0.members; inputs = es })) whole.0 whole.1 in
      let inner : record { members = read.0.members; inputs = shared.0 } ≡ whole.0 = cc in
      let same : record { given = read.0.given; shared = whole.0; neutral = [] } ≡ s = cc in
      let typed = read_all_typed rules.tables default 1 n read.0 read.1 in
      subst (Fits rules) same (record {
        given = typed;
        inputs = subst (InputsFit (rule_set rules)) inner (shared_fit read.0.members read.0.given shared.0 typed shared.1);
      })

  -- An axis

  pub axis_fits : (s : Situation) (wheel : ℕ) (k : Key) (m : axes.Moving) → Fits rules s → axes.with_axis rules.tables s.neutral s.shared s.given wheel k ≡ Ok m
      → Fits rules (record { given = m.given; shared = m.situation; neutral = s.neutral })
  axis_fits s wheel k m fits h =
      let moves = then_ok (moved_of rules.tables s.shared.members s.given k) (moving rules.tables s.neutral s.shared s.given wheel) m h in
      let g = moves.0 in
      let anew = then_ok (shared_anew rules.tables s.neutral s.shared.members (put_in s.given g))
      (λ es. Ok (record { given = put_in s.given g; situation = record { members = s.shared.members; inputs = es }; slot = slot_of rules.tables s.neutral wheel g })) m moves.2 in
      let same : record { given = put_in s.given g; situation = record { members = s.shared.members; inputs = anew.0 }; slot = slot_of rules.tables s.neutral wheel g } ≡ m = cc in
      let is = one_moved rules s.shared.members s.given k (slice_get rules.tables.variables k.variable) g refl moves.1 in
      let typed = all_put_typed s.given (g ∷ []) fits.given (is.1, tt) in
      subst (λ (x : axes.Moving). Fits rules (record { given = x.given; shared = x.situation; neutral = s.neutral })) same
      (record { given = typed; inputs = anew_fit s.neutral s.shared.members (put_in s.given g) anew.0 typed anew.1 })

  -- Values in place of axes

  pub at_fits : (s : Situation) (vs : List AxisValue) (es : Entries) → Fits rules s → HaveNumbers rules vs
      → shared_anew rules.tables s.neutral s.shared.members (put_all_in s.given (all_given rules.tables vs)) ≡ Ok es
      → Fits rules (record { given = put_all_in s.given (all_given rules.tables vs); shared = record { members = s.shared.members; inputs = es }; neutral = s.neutral })
  at_fits s vs es fits numbers h =
      let gs = put_all_in s.given (all_given rules.tables vs) in
      let typed = all_put_typed s.given (all_given rules.tables vs) fits.given (all_values rules vs numbers) in
      record { given = typed; inputs = anew_fit s.neutral s.shared.members gs es typed h }

-- what an axis that was put in moves: its variable has numbers, and its wheel is the one that was asked for
pub axis_slot : (rules : RuleSet) (s : Situation) (wheel : ℕ) (k : Key) (m : axes.Moving) → axes.with_axis rules.tables s.neutral s.shared s.given wheel k ≡ Ok m
    → HasNumbers rules m.slot.variable × (m.slot.wheel ≡ wheel) × (m.slot.variable ≡ k.variable)
axis_slot rules s wheel k m h =
    let c = rules.tables in
    let moves = then_ok (moved_of c s.shared.members s.given k) (moving c s.neutral s.shared s.given wheel) m h in
    let g = moves.0 in
    let anew = then_ok (shared_anew c s.neutral s.shared.members (put_in s.given g))
    (λ es. Ok (record { given = put_in s.given g; situation = record { members = s.shared.members; inputs = es }; slot = slot_of c s.neutral wheel g })) m moves.2 in
    let inner : slot_of c s.neutral wheel g ≡ m.slot = cc in
    let is = one_moved rules s.shared.members s.given k (slice_get c.variables k.variable) g refl moves.1 in
    let own = own_slot rules (is_marked s.neutral g.variable) (slice_get c.variables g.variable) wheel g in
    let same : g.variable ≡ m.slot.variable = sym own ∙ ap (λ (t : Slot). t.variable) inner in (
      subst (HasNumbers rules) same is.0,
      ap (λ (t : Slot). t.wheel) (sym inner) ∙ own_wheel rules (is_marked s.neutral g.variable) (slice_get c.variables g.variable) wheel g,
      sym same ∙ is.2,
    )

-- where variables are neutralised
pub neutral_fits : (rules : RuleSet) (marks : List Bool) (s left : Situation) → Fits rules s → left.given ≡ s.given → left.shared.inputs ≡ without_marked marks s.shared.inputs
    → Fits rules left
neutral_fits rules marks s left fits same is = record {
  given = subst (GivensTyped (known rules.tables)) (sym same) fits.given;
  inputs = fits_left (rule_set rules) marks s.shared left.shared fits.inputs is;
}

-- what is told of a situation that was read
pub read_told : (rules : RuleSet) (default : Option Span) (n : Node) (reading : Reading) (r : Result declared.Situation SituationFault) → reading_of rules.tables default 1 n ≡ Ok reading
    → Tells view (situation_in rules.tables reading) r → IfOk r (λ s. IsSafeRules (rule_set rules) → Fits rules (view s))
read_told rules default n reading (Ok s) h told = λ safe. read_fits rules safe default n (view s) (ap (λ x. and_then x (situation_in rules.tables)) h ∙ told)
read_told rules default n reading (Err f) h told = tt

-- An axis that was put in, with what is kept

pub moved_fits : (rules : RuleSet) → IsSafeRules (rule_set rules) → (s : Situation) (wheel : ℕ) (k : Key) (m : Moved) → Fits rules s → with_axis rules.tables s wheel k ≡ Ok m
    → Fits rules m.situation
moved_fits rules safe s wheel k m fits h =
    let u = unmarked rules.tables s wheel k m h in subst (λ (t : Moved). Fits rules t.situation) u.2 (axis_fits rules safe s wheel k u.0 fits u.1)

abbrev pub IsSlot : RuleSet → ℕ → ℕ → Slot → Type 0
IsSlot rules variable wheel t = HasNumbers rules t.variable × (t.wheel ≡ wheel) × (t.variable ≡ variable)

pub moved_slot : (rules : RuleSet) (s : Situation) (wheel : ℕ) (k : Key) (m : Moved) → with_axis rules.tables s wheel k ≡ Ok m → IsSlot rules k.variable wheel m.slot
moved_slot rules s wheel k m h =
    let u = unmarked rules.tables s wheel k m h in subst (λ (t : Moved). IsSlot rules k.variable wheel t.slot) u.2 (axis_slot rules s wheel k u.0 u.1)

-- what is told of a situation in which values are given
pub at_told : (rules : RuleSet) (s : Situation) (vs : List AxisValue) (r : Result declared.Situation SituationFault) → Tells view (situation_at rules.tables s vs) r
    → IfOk r (λ t. IsSafeRules (rule_set rules) → Fits rules s → HaveNumbers rules vs → Fits rules (view t))
at_told rules s vs (Ok t) told = λ safe fits numbers.
    let c = rules.tables in
    let gs = put_all_in s.given (all_given c vs) in
    let anew = then_ok (shared_anew c s.neutral s.shared.members gs) (λ es. Ok (record { given = gs; shared = record { members = s.shared.members; inputs = es }; neutral = s.neutral })) (view t) told in
    let same : record { given = gs; shared = record { members = s.shared.members; inputs = anew.0 }; neutral = s.neutral } ≡ view t = cc in
    subst (Fits rules) same (at_fits rules safe s vs anew.0 fits numbers anew.1)
at_told rules s vs (Err f) told = tt
