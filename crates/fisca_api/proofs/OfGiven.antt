-- Inputs of a situation stay those that are given, shared.
use Rattle.std.proofs.Common.{◌≡◌, ℕ, List, [], ◌∷◌, map, Bool, true, false, cond, not, refl, sym, ap, subst, ◌∙◌}
use Rattle.std.specs.Prelude.{IfOk, Option, Some, slice_get, Result, Ok, Err}
use Rattle.std.specs.List.{list_any}
use Rattle.fisca_groups.specs.Lookup.{counts_of}
use Rattle.fisca_groups.specs.declared.entity_members.EntityMembers.{EntityMembers}
use Rattle.fisca_inputs.proofs.Typed.{then_ok}
use Rattle.fisca_inputs.specs.Entries.{Entries, same_key, value_at}
use Rattle.fisca_inputs.specs.Inputs.{inputs_of, without_marked}
use Rattle.fisca_inputs.specs.Outcomes.{Tells}
use Rattle.fisca_inputs.specs.Rules.{rule_of}
use Rattle.fisca_inputs.specs.Steps.Inputs.{is_marked}
use Rattle.fisca_inputs.specs.declared.fault.SituationFault.{SituationFault}
use Rattle.fisca_inputs.specs.declared.given.Given.{Given}
use Rattle.fisca_model.specs.declared.key.Key.{Key}
use Rattle.fisca_model.specs.declared.value.Value.TheVariants as v
use Rattle.fisca_num.specs.Number.{Number}
use Rattle.fisca_num.specs.Results.{and_then}
use Rattle.fisca_rules.specs.Views.{rule_set}
use Rattle.fisca_rules.specs.declared.rule_set.RuleSet.{RuleSet}
use Rattle.fisca_simulation.specs.Sound.{IsSafeRules}
use Rattle.fisca_situations.specs.AllAxes.{put_all_in}
use Rattle.fisca_situations.specs.Axes as axes
use Rattle.fisca_situations.specs.Slots.{Slot}
use Rattle.fisca_situations.specs.Steps.Axes.{moved, of_no_line, put_in, shared_anew}
use Rattle.fisca_situations.specs.Steps.Cuts.{cut_for}
use Rattle.fisca_situations.specs.Steps.Situations.{reading_of, situation_by}
use Rattle.fisca_situations.specs.Steps.Slots.{keys_of, slot_of, turned}
use Rattle.fisca_situations.specs.declared.reading.Reading.{Reading}
use Rattle.fisca_symbols.specs.declared.tables.Tables.{Tables}
use Rattle.fisca_symbols.specs.declared.variable.Variable.{Variable}
use Rattle.fisca_time.specs.Period.{Span, is_period}
use Rattle.fisca_yaml.specs.Node.{Node}
use Rattle.fisca_api.proofs.Givens.{given_put, read_given}
use Rattle.fisca_api.proofs.Numbers.{slot_numbers}
use Rattle.fisca_api.proofs.Turns.{given_then, moved_then, put, shared as shared_from, turned_shared}
use Rattle.fisca_api.specs.Axes.{AreGiven, HasParts, HasPeriod, IsMoved}
use Rattle.fisca_api.specs.OfGiven.{AreAxisValues, IsAxisValue, IsOfGiven, axis_value, turned_to}
use Rattle.fisca_api.specs.Situations.{Moved, Situation, all_given, given_as, given_by, situation_at, situation_in, situation_of, with_axis}
use Rattle.fisca_api.specs.Views.{situation as view}
use Rattle.fisca_api.specs.declared.given.AxisValue.{AxisValue}
use Rattle.fisca_api.specs.declared.situation.Situation as declared

-- Neutralised variables

none_taken : (es : Entries) → without_marked [] es ≡ es
none_taken [] = refl
none_taken (e ∷ es) = ap (λ fs. e ∷ fs) (none_taken es)

module _ (before after : List Bool) (more : (x : ℕ) → is_marked before x ≡ true → is_marked after x ≡ true) where
  -- what is taken out by fewer marks first
  taken_twice : (es : Entries) → without_marked after (without_marked before es) ≡ without_marked after es
  taken_twice [] = refl
  taken_twice (e ∷ es) = by (is_marked before e.0.variable) refl (taken_twice es)
    where
      by : (b : Bool) → is_marked before e.0.variable ≡ b → without_marked after (without_marked before es) ≡ without_marked after es
          → without_marked after (cond (not b) (e ∷ without_marked before es) (without_marked before es)) ≡ without_marked after (e ∷ es)
      by true is rest = rest ∙ sym (ap (λ b. cond (not b) (e ∷ without_marked after es) (without_marked after es)) (more e.0.variable is))
      by false is rest = ap (λ fs. cond (not (is_marked after e.0.variable)) (e ∷ fs) fs) rest

  marked_anew : (c : Tables) (ms : List EntityMembers) (gs : List Given) (es : Entries) → shared_anew c before ms gs ≡ Ok es → shared_anew c after ms gs ≡ Ok (without_marked after es)
  marked_anew c ms gs es h =
      let is = shared_from c before ms gs es h in
      ap (λ (r : Result Entries SituationFault). of_no_line (and_then r (λ fs. Ok (without_marked after fs)))) is.shares
      ∙ ap Ok (sym (taken_twice is.all) ∙ ap (without_marked after) is.left)

pub neutral_kept : (c : Tables) (s left : Situation) → IsOfGiven c s → ((x : ℕ) → is_marked s.neutral x ≡ true → is_marked left.neutral x ≡ true)
    → left.given ≡ s.given → left.shared.members ≡ s.shared.members → left.shared.inputs ≡ without_marked left.neutral s.shared.inputs → IsOfGiven c left
neutral_kept c s left is more given members inputs =
    let anew = marked_anew s.neutral left.neutral more c s.shared.members s.given s.shared.inputs is.shared in
    let placed = subst (λ ms. shared_anew c left.neutral ms s.given ≡ Ok (without_marked left.neutral s.shared.inputs)) (sym members) anew in
    let all = subst (λ gs. shared_anew c left.neutral left.shared.members gs ≡ Ok (without_marked left.neutral s.shared.inputs)) (sym given) placed in
    record { given = subst (AreGiven c) (sym given) is.given; shared = all ∙ ap Ok (sym inputs) }

-- A situation that was read

pub read_kept : (c : Tables) (default : Option Span) (n : Node) (s : Situation) → HasPeriod default → situation_of c default n ≡ Ok s → IsOfGiven c s
read_kept c default n s period h =
    let read = then_ok (reading_of c default 1 n) (situation_in c) s h in
    let whole = then_ok (situation_by c read.0) (λ t. Ok (record { given = read.0.given; shared = t; neutral = [] })) s read.2 in
    let given = inputs_of (map rule_of c.variables) (counts_of read.0.members) read.0.given in
    let shared = then_ok given (λ es. Ok (record { members = read.0.members; inputs = es })) whole.0 whole.1 in
    let inner : record { members = read.0.members; inputs = shared.0 } ≡ whole.0 = cc in
    let same : record { given = read.0.given; shared = whole.0; neutral = [] } ≡ s = cc in
    let anew = ap (λ (r : Result Entries SituationFault). of_no_line (and_then r (λ es. Ok (without_marked [] es)))) shared.1 ∙ ap Ok (none_taken shared.0) in
    let is : IsOfGiven c (record { given = read.0.given; shared = record { members = read.0.members; inputs = shared.0 }; neutral = [] }) =
    record { given = read_given c default 1 n read.0 period read.1; shared = anew } in
    subst (IsOfGiven c) same (subst (λ t. IsOfGiven c (record { given = read.0.given; shared = t; neutral = [] })) inner is)

-- An axis

module _ (c : Tables) (s : Situation) (wheel : ℕ) (k : Key) where
  pub axis_kept : (m : axes.Moving) → IsOfGiven c s → is_period k.period ≡ true → axes.with_axis c s.neutral s.shared s.given wheel k ≡ Ok m
      → IsOfGiven c (record { given = m.given; shared = m.situation; neutral = s.neutral })
  axis_kept m is period h =
      let p = put c s.neutral s.shared s.given wheel k m h in record {
        given = given_then c s.neutral s.shared s.given wheel k m is.given h period;
        shared = subst (λ ms. shared_anew c s.neutral ms m.given ≡ Ok m.situation.inputs) (sym p.members) p.shares;
      }

  -- the axis that was put in, before the marks
  abbrev pub Unmarked : Moved → Type 0
  Unmarked m = (n : axes.Moving) × (axes.with_axis c s.neutral s.shared s.given wheel k ≡ Ok n)
      × (record { situation = record { given = n.given; shared = n.situation; neutral = s.neutral }; slot = n.slot } ≡ m)

  pub unmarked : (m : Moved) → with_axis c s wheel k ≡ Ok m → Unmarked m
  unmarked m h =
      let moves = then_ok (axes.with_axis c s.neutral s.shared s.given wheel k)
      (λ n. Ok (record { situation = record { given = n.given; shared = n.situation; neutral = s.neutral }; slot = n.slot })) m h in
      let same : record { situation = record { given = moves.0.given; shared = moves.0.situation; neutral = s.neutral }; slot = moves.0.slot } ≡ m = cc in
      (moves.0, moves.1, same)

  pub moved_kept : (m : Moved) → IsOfGiven c s → is_period k.period ≡ true → with_axis c s wheel k ≡ Ok m → IsOfGiven c m.situation
  moved_kept m is period h =
      let u = unmarked m h in
      subst (λ (t : Moved). IsOfGiven c t.situation) u.2 (axis_kept u.0 is period u.1)

  -- Turning

  anew_turned : (n : axes.Moving) (value : Number) → IsOfGiven c s → is_period k.period ≡ true → axes.with_axis c s.neutral s.shared s.given wheel k ≡ Ok n → HasParts value
      → shared_anew c s.neutral n.situation.members (put_in n.given (given_by c (axis_value k value))) ≡ Ok (turned n.slot value n.situation.inputs)
  anew_turned n value is period h parts =
      let kept = axis_kept n is period h in
      let moves = moved_then c s.neutral s.shared s.given wheel k n is.given h period in
      let x = moves.0 in
      let alike : given_by c (axis_value k value) ≡ given_as (axis_value k value) (Some x) = ap (given_as (axis_value k value)) moves.1.declared in
      let there = turned_shared c s.neutral n.situation.members n.given n.situation.inputs wheel x k value kept.given moves.1 parts kept.shared in
      subst (λ g. shared_anew c s.neutral n.situation.members (put_in n.given g) ≡ Ok (turned n.slot value n.situation.inputs)) (sym alike)
      (there ∙ ap (λ (t : Slot). Ok (turned t value n.situation.inputs)) (sym moves.2))

  pub turned_at : (m : Moved) (value : Number) → IsOfGiven c s → is_period k.period ≡ true → with_axis c s wheel k ≡ Ok m → HasParts value
      → situation_at c m.situation (axis_value k value ∷ []) ≡ Ok (turned_to c m k value)
  turned_at m value is period h parts =
      let u = unmarked m h in
      let n = u.0 in
      subst (λ (t : Moved). situation_at c t.situation (axis_value k value ∷ []) ≡ Ok (turned_to c t k value)) u.2
      (ap (λ (r : Result Entries SituationFault). and_then r (λ es. Ok (record {
        given = put_in n.given (given_by c (axis_value k value));
        shared = record { members = n.situation.members; inputs = es };
        neutral = s.neutral;
      }))) (anew_turned n value is period u.1 parts))

-- each key of the slot has a number
pub axis_numbers : (rules : RuleSet) → IsSafeRules (rule_set rules) → (s : Situation) (wheel : ℕ) (k : Key) (m : Moved) → IsOfGiven rules.tables s → is_period k.period ≡ true
    → with_axis rules.tables s wheel k ≡ Ok m → (key : Key) → list_any (same_key key) (keys_of m.slot) ≡ true → (n : Number) × (value_at m.situation.shared.inputs key ≡ Some (v.Number n))
axis_numbers rules safe s wheel k m is period h =
    let c = rules.tables in
    let u = unmarked c s wheel k m h in
    let n = u.0 in
    let kept = axis_kept c s wheel k n is period u.1 in
    let moves = moved_then c s.neutral s.shared s.given wheel k n is.given u.1 period in
    let own = slot_numbers rules safe s.neutral n.situation.members n.given n.situation.inputs wheel moves.0 k kept.given moves.1 kept.shared in
    let numbers : (key : Key) → list_any (same_key key) (keys_of n.slot) ≡ true → (number : Number) × (value_at n.situation.inputs key ≡ Some (v.Number number)) =
    λ key there. own key (subst (λ (t : Slot). list_any (same_key key) (keys_of t) ≡ true) moves.2 there) in
    subst (λ (t : Moved). (key : Key) → list_any (same_key key) (keys_of t.slot) ≡ true → (number : Number) × (value_at t.situation.shared.inputs key ≡ Some (v.Number number))) u.2 numbers

-- Values in place of axes

module _ (c : Tables) where
  value_put : (gs : List Given) (a : AxisValue) → AreGiven c gs → IsAxisValue c a → AreGiven c (put_in gs (given_by c a))
  value_put gs a given is =
      let k : Key = record { variable = a.variable; member = a.member; period = a.period } in
      subst (λ o. AreGiven c (put_in gs (given_as a o))) (sym is.declared)
      (given_put c gs is.variable k (cut_for is.variable.value_type a.value) given is.period is.declared is.numbers)

  all_put : (gs : List Given) (vs : List AxisValue) → AreGiven c gs → AreAxisValues c vs → AreGiven c (put_all_in gs (all_given c vs))
  all_put gs [] given are = given
  all_put gs (a ∷ vs) given are = all_put (put_in gs (given_by c a)) vs (value_put gs a given are.0) are.1

  pub at_kept : (s : Situation) (vs : List AxisValue) (t : Situation) → IsOfGiven c s → AreAxisValues c vs → situation_at c s vs ≡ Ok t → IsOfGiven c t
  at_kept s vs t is are h =
      let gs = put_all_in s.given (all_given c vs) in
      let anew = then_ok (shared_anew c s.neutral s.shared.members gs) (λ es. Ok (record { given = gs; shared = record { members = s.shared.members; inputs = es }; neutral = s.neutral })) t h in
      let same : record { given = gs; shared = record { members = s.shared.members; inputs = anew.0 }; neutral = s.neutral } ≡ t = cc in
      subst (IsOfGiven c) same (record { given = all_put s.given vs is.given are; shared = anew.1 })

-- What is told of situations

pub read_kept_told : (c : Tables) (default : Option Span) (n : Node) (reading : Reading) (r : Result declared.Situation SituationFault) → reading_of c default 1 n ≡ Ok reading
    → Tells view (situation_in c reading) r → IfOk r (λ s. HasPeriod default → IsOfGiven c (view s))
read_kept_told c default n reading (Ok s) h told = λ period. read_kept c default n (view s) period (ap (λ x. and_then x (situation_in c)) h ∙ told)
read_kept_told c default n reading (Err f) h told = tt

pub at_kept_told : (c : Tables) (s : Situation) (vs : List AxisValue) (r : Result declared.Situation SituationFault) → Tells view (situation_at c s vs) r
    → IfOk r (λ t. IsOfGiven c s → AreAxisValues c vs → IsOfGiven c (view t))
at_kept_told c s vs (Ok t) told = λ is are. at_kept c s vs (view t) is are told
at_kept_told c s vs (Err f) told = tt
