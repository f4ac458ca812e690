-- What an axis's slot makes of inputs that are shared, where it is turned.
use Rattle.std.proofs.Common.{◌≡◌, ℕ, List, [], ◌∷◌, map, Bool, true, false, Option, Some, None, slice_get, is_some, refl, sym, ap, ap₂, subst, ◌∙◌, inl, inr, if◌then◌else◌}
use Rattle.std.specs.Prelude.{Result, Ok, Err, nat_lt, option_map}
use Rattle.fisca_groups.specs.Lookup.{count_at, counts_of}
use Rattle.fisca_groups.specs.declared.entity_members.EntityMembers.{EntityMembers}
use Rattle.fisca_inputs.proofs.Typed.{then_ok}
use Rattle.fisca_inputs.specs.Entries.{Entries}
use Rattle.fisca_inputs.specs.Inputs.{inputs_of, without_marked}
use Rattle.fisca_inputs.specs.Rules.{Rule, rule_of}
use Rattle.fisca_inputs.specs.Steps.Inputs.{is_marked}
use Rattle.fisca_inputs.specs.Steps.Overlaps.{overlaps}
use Rattle.fisca_inputs.specs.declared.fault.SituationFault.{SituationFault}
use Rattle.fisca_inputs.specs.declared.fault.SituationKind.TheVariants.{BadValue, InconsistentInput}
use Rattle.fisca_inputs.specs.declared.given.Given.{Given}
use Rattle.fisca_model.specs.Periods.{is_eternity}
use Rattle.fisca_model.specs.declared.key.Key.{Key}
use Rattle.fisca_num.specs.Number.{Number, zero_number}
use Rattle.fisca_num.specs.Results.{and_then}
use Rattle.fisca_api.proofs.Givens.{given_put, input_given, moved_put, own_put}
use Rattle.fisca_api.specs.Axes.{AreApart, AreGiven, HasParts, IsGiven, IsMoved, IsOther, input_with, own_period}
use Rattle.fisca_run.proofs.Normal.{rule_at}
use Rattle.fisca_run.proofs.OfFiles.{left_of, one_slot, without_set}
use Rattle.fisca_run.proofs.Positions.{cut_parts}
use Rattle.fisca_run_file.specs.Steps.Positions.{cut_by}
use Rattle.fisca_situations.specs.Axes.{Moving as Moves, moving, with_axis}
use Rattle.fisca_situations.specs.Situations.{Situation}
use Rattle.fisca_situations.specs.Steps.Axes.{moved, moved_by, moved_by_member, moved_of, of_no_line, put_in, refused, shared_anew}
use Rattle.fisca_situations.specs.Steps.Cuts.{cut_for}
use Rattle.fisca_situations.specs.Steps.Slots.{has_numbers, slot_by, slot_of, turned}
use Rattle.fisca_slots.proofs.Anew.{set}
use Rattle.fisca_slots.proofs.Both.{Moving}
use Rattle.fisca_slots.proofs.Parts.{given_sound, moved_sound}
use Rattle.fisca_slots.proofs.Placed.{Distinct}
use Rattle.fisca_slots.proofs.Standing.{Among}
use Rattle.fisca_slots.proofs.Shared.{Each}
use Rattle.fisca_slots.proofs.Turned.{IsNormal, IsPlaced, inputs_turned, to_of}
use Rattle.fisca_inputs.specs.Entries.{same_key}
use Rattle.fisca_inputs.specs.Inputs.{key_given}
use Rattle.fisca_symbols.specs.declared.tables.Tables.{Tables}
use Rattle.fisca_symbols.specs.declared.variable.Variable.{Variable}
use Rattle.fisca_time.specs.Period.{eternity, is_period}

-- What is put in

ok_same : {X E : Type 0} (x y : X) → ◌≡◌ {A = Result X E} (Ok x) (Ok y) → x ≡ y
ok_same x y e = cc

-- what `Situation::axis` finds of a key
pub record IsFound (c : Tables) (gs : List Given) (k : Key) (g : Given) : Type 0 where
  pub variable : Variable
  pub declared : slice_get c.variables k.variable ≡ Some variable
  pub numbers : has_numbers variable.value_type ≡ true
  pub alone : overlaps gs k.variable k.member (own_period variable k) ≡ false
  pub is : moved variable k ≡ g

module _ (c : Tables) (ms : List EntityMembers) (gs : List Given) (k : Key) (g : Given) where
  found : moved_of c ms gs k ≡ Ok g → IsFound c gs k g
  found h = by (slice_get c.variables k.variable) refl h
    where
      alone : (x : Variable) → slice_get c.variables k.variable ≡ Some x → has_numbers x.value_type ≡ true → (b : Bool)
          → overlaps gs k.variable k.member (own_period x k) ≡ b → (if b then refused InconsistentInput else Ok (moved x k)) ≡ Ok g → IsFound c gs k g
      alone x is numbers true meets e = cc
      alone x is numbers false apart e =
          let same : moved x k ≡ g = cc in
          record { variable = x; declared = is; numbers = numbers; alone = apart; is = same }

      member : (x : Variable) → slice_get c.variables k.variable ≡ Some x → has_numbers x.value_type ≡ true → (b : Bool)
          → moved_by_member b gs x k ≡ Ok g → IsFound c gs k g
      member x is numbers true e = alone x is numbers (overlaps gs k.variable k.member (own_period x k)) refl e
      member x is numbers false e = cc

      number : (x : Variable) → slice_get c.variables k.variable ≡ Some x → (b : Bool) → has_numbers x.value_type ≡ b
          → (if b then moved_by_member (nat_lt k.member (count_at ms x.entity)) gs x k else refused BadValue) ≡ Ok g → IsFound c gs k g
      number x is true numbers e = member x is numbers (nat_lt k.member (count_at ms x.entity)) e
      number x is false numbers e = cc

      by : (o : Option Variable) → slice_get c.variables k.variable ≡ o → moved_by ms gs k o ≡ Ok g → IsFound c gs k g
      by None is e = cc
      by (Some x) is e = number x is (has_numbers x.value_type) refl e

-- what is given then, and the inputs that are shared
pub record IsPut (c : Tables) (neutral : List Bool) (s : Situation) (gs : List Given) (wheel : ℕ) (k : Key) (m : Moves) : Type 0 where
  pub input : Given
  pub found : IsFound c gs k input
  pub given : m.given ≡ put_in gs input
  pub members : m.situation.members ≡ s.members
  pub shares : shared_anew c neutral s.members m.given ≡ Ok m.situation.inputs
  pub slot : m.slot ≡ slot_of c neutral wheel input

pub put : (c : Tables) (neutral : List Bool) (s : Situation) (gs : List Given) (wheel : ℕ) (k : Key) (m : Moves) → with_axis c neutral s gs wheel k ≡ Ok m
    → IsPut c neutral s gs wheel k m
put c neutral s gs wheel k m h =
    let one = then_ok (moved_of c s.members gs k) (moving c neutral s gs wheel) m h in
    let made : Entries → Moves = λ es. record {
      given = put_in gs one.0;
      situation = record { members = s.members; inputs = es };
      slot = slot_of c neutral wheel one.0;
    } in
    let all = then_ok (shared_anew c neutral s.members (put_in gs one.0)) (λ es. Ok (made es)) m one.2 in
    let same = ok_same (made all.0) m all.2 in
    let given = ap (λ (x : Moves). x.given) (sym same) in
    record {
      input = one.0;
      found = found c s.members gs k one.0 one.1;
      given = given;
      members = ap (λ (x : Moves). x.situation.members) (sym same);
      shares = ap (shared_anew c neutral s.members) given ∙ (all.1 ∙ ap (λ (x : Moves). Ok x.situation.inputs) same);
      slot = ap (λ (x : Moves). x.slot) (sym same);
    }

module _ (c : Tables) (neutral : List Bool) (s : Situation) (gs : List Given) (wheel : ℕ) (k : Key) (m : Moves) (given : AreGiven c gs)
    (h : with_axis c neutral s gs wheel k ≡ Ok m) where
  is : IsPut c neutral s gs wheel k m
  is = put c neutral s gs wheel k m h

  put_is : put_in gs (input_with is.found.variable k zero_number) ≡ m.given
  put_is = ap (put_in gs) is.found.is ∙ sym is.given

  module _ (period : is_period k.period ≡ true) where
    pub given_then : AreGiven c m.given
    given_then = subst (AreGiven c) put_is (given_put c gs is.found.variable k zero_number given period is.found.declared is.found.numbers)

    pub moved_then : (x : Variable) × IsMoved c m.given x k × (m.slot ≡ slot_of c neutral wheel (moved x k))
    moved_then = (
      is.found.variable,
      subst (λ gs. IsMoved c gs is.found.variable k) put_is (own_put c gs is.found.variable k zero_number period is.found.declared is.found.numbers is.found.alone),
      is.slot ∙ ap (slot_of c neutral wheel) (sym is.found.is),
    )

    pub others_then : (x : Variable) (other : Key) → IsMoved c gs x other → IsMoved c m.given x other
    others_then x other moved =
        subst (λ gs. IsMoved c gs x other) put_is (moved_put c gs is.found.variable x k other zero_number period is.found.alone moved)

-- Turning

module _ (c : Tables) where
  normal : (g : Given) → IsGiven c g → IsNormal (map rule_of c.variables) g
  normal g given r is h = by (slice_get c.variables g.variable) refl (sym (rule_at c.variables g.variable) ∙ is)
    where
      by : (o : Option Variable) → slice_get c.variables g.variable ≡ o → option_map rule_of o ≡ Some r → g.period ≡ eternity
      by None at e = cc
      by (Some x) at e = let same : rule_of x ≡ r = cc in given.eternal x at (ap (λ (s : Rule). is_eternity s.unit) same ∙ h)

  each_other : (g : Given) (gs : List Given) → IsOther g gs → Each (λ g h. same_key (key_given g) (key_given h) ≡ false) g gs
  each_other g [] all = tt
  each_other g (h ∷ gs) all = (all.0, each_other g gs all.1)

  distinct : (zs : List Moving) (gs : List Given) → AreApart c gs → Distinct (IsPlaced (map rule_of c.variables) zs) gs
  distinct zs [] all = tt
  distinct zs (g ∷ gs) all = (
    record { sound = given_sound (map rule_of c.variables) g all.0.period; normal = normal g all.0; own = λ h. cc },
    (each_other g gs all.1.0, distinct zs gs all.1.1),
  )

  -- a slot does not look at the value
  slot_alike : (neutral : List Bool) (wheel : ℕ) (x : Variable) (k : Key) (v : Number) → slot_of c neutral wheel (input_with x k v) ≡ slot_of c neutral wheel (moved x k)
  slot_alike neutral wheel x k v = by (is_marked neutral k.variable) (slice_get c.variables k.variable)
    where
      by : (b : Bool) (o : Option Variable) → slot_by b o wheel (input_with x k v) ≡ slot_by b o wheel (moved x k)
      by true None = refl
      by false None = refl
      by true (Some y) = refl
      by false (Some y) = refl

  told : (r : Result Entries SituationFault) (es : Entries) → of_no_line r ≡ Ok es → r ≡ Ok es
  told (Ok fs) es h = h
  told (Err f) es h = cc

  -- the inputs before those of neutralised variables are taken out
  pub record IsShared (neutral : List Bool) (ms : List EntityMembers) (gs : List Given) (es : Entries) : Type 0 where
    pub all : Entries
    pub shares : inputs_of (map rule_of c.variables) (counts_of ms) gs ≡ Ok all
    pub left : without_marked neutral all ≡ es

  pub shared : (neutral : List Bool) (ms : List EntityMembers) (gs : List Given) (es : Entries) → shared_anew c neutral ms gs ≡ Ok es → IsShared neutral ms gs es
  shared neutral ms gs es h =
      let both = inputs_of (map rule_of c.variables) (counts_of ms) gs in
      let one = then_ok both (λ fs. Ok (without_marked neutral fs)) es (told (and_then both (λ fs. Ok (without_marked neutral fs))) es h) in
      let same : without_marked neutral one.0 ≡ es = cc in
      record { all = one.0; shares = one.1; left = same }

  module _ (neutral : List Bool) (ms : List EntityMembers) (gs : List Given) (es : Entries) (wheel : ℕ) (x : Variable) (k : Key) (value : Number)
      (given : AreGiven c gs) (moves : IsMoved c gs x k) (parts : HasParts value) (h : shared_anew c neutral ms gs ≡ Ok es) where
    abbrev rules : List Rule
    rules = map rule_of c.variables

    abbrev input : Given
    input = input_with x k moves.value

    abbrev cut : Number
    cut = cut_by (slice_get c.variables k.variable) value

    abbrev z : Moving
    z = record { given = input; value = Some cut }

    abbrev zs : List Moving
    zs = z ∷ []

    at : IsGiven c input
    at = input_given c x k moves.value moves.period moves.declared

    placed : IsPlaced rules zs z
    placed = record {
      sound = moved_sound rules input cut at.period (cut_parts (slice_get c.variables k.variable) value parts);
      normal = normal input at;
      own = λ e. inl refl;
    }

    only : (y : Moving) → Among y zs → is_some y.value ≡ true
    only y (inl e) = ap (λ (u : Moving). is_some u.value) e
    only y (inr m) = absurd m

    before : IsShared neutral ms gs es
    before = shared neutral ms gs es h

    all_turned : inputs_of rules (counts_of ms) (put_in gs (input_with x k cut)) ≡ Ok (set (to_of rules zs) before.all)
    all_turned =
        inputs_turned rules (counts_of ms) gs zs (distinct zs gs given.apart) (placed, tt) only (moves.alone, tt) before.all
        (ap (inputs_of rules (counts_of ms)) moves.among ∙ before.shares)

    slot_turned : without_marked neutral (set (to_of rules zs) before.all) ≡ turned (slot_of c neutral wheel (moved x k)) value es
    slot_turned =
        without_set neutral (to_of rules zs) before.all
        ∙ (one_slot c neutral wheel input value (without_marked neutral before.all) (left_of neutral before.all)
        ∙ ap₂ (λ s fs. turned s value fs) (slot_alike neutral wheel x k moves.value) before.left)

    pub turned_shared : shared_anew c neutral ms (put_in gs (input_with x k (cut_for x.value_type value))) ≡ Ok (turned (slot_of c neutral wheel (moved x k)) value es)
    turned_shared =
        ap (λ o. shared_anew c neutral ms (put_in gs (input_with x k (cut_by o value)))) (sym moves.declared)
        ∙ (ap (λ r. of_no_line (and_then r (λ fs. Ok (without_marked neutral fs)))) all_turned ∙ ap Ok slot_turned)
