-- The keys of an axis's slot have numbers.
use Rattle.std.proofs.Common.{◌≡◌, true≢false, ℕ, suc, pos, List, [], ◌∷◌, map, Bool, true, false, cond, not, Option, Some, None, is_some, slice_get, refl, sym, ap, subst, ◌∙◌, arith, inl, inr, if◌then◌else◌, ◌||◌}
use Rattle.std.specs.Prelude.{◌⊎◌, Result, Ok, Err, ◌==◌, option_map}
use Rattle.std.specs.List.{list_any}
use Rattle.std.specs.Ordering.{int_eq, is_lt}
use Rattle.std.proofs.lemmas.Bool.{eqb-true}
use Rattle.std.proofs.lemmas.Map.Entries.{lookup-filter-keys}
use Rattle.fisca_groups.specs.Lookup.{counts_of}
use Rattle.fisca_groups.specs.declared.entity_members.EntityMembers.{EntityMembers}
use Rattle.fisca_inputs.proofs.Beside.{defaults_beside}
use Rattle.fisca_inputs.proofs.Looked.{looked-like, looked-put, looked-put_all}
use Rattle.fisca_inputs.proofs.Numbered.{key_parts}
use Rattle.fisca_inputs.proofs.Typed.{then_ok}
use Rattle.fisca_inputs.specs.Defaults.{rows_of, with_defaults}
use Rattle.fisca_inputs.specs.Entries.{Entries, same_key, value_at}
use Rattle.fisca_inputs.specs.Faults.{at_line}
use Rattle.fisca_inputs.specs.Inputs.{inputs_of, without_marked}
use Rattle.fisca_inputs.specs.Rules.{Rule, rule_of}
use Rattle.fisca_inputs.specs.Sharing.{all_shared, alone, count_free, divided_value, over_parts, own_key, rest_of, shared, shared_by}
use Rattle.fisca_inputs.specs.Steps.Entries.{has, put, put_all}
use Rattle.fisca_inputs.specs.Steps.Inputs.{is_marked}
use Rattle.fisca_inputs.specs.Steps.Order.{given_cmp, in_order, in_order_with, put_in_order}
use Rattle.fisca_inputs.specs.Steps.Rules.{is_longer}
use Rattle.fisca_inputs.specs.Steps.Sharing.{computed, part_ratio, parts_of, spread}
use Rattle.fisca_inputs.specs.Totals.{default_for, is_beside}
use Rattle.fisca_inputs.specs.Typed.{IsValueOf, is_typed}
use Rattle.fisca_inputs.specs.declared.fault.SituationFault.{SituationFault}
use Rattle.fisca_inputs.specs.declared.fault.SituationKind.TheVariants.{InconsistentInput, PeriodMismatch}
use Rattle.fisca_inputs.specs.declared.given.Given.{Given}
use Rattle.fisca_model.specs.Periods.{fits}
use Rattle.fisca_model.specs.Seen.{value_seen}
use Rattle.fisca_model.specs.Tables.{Tables as Known, otherwise, variable_type}
use Rattle.fisca_model.specs.declared.key.Key.{Key}
use Rattle.fisca_model.specs.declared.value.Value.{Value}
use Rattle.fisca_model.specs.declared.value.Value.TheVariants.{Number as number, Bool as bool, Member as member_at}
use Rattle.fisca_model.specs.declared.value_type.ValueType.TheVariants as vt
use Rattle.fisca_num.specs.Number.{Number}
use Rattle.fisca_num.specs.Operations.{number_of}
use Rattle.fisca_num.specs.declared.faults.NumFault.{NumFault}
use Rattle.fisca_num.specs.Results.{and_then}
use Rattle.fisca_api.proofs.Fits.{given_fit}
use Rattle.fisca_api.proofs.Givens.{has_type, is_same}
use Rattle.fisca_api.proofs.Turns.{shared as shared_from}
use Rattle.fisca_api.specs.Axes.{AreGiven, IsMoved, input_with}
use Rattle.fisca_rules.specs.Rules.{known_by}
use Rattle.fisca_rules.specs.Views.{rule_set}
use Rattle.fisca_rules.specs.declared.rule_set.RuleSet.{RuleSet}
use Rattle.fisca_run.proofs.Normal.{rule_at}
use Rattle.fisca_run.proofs.OfFiles.{keys_are}
use Rattle.fisca_simulation.proofs.KnownTables.{tables_known}
use Rattle.fisca_simulation.specs.Sound.{IsSafeRules}
use Rattle.fisca_situations.specs.Steps.Axes.{moved, put_in, shared_anew}
use Rattle.fisca_situations.specs.Steps.Slots.{keys_of as slot_keys, slot_by, slot_of}
use Rattle.fisca_slots.proofs.Anew.{kept_by}
use Rattle.fisca_slots.proofs.Both.{keys_of}
use Rattle.fisca_slots.proofs.Parts.{in_parts}
use Rattle.fisca_symbols.specs.declared.variable.SetInput.{SetInput}
use Rattle.fisca_symbols.specs.declared.variable.SetInput.TheVariants.{DivideByPeriod, DispatchByPeriod}
use Rattle.fisca_symbols.specs.declared.variable.Variable.{Variable}

-- One input

or_some : (o w : Option Value) → is_some w ≡ true → is_some (otherwise o w) ≡ true
or_some None w h = h
or_some (Some x) w h = refl

stays : (o w : Option Value) → is_some o ≡ true → is_some (otherwise o w) ≡ true
stays None w h = cc
stays (Some x) w h = refl

-- where none of these keys is free, each has a value
none_free : (es : Entries) (ks : List Key) → (count_free es ks == 0) ≡ true → (q : Key) → list_any (same_key q) ks ≡ true → has es q ≡ true
none_free es [] none q inside = cc
none_free es (k ∷ ks) none q inside = by (has es k) refl (same_key q k) refl none inside (none_free es ks)
  where
    by : (b : Bool) → has es k ≡ b → (d : Bool) → same_key q k ≡ d → ((if b then count_free es ks else suc (count_free es ks)) == 0) ≡ true
        → (d || list_any (same_key q) ks) ≡ true
        → ((count_free es ks == 0) ≡ true → (r : Key) → list_any (same_key r) ks ≡ true → has es r ≡ true) → has es q ≡ true
    by true there true same e in_all later = ap is_some (looked-like q k same es) ∙ there
    by true there false other e in_all later = later e q in_all
    by false free d same e in_all later =
        let zero_is : suc (count_free es ks) ≡ 0 = eqb-true (suc (count_free es ks)) 0 e in
        absurd (omega (arith, zero_is))

-- the keys of an input have values once it is shared
module _ (r : Rule) (g : Given) (es new : Entries) (q : Key) where
  put_many : (line : ℕ) (x : Value) (ks : List Key) → put_all line x ks es ≡ Ok new → list_any (same_key q) ks ≡ true → has new q ≡ true
  put_many line x ks e inside =
      ap is_some (looked-put_all line x ks es new q e)
      ∙ or_some (value_at es q) (if list_any (same_key q) ks then Some x else None) (ap (λ b. is_some (if b then Some x else None)) inside)

  same : has es q ≡ true → ◌≡◌ {A = Result Entries SituationFault} (Ok es) (Ok new) → has new q ≡ true
  same there e = let is : es ≡ new = cc in ap (λ fs. has fs q) (sym is) ∙ there

  one : (b : Bool) → (if b then Err (at_line g.line InconsistentInput) else put g.line (own_key r g) g.value es) ≡ Ok new
      → list_any (same_key q) (own_key r g ∷ []) ≡ true → has new q ≡ true
  one true e inside = cc
  one false e inside =
      ap is_some (looked-put g.line (own_key r g) g.value es new q e)
      ∙ or_some (value_at es q) (if same_key q (own_key r g) then Some g.value else None) (only (same_key q (own_key r g)) inside)
    where
      only : (b : Bool) → (b || false) ≡ true → is_some (if b then Some g.value else None) ≡ true
      only true e = refl
      only false e = cc

  none_left : (ks : List Key) → (count_free es ks == 0) ≡ true → list_any (same_key q) ks ≡ true → (b : Bool)
      → (if b then Ok es else Err (at_line g.line InconsistentInput)) ≡ Ok new → has new q ≡ true
  none_left ks none inside true e = same (none_free es ks none q inside) e
  none_left ks none inside false e = cc

  some_left : (ks : List Key) (o : Result Number NumFault) → and_then (computed g.line o) (λ share. put_all g.line (number share) ks es) ≡ Ok new
      → list_any (same_key q) ks ≡ true → has new q ≡ true
  some_left ks (Ok share) e inside = put_many g.line (number share) ks e inside
  some_left ks (Err f) e inside = cc

  spread_has : (ks : List Key) (n : Number) (b : Bool) → (count_free es ks == 0) ≡ b
      → (if b then (if int_eq n.numerator (pos 0) then Ok es else Err (at_line g.line InconsistentInput))
      else and_then (computed g.line (number_of (part_ratio n (count_free es ks)))) (λ share. put_all g.line (number share) ks es)) ≡ Ok new
      → list_any (same_key q) ks ≡ true → has new q ≡ true
  spread_has ks n true none e inside = none_left ks none inside (int_eq n.numerator (pos 0)) e
  spread_has ks n false some e inside = some_left ks (number_of (part_ratio n (count_free es ks))) e inside

  rested : (ks : List Key) (o : Result Number SituationFault) → and_then o (spread g.line (count_free es ks) ks es) ≡ Ok new → list_any (same_key q) ks ≡ true
      → has new q ≡ true
  rested ks (Ok n) e inside = spread_has ks n (count_free es ks == 0) refl e inside
  rested ks (Err f) e inside = cc

  divide : (w : Value) (ks : List Key) → divided_value g.line w ks es ≡ Ok new → list_any (same_key q) ks ≡ true → has new q ≡ true
  divide (number n) ks e inside = rested ks (rest_of g.line es ks n) e inside
  divide (bool b) ks e inside = cc
  divide (member_at i) ks e inside = cc

  over : (o : Option SetInput) (ks : List Key) → over_parts o g ks es ≡ Ok new → list_any (same_key q) ks ≡ true → has new q ≡ true
  over None ks e inside = cc
  over (Some DivideByPeriod) ks e inside = divide g.value ks e inside
  over (Some DispatchByPeriod) ks e inside = put_many g.line g.value ks e inside

  longer : (b : Bool) → (if b then over_parts r.set_input g (parts_of r g) es else Err (at_line g.line PeriodMismatch)) ≡ Ok new
      → list_any (same_key q) (parts_of r g) ≡ true → has new q ≡ true
  longer true e inside = over r.set_input (parts_of r g) e inside
  longer false e inside = cc

  pub there_after : shared r g es ≡ Ok new → list_any (same_key q) (keys_of r g) ≡ true → has new q ≡ true
  there_after h inside = by (fits r.unit g.period) h inside
    where
      by : (b : Bool)
          → (if b then alone g.line (own_key r g) g.value es
          else (if is_longer r.unit g.period then over_parts r.set_input g (parts_of r g) es else Err (at_line g.line PeriodMismatch))) ≡ Ok new
          → list_any (same_key q) (if b then own_key r g ∷ [] else parts_of r g) ≡ true → has new q ≡ true
      by true e at = one (has es (own_key r g)) e at
      by false e at = longer (is_longer r.unit g.period) e at

-- One after another

-- the input is one of these
abbrev Among : Given → List Given → Type 0
Among g [] = ⊥
Among g (h ∷ hs) = (g ≡ h) ⊎ Among g hs

among_put : (gs : List Given) (g : Given) → put_in gs g ≡ gs → Among g gs
among_put [] g e = cc
among_put (a ∷ rest) g e = by (is_same a g) e (among_put rest g)
  where
    by : (b : Bool) → (if b then g ∷ rest else a ∷ put_in rest g) ≡ a ∷ rest → (put_in rest g ≡ rest → Among g rest) → Among g (a ∷ rest)
    by true there later = inl (cc)
    by false there later = inr (later (cc))

module _ (rules : List Rule) where
  among_first : (g t : Given) (us : List Given) → Among g (t ∷ us) → Among g (put_in_order rules t us)
  among_first g t [] m = m
  among_first g t (u ∷ us) m = by (is_lt (given_cmp rules t u)) m (among_first g t us)
    where
      by : (b : Bool) → Among g (t ∷ u ∷ us) → (Among g (t ∷ us) → Among g (put_in_order rules t us)) → Among g (if b then t ∷ u ∷ us else u ∷ put_in_order rules t us)
      by true m later = m
      by false (inl e) later = inr (later (inl e))
      by false (inr (inl e)) later = inl e
      by false (inr (inr m)) later = inr (later (inr m))

  among_order : (g : Given) (sorted gs : List Given) → Among g sorted ⊎ Among g gs → Among g (in_order_with rules sorted gs)
  among_order g sorted [] (inl m) = m
  among_order g sorted [] (inr m) = absurd m
  among_order g sorted (h ∷ gs) (inl m) = among_order g (put_in_order rules h sorted) gs (inl (among_first g h sorted (inr m)))
  among_order g sorted (h ∷ gs) (inr (inl e)) = among_order g (put_in_order rules h sorted) gs (inl (among_first g h sorted (inl e)))
  among_order g sorted (h ∷ gs) (inr (inr m)) = among_order g (put_in_order rules h sorted) gs (inr m)

  shared_kept : (o : Option Rule) (g : Given) (es new : Entries) → shared_by o g es ≡ Ok new → (q : Key) → has es q ≡ true → has new q ≡ true
  shared_kept None g es new h q there = cc
  shared_kept (Some r) g es new h q there = kept_by r g es new h q there

  all_kept : (gs : List Given) (es new : Entries) → all_shared rules gs es ≡ Ok new → (q : Key) → has es q ≡ true → has new q ≡ true
  all_kept [] es new h q there = let is : es ≡ new = cc in ap (λ fs. has fs q) (sym is) ∙ there
  all_kept (g ∷ gs) es new h q there =
      let first = then_ok (shared_by (slice_get rules g.variable) g es) (all_shared rules gs) new h in
      all_kept gs first.0 new first.2 q (shared_kept (slice_get rules g.variable) g es first.0 first.1 q there)

  all_there : (g : Given) (r : Rule) → slice_get rules g.variable ≡ Some r → (gs : List Given) (es new : Entries) → all_shared rules gs es ≡ Ok new → Among g gs
      → (q : Key) → list_any (same_key q) (keys_of r g) ≡ true → has new q ≡ true
  all_there g r is [] es new h m q inside = absurd m
  all_there g r is (a ∷ gs) es new h (inl e) q inside =
      let first = then_ok (shared_by (slice_get rules a.variable) a es) (all_shared rules gs) new h in
      let own : shared r g es ≡ Ok first.0 = sym (ap (λ o. shared_by o g es) is) ∙ (ap (λ (x : Given). shared_by (slice_get rules x.variable) x es) e ∙ first.1) in
      all_kept gs first.0 new first.2 q (there_after r g es first.0 q own inside)
  all_there g r is (a ∷ gs) es new h (inr m) q inside =
      let first = then_ok (shared_by (slice_get rules a.variable) a es) (all_shared rules gs) new h in
      all_there g r is gs first.0 new first.2 m q inside

  inputs_there : (counts : List ℕ) (gs : List Given) (es : Entries) → inputs_of rules counts gs ≡ Ok es → (g : Given) (r : Rule)
      → slice_get rules g.variable ≡ Some r → put_in gs g ≡ gs → (q : Key) → list_any (same_key q) (keys_of r g) ≡ true → has es q ≡ true
  inputs_there counts gs es h g r is among q inside =
      let first = then_ok (all_shared rules (in_order rules gs) []) (λ fs. with_defaults rules counts gs (rows_of fs) fs) es h in
      let there = all_there g r is (in_order rules gs) [] first.0 first.1 (among_order g [] gs (inr (among_put gs g among))) q inside in
      ap is_some (defaults_beside rules counts gs first.0 es first.2 q)
      ∙ stays (value_at first.0 q) (if is_beside first.0 q then default_for (slice_get rules q.variable) counts q.member else None) there

-- The slot

-- a number stands where a value of a variable of numbers does
number_in : (c : Known) (x : ℕ) (w : Value) → variable_type c x ≡ Some vt.Number → IsValueOf c x (value_seen w) → (n : Number) × (w ≡ number n)
number_in c x (number n) type is = (n, refl)
number_in c x (bool b) type is = absurd (true≢false (sym (sym (ap (λ t. is_typed c t (value_seen (bool b))) type) ∙ is)))
number_in c x (member_at i) type is = absurd (true≢false (sym (sym (ap (λ t. is_typed c t (value_seen (member_at i))) type) ∙ is)))

some_in : (o : Option Value) → is_some o ≡ true → (w : Value) × (o ≡ Some w)
some_in None h = cc
some_in (Some w) h = (w, refl)

module _ (rules : RuleSet) (neutral : List Bool) (x : Variable) (k : Key) where
  -- of which variable a key of the slot is, and which rule gives it
  record IsAt (wheel : ℕ) (v : Number) (q : Key) : Type 0 where
    variable : q.variable ≡ k.variable
    unmarked : is_marked neutral k.variable ≡ false
    inside : list_any (same_key q) (keys_of (rule_of x) (input_with x k v)) ≡ true

  at : (wheel : ℕ) (v : Number) (q : Key) → slice_get rules.tables.variables k.variable ≡ Some x
      → list_any (same_key q) (slot_keys (slot_of rules.tables neutral wheel (moved x k))) ≡ true → IsAt wheel v q
  at wheel v q declared h = by (is_marked neutral k.variable) refl (slice_get rules.tables.variables k.variable) declared h
    where
      by : (b : Bool) → is_marked neutral k.variable ≡ b → (o : Option Variable) → o ≡ Some x
          → list_any (same_key q) (slot_keys (slot_by b o wheel (moved x k))) ≡ true → IsAt wheel v q
      by true marked None e inside = cc
      by true marked (Some y) e inside = cc
      by false unmarked None e inside = cc
      by false unmarked (Some y) e inside =
          let same : y ≡ x = cc in
          let own : list_any (same_key q) (slot_keys (slot_by false (Some x) wheel (moved x k))) ≡ true =
          subst (λ z. list_any (same_key q) (slot_keys (slot_by false (Some z) wheel (moved x k))) ≡ true) same inside in
          record {
            variable = (in_parts q k.variable k.member (slot_by false (Some x) wheel (moved x k)).periods own).0;
            unmarked = unmarked;
            inside = ap (list_any (same_key q)) (sym (keys_are (rule_of x) (input_with x k v))) ∙ own;
          }

-- keys that are the same have one variable
same_mark : (marks : List Bool) (k q : Key) → same_key k q ≡ true → not (is_marked marks q.variable) ≡ not (is_marked marks k.variable)
same_mark marks k q h = ap (λ x. not (is_marked marks x)) (sym (key_parts k q h).0)

left_at : (marks : List Bool) (es : Entries) (q : Key) → is_marked marks q.variable ≡ false → value_at (without_marked marks es) q ≡ value_at es q
left_at marks es q unmarked =
    lookup-filter-keys (same_key q) (λ k. not (is_marked marks k.variable)) (not (is_marked marks q.variable)) (same_mark marks q) es
    ∙ ap (λ b. cond (not b) (value_at es q) None) unmarked

pub slot_numbers : (rules : RuleSet) → IsSafeRules (rule_set rules) → (neutral : List Bool) (ms : List EntityMembers) (gs : List Given) (es : Entries) (wheel : ℕ)
    (x : Variable) (k : Key) → AreGiven rules.tables gs → IsMoved rules.tables gs x k → shared_anew rules.tables neutral ms gs ≡ Ok es → (q : Key)
    → list_any (same_key q) (slot_keys (slot_of rules.tables neutral wheel (moved x k))) ≡ true → (n : Number) × (value_at es q ≡ Some (number n))
slot_numbers rules safe neutral ms gs es wheel x k given moves h q inside =
    let c = rules.tables in
    let before = shared_from c neutral ms gs es h in
    let found = at rules neutral x k wheel moves.value q moves.declared inside in
    let rule = rule_at c.variables k.variable ∙ ap (option_map rule_of) moves.declared in
    let there = inputs_there (map rule_of c.variables) (counts_of ms) gs before.all before.shares (input_with x k moves.value) (rule_of x) rule moves.among q found.inside in
    let left : value_at es q ≡ value_at before.all q =
    ap (λ fs. value_at fs q) (sym before.left) ∙ left_at neutral before.all q (ap (is_marked neutral) found.variable ∙ found.unmarked) in
    let some = some_in (value_at es q) (ap is_some left ∙ there) in
    let fit = given_fit rules safe neutral (record { members = ms; inputs = es }) gs given h in
    let type : variable_type (known_by (rule_set rules)) q.variable ≡ Some vt.Number =
    ap (variable_type (known_by (rule_set rules))) found.variable
    ∙ subst (λ d. variable_type d k.variable ≡ Some vt.Number) (tables_known rules) (has_type c x k.variable moves.declared moves.numbers) in
    let is = number_in (known_by (rule_set rules)) q.variable some.0 type (fit q some.0 some.1) in
    (is.0, some.1 ∙ ap Some is.1)
