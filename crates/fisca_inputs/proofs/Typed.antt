-- Inputs are of their variables' types where what is given is, and the defaults are.
use Rattle.std.proofs.Common.{◌≡◌, sym, subst, ℕ, List, [], ◌∷◌, ◌++◌, map, length, pos, Bool, true, false, cond, Option, Some, None, slice_get, refl, if◌then◌else◌}
use Rattle.std.specs.Prelude.{Result, Ok, Err, nat_lt, ◌==◌}
use Rattle.std.specs.List.{range_with_len}
use Rattle.std.specs.Map.{lookup}
use Rattle.std.specs.Ordering.{int_eq, is_lt}
use Rattle.std.proofs.lemmas.Bool.{and_parts, eqb-true}
use Rattle.fisca_model.specs.Values as meaning
use Rattle.fisca_model.specs.Periods.{fits}
use Rattle.fisca_model.specs.Tables.{variable_type}
use Rattle.fisca_num.specs.Number.{Number}
use Rattle.fisca_num.specs.Results.{and_then}
use Rattle.fisca_symbols.specs.declared.variable.SetInput.{SetInput}
use Rattle.fisca_symbols.specs.declared.variable.SetInput.TheVariants as sharing
use Rattle.fisca_time.specs.Period.{Span}
use Rattle.fisca_model.specs.Tables.{Tables}
use Rattle.fisca_model.specs.declared.value_type.ValueType.{ValueType}
use Rattle.fisca_model.specs.declared.value_type.ValueType.TheVariants as vt
use Rattle.fisca_time.specs.Period.{subs}
use Rattle.fisca_inputs.specs.Defaults.{row_with, rows_of, beside, beside_by, with_defaults}
use Rattle.fisca_inputs.specs.Steps.Defaults.{count_of, first_line, row_of}
use Rattle.fisca_inputs.specs.Entries.{Entries, key, same_key, value_at, limit}
use Rattle.fisca_inputs.specs.Steps.Entries.{has, put, put_free, put_all}
use Rattle.fisca_inputs.specs.Faults.{at_line}
use Rattle.fisca_inputs.specs.Inputs.{inputs_of}
use Rattle.fisca_inputs.specs.Steps.Order.{given_cmp, put_in_order, in_order_with, in_order}
use Rattle.fisca_inputs.specs.Rules.{Rule}
use Rattle.fisca_inputs.specs.Steps.Rules.{is_longer}
use Rattle.fisca_model.specs.Seen.{value_seen}
use Rattle.fisca_inputs.specs.Sharing.{rest_of, count_free, divided_value, alone, over_parts, own_key, shared_by, all_shared}
use Rattle.fisca_inputs.specs.Steps.Sharing.{share_of, spread, parts_of}
use Rattle.fisca_inputs.specs.Typed.{is_typed, IsValueOf, GivensTyped, EntriesTyped, DefaultsTyped}
use Rattle.fisca_inputs.specs.declared.fault.SituationFault.{SituationFault}
use Rattle.fisca_inputs.specs.declared.fault.SituationKind.TheVariants.{InconsistentInput, PeriodMismatch, TooMany}
use Rattle.fisca_inputs.specs.declared.given.Given.{Given}
use Rattle.fisca_model.specs.declared.value.Value.{Value}
use Rattle.fisca_model.specs.declared.value.Value.TheVariants as v
use Rattle.fisca_model.specs.declared.key.Key.{Key}

pub then_ok : {X Y E : Type 0} (r : Result X E) (f : X → Result Y E) (y : Y) → and_then r f ≡ Ok y → (x : X) × (r ≡ Ok x) × (f x ≡ Ok y)
then_ok (Ok x) f y h = (x, refl, h)
then_ok (Err e) f y h = cc

module _ (c : Tables) where
  -- any number serves where one does
  any_number : (o : Option ValueType) (n m : Number) → is_typed c o (meaning.number n) ≡ true → is_typed c o (meaning.number m) ≡ true
  any_number None n m h = h
  any_number (Some vt.Number) n m h = refl
  any_number (Some vt.Bool) n m h = h
  any_number (Some (vt.Enum e)) n m h = h

  kept : (es after : Entries) → EntriesTyped c es → ◌≡◌ {A = Result Entries SituationFault} (Ok es) (Ok after) → EntriesTyped c after
  kept es after all h = let same : es ≡ after = cc in subst (EntriesTyped c) same all

  -- Putting

  behind : (es : Entries) (k : Key) (x : Value) → IsValueOf c k.variable (value_seen x) → EntriesTyped c es → EntriesTyped c (es ++ (k, x) ∷ [])
  behind [] k x t all = (t, tt)
  behind (e ∷ es) k x t all = (all.0, behind es k x t all.1)

  put_typed : (line : ℕ) (k : Key) (x : Value) (es after : Entries) → IsValueOf c k.variable (value_seen x) → EntriesTyped c es → put line k x es ≡ Ok after → EntriesTyped c after
  put_typed line k x es after t all h = by (nat_lt (length es) limit) h
    where
      by : (b : Bool) → (if b then Ok (es ++ (k, x) ∷ []) else Err (at_line line TooMany)) ≡ Ok after → EntriesTyped c after
      by true e = kept (es ++ (k, x) ∷ []) after (behind es k x t all) e
      by false e = cc

  free_typed : (line : ℕ) (x : Value) (k : Key) (es after : Entries) → IsValueOf c k.variable (value_seen x) → EntriesTyped c es → put_free line x k es ≡ Ok after → EntriesTyped c after
  free_typed line x k es after t all h = by (has es k) h
    where
      by : (b : Bool) → (if b then Ok es else put line k x es) ≡ Ok after → EntriesTyped c after
      by true e = kept es after all e
      by false e = put_typed line k x es after t all e

  -- at keys of one variable
  all_typed : {Y : Type 0} (line : ℕ) (x : Value) (at : Y → Key) → ((y : Y) → IsValueOf c (at y).variable (value_seen x)) → (ys : List Y) (es after : Entries)
      → EntriesTyped c es → put_all line x (map at ys) es ≡ Ok after → EntriesTyped c after
  all_typed line x at each [] es after all h = kept es after all h
  all_typed line x at each (y ∷ ys) es after all h =
      let one = then_ok (put_free line x (at y) es) (put_all line x (map at ys)) after h in
      all_typed line x at each ys one.0 after (free_typed line x (at y) es one.0 (each y) all one.1) one.2

  -- Sharing

  module _ (x m : ℕ) (ps : List Span) (es after : Entries) (all : EntriesTyped c es) where
    abbrev parts : List Key
    parts = map (λ p. key x m p) ps

    spread_typed : (line count : ℕ) (n : Number) → IsValueOf c x (meaning.number n) → spread line count parts es n ≡ Ok after → EntriesTyped c after
    spread_typed line count n t h = by (count == 0) h
      where
        nothing : (b : Bool) → (if b then Ok es else Err (at_line line InconsistentInput)) ≡ Ok after → EntriesTyped c after
        nothing true e = kept es after all e
        nothing false e = cc

        by : (b : Bool)
            → (if b then (if int_eq n.numerator (pos 0) then Ok es else Err (at_line line InconsistentInput))
            else and_then (share_of line n count) (λ share. put_all line (v.Number share) parts es)) ≡ Ok after
            → EntriesTyped c after
        by true e = nothing (int_eq n.numerator (pos 0)) e
        by false e =
            let one = then_ok (share_of line n count) (λ share. put_all line (v.Number share) parts es) after e in
            all_typed line (v.Number one.0) (λ p. key x m p) (λ p. any_number (variable_type c x) n one.0 t) ps es after all one.2

    divided_typed : (line : ℕ) (w : Value) → IsValueOf c x (value_seen w) → divided_value line w parts es ≡ Ok after → EntriesTyped c after
    divided_typed line (v.Number n) t h =
        let rest = then_ok (rest_of line es parts n) (spread line (count_free es parts) parts es) after h in
        spread_typed line (count_free es parts) rest.0 (any_number (variable_type c x) n rest.0 t) rest.2
    divided_typed line (v.Bool b) t h = cc
    divided_typed line (v.Member i) t h = cc

  over_typed : (s : Option SetInput) (g : Given) (ps : List Span) (es after : Entries) → IsValueOf c g.variable (value_seen g.value) → EntriesTyped c es
      → over_parts s g (map (λ p. key g.variable g.member p) ps) es ≡ Ok after → EntriesTyped c after
  over_typed None g ps es after t all h = cc
  over_typed (Some sharing.DivideByPeriod) g ps es after t all h = divided_typed g.variable g.member ps es after all g.line g.value t h
  over_typed (Some sharing.DispatchByPeriod) g ps es after t all h = all_typed g.line g.value (λ p. key g.variable g.member p) (λ p. t) ps es after all h

  alone_typed : (line : ℕ) (k : Key) (x : Value) (es after : Entries) → IsValueOf c k.variable (value_seen x) → EntriesTyped c es → alone line k x es ≡ Ok after → EntriesTyped c after
  alone_typed line k x es after t all h = by (has es k) h
    where
      by : (b : Bool) → (if b then Err (at_line line InconsistentInput) else put line k x es) ≡ Ok after → EntriesTyped c after
      by true e = cc
      by false e = put_typed line k x es after t all e

  shared_typed : (o : Option Rule) (g : Given) (es after : Entries) → IsValueOf c g.variable (value_seen g.value) → EntriesTyped c es → shared_by o g es ≡ Ok after → EntriesTyped c after
  shared_typed None g es after t all h = cc
  shared_typed (Some r) g es after t all h = by (fits r.unit g.period) h
    where
      over : (b : Bool) → (if b then over_parts r.set_input g (parts_of r g) es else Err (at_line g.line PeriodMismatch)) ≡ Ok after → EntriesTyped c after
      over true e = over_typed r.set_input g (subs g.period r.unit) es after t all e
      over false e = cc

      by : (b : Bool)
          → (if b then alone g.line (own_key r g) g.value es
          else (if is_longer r.unit g.period then over_parts r.set_input g (parts_of r g) es else Err (at_line g.line PeriodMismatch))) ≡ Ok after
          → EntriesTyped c after
      by true e = alone_typed g.line (own_key r g) g.value es after t all e
      by false e = over (is_longer r.unit g.period) e

  all_shared_typed : (rules : List Rule) (gs : List Given) (es after : Entries) → GivensTyped c gs → EntriesTyped c es → all_shared rules gs es ≡ Ok after → EntriesTyped c after
  all_shared_typed rules [] es after ts all h = kept es after all h
  all_shared_typed rules (g ∷ gs) es after ts all h =
      let one = then_ok (shared_by (slice_get rules g.variable) g es) (all_shared rules gs) after h in
      all_shared_typed rules gs one.0 after ts.1 (shared_typed (slice_get rules g.variable) g es one.0 ts.0 all one.1) one.2

  -- Order

  in_place : (rules : List Rule) (g : Given) (hs : List Given) → IsValueOf c g.variable (value_seen g.value) → GivensTyped c hs → GivensTyped c (put_in_order rules g hs)
  in_place rules g [] t ts = (t, tt)
  in_place rules g (h ∷ hs) t ts = by (is_lt (given_cmp rules g h)) (in_place rules g hs t ts.1)
    where
      by : (b : Bool) → GivensTyped c (put_in_order rules g hs) → GivensTyped c (if b then g ∷ h ∷ hs else h ∷ put_in_order rules g hs)
      by true more = (t, ts)
      by false more = (ts.0, more)

  ordered_typed : (rules : List Rule) (sorted gs : List Given) → GivensTyped c sorted → GivensTyped c gs → GivensTyped c (in_order_with rules sorted gs)
  ordered_typed rules sorted [] ss ts = ss
  ordered_typed rules sorted (g ∷ gs) ss ts = ordered_typed rules (put_in_order rules g sorted) gs (in_place rules g sorted ts.0 ss) ts.1

  -- Defaults

  row_typed : (line : ℕ) (o : Option Value) (x count : ℕ) (p : Span) (es after : Entries) → ((w : Value) → o ≡ Some w → IsValueOf c x (value_seen w)) → EntriesTyped c es
      → row_with line o (row_of x count p) es ≡ Ok after → EntriesTyped c after
  row_typed line None x count p es after t all h = kept es after all h
  row_typed line (Some w) x count p es after t all h = all_typed line w (λ m. key x m p) (λ m. t w refl) (range_with_len 0 count) es after all h

  module _ (rules : List Rule) (counts : List ℕ) (gs : List Given) (defaults : DefaultsTyped c rules) where
    beside_typed : (k : Key) (es after : Entries) → EntriesTyped c es → beside rules counts gs k es ≡ Ok after → EntriesTyped c after
    beside_typed k es after all h = by (slice_get rules k.variable) refl h
      where
        by : (o : Option Rule) → slice_get rules k.variable ≡ o → beside_by o counts gs k es ≡ Ok after → EntriesTyped c after
        by None s e = kept es after all e
        by (Some r) s e = row_typed (first_line gs k.variable) r.default k.variable (count_of counts r.entity) k.period es after (λ w d. defaults k.variable r w s d) all e

    defaults_typed : (ks : List Key) (es after : Entries) → EntriesTyped c es → with_defaults rules counts gs ks es ≡ Ok after → EntriesTyped c after
    defaults_typed [] es after all h = kept es after all h
    defaults_typed (k ∷ ks) es after all h =
        let one = then_ok (beside rules counts gs k es) (with_defaults rules counts gs ks) after h in
        defaults_typed ks one.0 after (beside_typed k es one.0 all one.1) one.2

    pub inputs_typed : (after : Entries) → GivensTyped c gs → inputs_of rules counts gs ≡ Ok after → EntriesTyped c after
    inputs_typed after ts h =
        let one = then_ok (all_shared rules (in_order rules gs) []) (λ es. with_defaults rules counts gs (rows_of es) es) after h in
        defaults_typed (rows_of one.0) one.0 after (all_shared_typed rules (in_order rules gs) [] one.0 (ordered_typed rules [] gs tt ts) tt one.1) one.2

  -- what a key has
  pub input_typed : (es : Entries) → EntriesTyped c es → (k : Key) (w : Value) → value_at es k ≡ Some w → IsValueOf c k.variable (value_seen w)
  input_typed [] all k w h = cc
  input_typed (e ∷ es) all k w h = by (same_key k e.0) refl h (input_typed es all.1 k w)
    where
      by : (b : Bool) → same_key k e.0 ≡ b → cond b (Some e.1) (lookup (same_key k) es) ≡ Some w → (value_at es k ≡ Some w → IsValueOf c k.variable (value_seen w)) → IsValueOf c k.variable (value_seen w)
      by true s q more =
          let here : e.1 ≡ w = cc in
          let variable : k.variable ≡ e.0.variable = eqb-true k.variable e.0.variable (and_parts _ _ s).0 in
          subst (λ y. IsValueOf c k.variable (value_seen y)) here (subst (λ y. IsValueOf c y (value_seen e.1)) (sym variable) all.0)
      by false s q more = more q
