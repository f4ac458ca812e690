-- Runs of keys that follow one another in time and have values.
use Rattle.std.proofs.Common.{◌≡◌, ℕ, zero, suc, ◌+◌, ◌-◌, ◌*◌, ◌<◌, pos, List, [], ◌∷◌, drop, length, map, Bool, true, false, cond, Option, Some, None, is_some, slice_get, refl, sym, ap, ◌∙◌, subst, arith, if◌then◌else◌, ◌&&◌, ◌||◌, option_map, inl, inr}
use Rattle.std.specs.Prelude.{◌⊎◌, ◌==◌, Ok, Err, Result}
use Rattle.std.specs.Cmp.{unsigned_ties}
use Rattle.std.specs.List.{list_any, range_with_len}
use Rattle.std.specs.Map.{lookup}
use Rattle.std.specs.Option.{unwrap_or}
use Rattle.std.specs.Ordering.{eq_by_cmp, int_eq, is_eq, nat_cmp, ordering_then}
use Rattle.std.specs.declared.cmp.Ordering.{Ordering}
use Rattle.std.specs.declared.cmp.Ordering.TheVariants.{Less, Equal, Greater}
use Rattle.std.proofs.Math.Seq.{drop-nil}
use Rattle.std.proofs.lemmas.Bool.{and_parts, eqb-true, or_right}
use Rattle.std.proofs.lemmas.Option.{slice_get_within, slice_get-map}
use Rattle.indexmap.specs.IndexMap.{insert_entry}
use Rattle.fisca_num.specs.Number.{Number}
use Rattle.fisca_num.specs.Results.{and_then}
use Rattle.fisca_time.specs.Calendar.{year_of}
use Rattle.fisca_time.specs.Period.{Span, eternity, months, days, unit_of, first_of, size_of, span_cmp, subs, day_at, month_at, year_at, month_start, days_of}
use Rattle.fisca_time.specs.Unit.{rank, months_in, is_year}
use Rattle.fisca_time.specs.declared.unit.Unit.{Unit}
use Rattle.fisca_time.specs.declared.unit.Unit.TheVariants as unit
use Rattle.fisca_symbols.specs.declared.variable.SetInput.{SetInput}
use Rattle.fisca_symbols.specs.declared.variable.SetInput.TheVariants as sharing
use Rattle.fisca_model.specs.Periods.{fits}
use Rattle.fisca_model.specs.Tables.{otherwise}
use Rattle.fisca_model.specs.contracts.key.KeyEq.TheImpl.Laws.{laws-law}
use Rattle.fisca_model.specs.declared.key.Key.{Key}
use Rattle.fisca_model.specs.declared.value.Value.{Value}
use Rattle.fisca_model.specs.declared.value.Value.TheVariants as v
use Rattle.fisca_inputs.specs.Entries.{Entries, key, same_key, value_at}
use Rattle.fisca_inputs.specs.Faults.{at_line}
use Rattle.fisca_inputs.specs.Rules.{Rule}
use Rattle.fisca_inputs.specs.Sharing.{rest_of, count_free, divided_value, over_parts, alone, own_key, shared_by}
use Rattle.fisca_inputs.specs.Steps.Entries.{has, put, put_free, put_all}
use Rattle.fisca_inputs.specs.Steps.Rules.{is_longer}
use Rattle.fisca_inputs.specs.Steps.Runs.{step_of, IsLater, Follows, IsFilled, AreFilled, AreThere, AreKept}
use Rattle.fisca_inputs.specs.Steps.Sharing.{parts_by, parts_of, share_of, spread}
use Rattle.fisca_inputs.specs.declared.fault.SituationFault.{SituationFault}
use Rattle.fisca_inputs.specs.declared.fault.SituationKind.TheVariants.{PeriodMismatch, InconsistentInput}
use Rattle.fisca_inputs.specs.declared.given.Given.{Given}
use Rattle.fisca_inputs.proofs.First.{skipped}
use Rattle.fisca_inputs.proofs.Looked.{looked-like, looked-put, looked-put_free, looked-put_all}
use Rattle.fisca_inputs.proofs.Rows.{range_at, length-range, length-map}
use Rattle.fisca_inputs.proofs.Typed.{then_ok}

-- Parts of a period follow one another

module _ (x m : ℕ) (f : ℕ → Span) (later : (n places : ℕ) → IsLater (f n) places (f (n + places))) (a n : ℕ) where
  abbrev row : List Key
  row = map (λ p. key x m p) (map f (range_with_len a n))

  at : (i : ℕ) (k : Key) → slice_get row i ≡ Some k → k ≡ key x m (f (a + i))
  at i k h =
      let within : i < n = omega (arith, slice_get_within row i k h, length-map (λ p. key x m p) (map f (range_with_len a n)), length-map f (range_with_len a n), length-range a n) in
      let there : slice_get row i ≡ Some (key x m (f (a + i))) =
      slice_get-map (λ p. key x m p) (map f (range_with_len a n)) i ∙ ap (option_map (λ p. key x m p)) (slice_get-map f (range_with_len a n) i ∙ ap (option_map f) (range_at a n i within)) in
      cc

  in_row : (i places : ℕ) (k q : Key) → slice_get row i ≡ Some k → slice_get row (i + places) ≡ Some q → Follows k places q
  in_row i places k q here there =
      let e : a + (i + places) ≡ (a + i) + places = omega arith in
      let own = at i k here in
      let other : q ≡ key x m (f ((a + i) + places)) = at (i + places) q there ∙ ap (λ n. key x m (f n)) e in
      subst (λ r. Follows r places q) (sym own) (subst (λ r. Follows (key x m (f (a + i))) places r) (sym other) (record { variable = refl; member = refl; period = later (a + i) places }))

day_later : (n places : ℕ) → IsLater (day_at n) places (day_at (n + places))
day_later n places = record { unit = refl; first = omega arith; size = refl }

month_later : (n places : ℕ) → IsLater (month_at n) places (month_at (n + places))
month_later n places = record { unit = refl; first = omega arith; size = refl }

year_later : (n places : ℕ) → IsLater (year_at n) places (year_at (n + places))
year_later n places = record { unit = refl; first = omega arith; size = refl }

abbrev no_keys : List Key
no_keys = []

pub follows_parts : (u : Unit) (g : Given) (i places : ℕ) (k q : Key) → slice_get (parts_by u g) i ≡ Some k → slice_get (parts_by u g) (i + places) ≡ Some q → Follows k places q
follows_parts u g i places k q = by g.period u
  where
    none : slice_get no_keys i ≡ Some k → slice_get no_keys (i + places) ≡ Some q → Follows k places q
    none h t = absurd (omega (arith, slice_get_within no_keys i k h))

    by : (p : Span) (u : Unit) → slice_get (map (λ p. key g.variable g.member p) (subs p u)) i ≡ Some k → slice_get (map (λ p. key g.variable g.member p) (subs p u)) (i + places) ≡ Some q
        → Follows k places q
    by eternity u h t = none h t
    by (months v first size) unit.Day h t = in_row g.variable g.member day_at day_later (month_start first) (days_of (months v first size)) i places k q h t
    by (months v first size) unit.Month h t = in_row g.variable g.member month_at month_later first (months_in v * size) i places k q h t
    by (months v first size) unit.Year h t = in_row g.variable g.member year_at year_later (year_of first) (if is_year v then size else 0) i places k q h t
    by (months v first size) unit.Eternity h t = none h t
    by (days first size) unit.Day h t = in_row g.variable g.member day_at day_later first size i places k q h t
    by (days first size) unit.Month h t = none h t
    by (days first size) unit.Year h t = none h t
    by (days first size) unit.Eternity h t = none h t

-- Keys that are the same

record Alike (k q : Key) : Type 0 where
  variable : k.variable ≡ q.variable
  member : k.member ≡ q.member
  unit : rank (unit_of k.period) ≡ rank (unit_of q.period)
  first : first_of k.period ≡ first_of q.period
  size : size_of k.period ≡ size_of q.period

both_equal : (a b : Ordering) → is_eq (ordering_then a b) ≡ true → (is_eq a ≡ true) × (is_eq b ≡ true)
both_equal Less b h = cc
both_equal Equal b h = (refl, h)
both_equal Greater b h = cc

tied : (x y : ℕ) → is_eq (nat_cmp x y) ≡ true → x ≡ y
tied x y h = eqb-true x y (unsigned_ties x y ∙ h)

alike : (k q : Key) → same_key k q ≡ true → Alike k q
alike k q e =
    let outer = and_parts (k.variable == q.variable) ((k.member == q.member) && eq_by_cmp span_cmp k.period q.period) e in
    let inner = and_parts (k.member == q.member) (eq_by_cmp span_cmp k.period q.period) outer.1 in
    let units = nat_cmp (rank (unit_of k.period)) (rank (unit_of q.period)) in
    let starts = nat_cmp (first_of k.period) (first_of q.period) in
    let sizes = nat_cmp (size_of k.period) (size_of q.period) in
    let a = both_equal units (ordering_then starts sizes) inner.1 in
    let b = both_equal starts sizes a.1 in
    record {
      variable = eqb-true k.variable q.variable outer.0;
      member = eqb-true k.member q.member inner.0;
      unit = tied (rank (unit_of k.period)) (rank (unit_of q.period)) a.0;
      first = tied (first_of k.period) (first_of q.period) b.0;
      size = tied (size_of k.period) (size_of q.period) b.1;
    }

-- a key and one of these numbers
abbrev same_numbers : Key → ℕ → ℕ → ℕ → ℕ → ℕ → Bool
same_numbers k x m unit first size =
    (k.variable == x)
    && ((k.member == m) && is_eq (ordering_then (nat_cmp (rank (unit_of k.period)) unit) (ordering_then (nat_cmp (first_of k.period) first) (nat_cmp (size_of k.period) size))))

keys_same : (k q : Key) → Alike k q → same_key k q ≡ true
keys_same k q a = (λ i. same_numbers k (sym a.variable i) (sym a.member i) (sym a.unit i) (sym a.first i) (sym a.size i)) ∙ laws-law.refl k

follows_like : (k r q : Key) (places : ℕ) → same_key k r ≡ true → Follows k places q → Follows r places q
follows_like k r q places e f =
    let a = alike k r e in
    record {
      variable = f.variable ∙ a.variable;
      member = f.member ∙ a.member;
      period = record {
        unit = f.period.unit ∙ a.unit;
        first = f.period.first ∙ (λ i. a.first i + places * step_of (a.unit i));
        size = f.period.size ∙ a.size;
      };
    }

-- there is one key so many places later
one_follows : (k q r : Key) (places : ℕ) → Follows k places q → Follows k places r → same_key q r ≡ true
one_follows k q r places f g = keys_same q r (record {
  variable = f.variable ∙ sym g.variable;
  member = f.member ∙ sym g.member;
  unit = f.period.unit ∙ sym g.period.unit;
  first = f.period.first ∙ sym g.period.first;
  size = f.period.size ∙ sym g.period.size;
})

-- A run is noted

turned : (k q : Key) → same_key k q ≡ true → same_key q k ≡ true
turned k q e = laws-law.symm q k ∙ e

module _ (es : Entries) (k : Key) (count : ℕ) (filled : IsFilled es (k, count)) where
  abbrev Each : ℕ → ℕ → Type 0
  Each first n = (places : ℕ) → places < n → (places < first) ⊎ (places < count)

  more : (q : Key) (first n : ℕ) → same_key k q ≡ true → Each first n → IsFilled es (q, first) → IsFilled es (q, n)
  more q first n e each had places lt r f = by (each places lt)
    where
      by : (places < first) ⊎ (places < count) → has es r ≡ true
      by (inl p) = had places p r f
      by (inr p) = filled places p r (follows_like q k r places (turned k q e) f)

  pub run_noted : (runs : List (Key × ℕ)) (n : ℕ) → Each (unwrap_or (lookup (same_key k) runs) 0) n → AreFilled es runs → AreFilled es (insert_entry same_key runs k n)
  run_noted [] n each all = ((λ places lt r f. by places r f (each places lt)), tt)
    where
      by : (places : ℕ) (r : Key) → Follows k places r → (places < 0) ⊎ (places < count) → has es r ≡ true
      by places r f (inl p) = absurd (omega (arith, p))
      by places r f (inr p) = filled places p r f
  run_noted (e ∷ runs) n each all = by (same_key k e.0) refl each (λ later. run_noted runs n later all.1)
    where
      by : (b : Bool) → same_key k e.0 ≡ b → Each (unwrap_or (cond b (Some e.1) (lookup (same_key k) runs)) 0) n
          → (Each (unwrap_or (lookup (same_key k) runs) 0) n → AreFilled es (insert_entry same_key runs k n))
          → AreFilled es (if b then (e.0, n) ∷ runs else e ∷ insert_entry same_key runs k n)
      by true same here rest = (more e.0 e.1 n same here all.0, all.1)
      by false other later rest = (all.0, rest later)

-- what is noted of a key
pub run_found : (es : Entries) (k : Key) (runs : List (Key × ℕ)) → AreFilled es runs → IsFilled es (k, unwrap_or (lookup (same_key k) runs) 0)
run_found es k [] all = λ places lt q f. absurd (omega (arith, lt))
run_found es k (r ∷ runs) all = by (same_key k r.0) refl (run_found es k runs all.1)
  where
    by : (b : Bool) → same_key k r.0 ≡ b → IsFilled es (k, unwrap_or (lookup (same_key k) runs) 0) → IsFilled es (k, unwrap_or (cond b (Some r.1) (lookup (same_key k) runs)) 0)
    by true same rest = λ places lt q f. all.0 places lt q (follows_like k r.0 q places same f)
    by false other rest = rest

-- What has a value keeps it

stays : (o r : Option Value) → is_some o ≡ true → is_some (otherwise o r) ≡ true
stays (Some y) r h = refl
stays None r h = cc

put_kept : (line : ℕ) (k : Key) (x : Value) (es new : Entries) → put line k x es ≡ Ok new → AreKept es new
put_kept line k x es new h q t = ap is_some (looked-put line k x es new q h) ∙ stays (value_at es q) _ t

pub put_free_kept : (line : ℕ) (x : Value) (k : Key) (es new : Entries) → put_free line x k es ≡ Ok new → AreKept es new
put_free_kept line x k es new h q t = ap is_some (looked-put_free line x k es new q h) ∙ stays (value_at es q) _ t

put_all_kept : (line : ℕ) (x : Value) (ks : List Key) (es new : Entries) → put_all line x ks es ≡ Ok new → AreKept es new
put_all_kept line x ks es new h q t = ap is_some (looked-put_all line x ks es new q h) ∙ stays (value_at es q) _ t

pub runs_kept : (es new : Entries) → AreKept es new → (runs : List (Key × ℕ)) → AreFilled es runs → AreFilled new runs
runs_kept es new kept [] all = tt
runs_kept es new kept (r ∷ runs) all = ((λ places lt q f. kept q (all.0 places lt q f)), runs_kept es new kept runs all.1)

same_kept : (es new : Entries) → ◌≡◌ {A = Result Entries SituationFault} (Ok es) (Ok new) → AreKept es new
same_kept es new e q t = let same : es ≡ new = cc in ap (λ fs. has fs q) (sym same) ∙ t

module _ (line : ℕ) (ks : List Key) (es new : Entries) where
  spread_kept : (count : ℕ) (n : Number) → spread line count ks es n ≡ Ok new → AreKept es new
  spread_kept count n h = by (count == 0) h
    where
      nothing : (b : Bool) → (if b then Ok es else Err (at_line line InconsistentInput)) ≡ Ok new → AreKept es new
      nothing true e = same_kept es new e
      nothing false e = cc

      by : (b : Bool)
          → (if b then (if int_eq n.numerator (pos 0) then Ok es else Err (at_line line InconsistentInput)) else and_then (share_of line n count) (λ share. put_all line (v.Number share) ks es)) ≡ Ok new
          → AreKept es new
      by true e = nothing (int_eq n.numerator (pos 0)) e
      by false e =
          let one = then_ok (share_of line n count) (λ share. put_all line (v.Number share) ks es) new e in
          put_all_kept line (v.Number one.0) ks es new one.2

  divided_kept : (w : Value) → divided_value line w ks es ≡ Ok new → AreKept es new
  divided_kept (v.Number n) h =
      let rest = then_ok (rest_of line es ks n) (spread line (count_free es ks) ks es) new h in
      spread_kept (count_free es ks) rest.0 rest.2
  divided_kept (v.Bool b) h = cc
  divided_kept (v.Member i) h = cc

over_kept : (s : Option SetInput) (g : Given) (ks : List Key) (es new : Entries) → over_parts s g ks es ≡ Ok new → AreKept es new
over_kept None g ks es new h = cc
over_kept (Some sharing.DivideByPeriod) g ks es new h = divided_kept g.line ks es new g.value h
over_kept (Some sharing.DispatchByPeriod) g ks es new h = put_all_kept g.line g.value ks es new h

alone_kept : (line : ℕ) (k : Key) (x : Value) (es new : Entries) → alone line k x es ≡ Ok new → AreKept es new
alone_kept line k x es new h = by (has es k) h
  where
    by : (b : Bool) → (if b then Err (at_line line InconsistentInput) else put line k x es) ≡ Ok new → AreKept es new
    by true e = cc
    by false e = put_kept line k x es new e

pub shared_kept : (o : Option Rule) (g : Given) (es new : Entries) → shared_by o g es ≡ Ok new → AreKept es new
shared_kept None g es new h = cc
shared_kept (Some r) g es new h = by (fits r.unit g.period) h
  where
    over : (b : Bool) → (if b then over_parts r.set_input g (parts_of r g) es else Err (at_line g.line PeriodMismatch)) ≡ Ok new → AreKept es new
    over true e = over_kept r.set_input g (parts_of r g) es new e
    over false e = cc

    by : (b : Bool)
        → (if b then alone g.line (own_key r g) g.value es
        else (if is_longer r.unit g.period then over_parts r.set_input g (parts_of r g) es else Err (at_line g.line PeriodMismatch))) ≡ Ok new
        → AreKept es new
    by true e = alone_kept g.line (own_key r g) g.value es new e
    by false e = over (is_longer r.unit g.period) e

-- Parts of a given input

any_there : (ks : List Key) (i : ℕ) (k : Key) → slice_get ks i ≡ Some k → list_any (same_key k) ks ≡ true
any_there [] i k h = absurd (omega (arith, slice_get_within [] i k h))
any_there (q ∷ ks) zero k h = let same : q ≡ k = cc in ap (λ b. b || list_any (same_key k) ks) (ap (same_key k) same ∙ laws-law.refl k)
any_there (q ∷ ks) (suc i) k h = or_right (same_key k q) (list_any (same_key k) ks) (any_there ks i k h)

pub all_there : (line : ℕ) (x : Value) (ks : List Key) (es new : Entries) → put_all line x ks es ≡ Ok new → AreThere new ks
all_there line x ks es new h i k here =
    ap is_some (looked-put_all line x ks es new k h ∙ ap (λ b. otherwise (value_at es k) (if b then Some x else None)) (any_there ks i k here)) ∙ some (value_at es k)
  where
    some : (o : Option Value) → is_some (otherwise o (Some x)) ≡ true
    some (Some y) = refl
    some None = refl

drop_more : (ks : List Key) (i n : ℕ) → drop n (drop i ks) ≡ drop (i + n) ks
drop_more ks zero n = let e : n ≡ 0 + n = omega arith in ap (λ j. drop j ks) e
drop_more [] (suc i) n = drop-nil n ∙ sym (drop-nil (suc i + n))
drop_more (k ∷ ks) (suc i) n = let e : suc (i + n) ≡ suc i + n = omega arith in drop_more ks i n ∙ ap (λ j. drop j (k ∷ ks)) e

get_drop : (ks : List Key) (i j : ℕ) → slice_get (drop i ks) j ≡ slice_get ks (i + j)
get_drop ks zero j = let e : j ≡ 0 + j = omega arith in ap (slice_get ks) e
get_drop [] (suc i) j = refl
get_drop (k ∷ ks) (suc i) j = let e : suc (i + j) ≡ suc i + j = omega arith in get_drop ks i j ∙ ap (slice_get (k ∷ ks)) e

some_at : (ks : List Key) (i : ℕ) → i < length ks → (k : Key) × (slice_get ks i ≡ Some k)
some_at [] i h = absurd (omega (arith, h))
some_at (k ∷ ks) zero h = (k, refl)
some_at (k ∷ ks) (suc i) h = some_at ks i (omega (arith, h))

module _ (u : Unit) (g : Given) (es : Entries) (i : ℕ) (k : Key) (here : slice_get (parts_by u g) i ≡ Some k) where
  -- where all parts have values, those from one on have
  pub rest_filled : (count : ℕ) → count ≡ length (parts_by u g) → AreThere es (parts_by u g) → IsFilled es (k, count - i)
  rest_filled count whole there places lt q f =
      let own = some_at (parts_by u g) (i + places) (omega (arith, whole, lt)) in
      let same = one_follows k own.0 q places (follows_parts u g i places k own.0 here own.1) f in
      ap is_some (sym (looked-like own.0 q same es)) ∙ there (i + places) own.0 own.1

  -- those that a run is noted of are passed over
  pub run_passed : (line : ℕ) (x : Value) (n : ℕ) → IsFilled es (k, n) → put_all line x (drop i (parts_by u g)) es ≡ put_all line x (drop (i + n) (parts_by u g)) es
  run_passed line x n filled = sym (ap (λ ks. put_all line x ks es) (sym (drop_more (parts_by u g) i n)) ∙ skipped line x (drop i (parts_by u g)) es n each)
    where
      each : (j : ℕ) (q : Key) → j < n → slice_get (drop i (parts_by u g)) j ≡ Some q → has es q ≡ true
      each j q lt e = filled j lt q (follows_parts u g i j k q here (sym (get_drop (parts_by u g) i j) ∙ e))
