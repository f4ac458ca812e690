-- What defaults beside other members' inputs make of a map.
use Rattle.std.proofs.Common.{◌≡◌, ℕ, zero, suc, ◌+◌, ◌<◌, ◌≤◌, List, [], ◌∷◌, ◌++◌, map, Bool, true, false, Option, Some, None, slice_get, refl, sym, ap, ◌∙◌, arith, if◌then◌else◌, ◌||◌, ◌&&◌, inl, inr}
use Rattle.std.specs.Prelude.{◌⊎◌, Result, Ok, Err, nat_lt, ◌==◌}
use Rattle.std.specs.List.{range_with_len, list_any}
use Rattle.std.specs.Cmp.{both_ways}
use Rattle.std.specs.Ordering.{eq_by_cmp}
use Rattle.std.proofs.lemmas.Bool.{cases_lt, eqb-true, eq-eqb, lt-ltb, ltb-true, or_right}
use Rattle.fisca_num.specs.Results.{and_then}
use Rattle.fisca_time.specs.Period.{span_cmp}
use Rattle.fisca_model.specs.Tables.{otherwise}
use Rattle.fisca_model.specs.contracts.key.KeyEq.TheImpl.Laws.{laws-law}
use Rattle.fisca_inputs.specs.Defaults.{row_key, row_with, and_row, rows_with, rows_of, beside, beside_by, with_defaults}
use Rattle.fisca_inputs.specs.Steps.Defaults.{count_of, first_line, row_of}
use Rattle.fisca_inputs.specs.Entries.{Entries, key, same_key, value_at}
use Rattle.fisca_inputs.specs.Rules.{Rule}
use Rattle.fisca_inputs.specs.Totals.{default_for, is_beside, value_or_default}
use Rattle.fisca_inputs.specs.declared.fault.SituationFault.{SituationFault}
use Rattle.fisca_inputs.specs.declared.given.Given.{Given}
use Rattle.fisca_model.specs.declared.value.Value.{Value}
use Rattle.fisca_model.specs.declared.key.Key.{Key}
use Rattle.fisca_inputs.proofs.Looked.{looked-put_all}

-- Members

any_split : (a s : Bool) (m : ℕ) (x : Key) (js : List ℕ) → list_any (λ j. a && ((m == j) && s)) js ≡ (a && (s && list_any (λ j. m == j) js))
any_split a s m x [] = by a s
  where
    by : (a s : Bool) → false ≡ (a && (s && false))
    by true true = refl
    by true false = refl
    by false s = refl
any_split a s m x (j ∷ js) = ap (λ b. (a && ((m == j) && s)) || b) (any_split a s m x js) ∙ by a s (m == j) (list_any (λ j. m == j) js)
  where
    by : (a s b c : Bool) → ((a && (b && s)) || (a && (s && c))) ≡ (a && (s && (b || c)))
    by true true true c = refl
    by true true false c = refl
    by true false true c = refl
    by true false false c = refl
    by false s b c = refl

any_map : (is : Key → Bool) (f : ℕ → Key) (js : List ℕ) → list_any is (map f js) ≡ list_any (λ j. is (f j)) js
any_map is f [] = refl
any_map is f (j ∷ js) = ap (λ b. is (f j) || b) (any_map is f js)

or_false : (b : Bool) → b ≡ (b || false)
or_false true = refl
or_false false = refl

in_range : (m a n : ℕ) → a ≤ m → m < a + n → list_any (λ j. m == j) (range_with_len a n) ≡ true
in_range m a zero low high = absurd (omega arith)
in_range m a (suc n) low high = by (cases_lt a m) (λ h. in_range m (a + 1) n h (omega arith))
  where
    by : (a < m) ⊎ (m ≤ a) → (a + 1 ≤ m → list_any (λ j. m == j) (range_with_len (a + 1) n) ≡ true) → ((m == a) || list_any (λ j. m == j) (range_with_len (a + 1) n)) ≡ true
    by (inl p) more = or_right (m == a) (list_any (λ j. m == j) (range_with_len (a + 1) n)) (more (omega arith))
    by (inr p) more = ap (λ b. b || list_any (λ j. m == j) (range_with_len (a + 1) n)) (eq-eqb m a (omega arith))

of_range : (m a n : ℕ) → list_any (λ j. m == j) (range_with_len a n) ≡ true → m < a + n
of_range m a zero h = cc
of_range m a (suc n) h = by (m == a) refl h (of_range m (a + 1) n)
  where
    by : (b : Bool) → (m == a) ≡ b → (b || list_any (λ j. m == j) (range_with_len (a + 1) n)) ≡ true → (list_any (λ j. m == j) (range_with_len (a + 1) n) ≡ true → m < a + 1 + n) → m < a + suc n
    by true e h more = let same : m ≡ a = eqb-true m a e in omega (arith, same)
    by false e h more = omega (arith, more h)

range_is : (m n : ℕ) → list_any (λ j. m == j) (range_with_len 0 n) ≡ nat_lt m n
range_is m n = both_ways _ _ (λ h. lt-ltb m n (omega (arith, of_range m 0 n h))) (λ h. in_range m 0 n (omega arith) (omega (arith, ltb-true m n h)))

row_any : (q k : Key) (n : ℕ) → list_any (same_key q) (row_of k.variable n k.period) ≡ (same_key (row_key q) (row_key k) && nat_lt q.member n)
row_any q k n =
    let a = q.variable == k.variable in
    let s = eq_by_cmp span_cmp q.period k.period in
    any_map (same_key q) (λ j. key k.variable j k.period) (range_with_len 0 n) ∙ any_split a s q.member q (range_with_len 0 n)
    ∙ ap (λ b. a && (s && b)) (range_is q.member n) ∙ by a s (nat_lt q.member n)
  where
    by : (a s c : Bool) → (a && (s && c)) ≡ ((a && s) && c)
    by true s c = refl
    by false s c = refl

-- One row

abbrev of_rule : Option Rule → List ℕ → Key → Key → Option Value
of_rule r counts k q = if same_key (row_key q) (row_key k) then default_for r counts q.member else None

unchanged : (o : Option Value) (b : Bool) → o ≡ otherwise o (if b then None else None)
unchanged (Some x) b = refl
unchanged None true = refl
unchanged None false = refl

looked-row : (line : ℕ) (r : Rule) (counts : List ℕ) (k : Key) (es new : Entries) (q : Key) (d : Option Value) → r.default ≡ d
    → row_with line d (row_of k.variable (count_of counts r.entity) k.period) es ≡ Ok new → value_at new q ≡ otherwise (value_at es q) (of_rule (Some r) counts k q)
looked-row line r counts k es new q None e h =
    let same : es ≡ new = cc in
    ap (λ fs. value_at fs q) (sym same) ∙ unchanged (value_at es q) (same_key (row_key q) (row_key k))
    ∙ ap (λ o. otherwise (value_at es q) (if same_key (row_key q) (row_key k) then o else None)) (by (nat_lt q.member (count_of counts r.entity)))
  where
    by : (b : Bool) → None ≡ (if b then r.default else None)
    by true = sym e
    by false = refl
looked-row line r counts k es new q (Some x) e h =
    looked-put_all line x (row_of k.variable (count_of counts r.entity) k.period) es new q h
    ∙ ap (λ b. otherwise (value_at es q) (if b then Some x else None)) (row_any q k (count_of counts r.entity))
    ∙ ap (otherwise (value_at es q)) (by (same_key (row_key q) (row_key k)) (nat_lt q.member (count_of counts r.entity)))
  where
    by : (b c : Bool) → (if b && c then Some x else None) ≡ (if b then (if c then r.default else None) else None)
    by true true = sym e
    by true false = refl
    by false c = refl

pub looked-beside : (rules : List Rule) (counts : List ℕ) (gs : List Given) (k : Key) (es new : Entries) (q : Key) → beside rules counts gs k es ≡ Ok new
    → value_at new q ≡ otherwise (value_at es q) (of_rule (slice_get rules k.variable) counts k q)
looked-beside rules counts gs k es new q h = by (slice_get rules k.variable) h
  where
    by : (r : Option Rule) → beside_by r counts gs k es ≡ Ok new → value_at new q ≡ otherwise (value_at es q) (of_rule r counts k q)
    by None e = let same : es ≡ new = cc in ap (λ fs. value_at fs q) (sym same) ∙ unchanged (value_at es q) (same_key (row_key q) (row_key k))
    by (Some r) e = looked-row (first_line gs k.variable) r counts k es new q r.default refl e

-- All rows

module _ (rules : List Rule) (counts : List ℕ) (q : Key) where
  abbrev own : Option Value
  own = default_for (slice_get rules q.variable) counts q.member

  -- the row of the key's variable has its default
  same_rule : (k : Key) → of_rule (slice_get rules k.variable) counts k q ≡ (if same_key (row_key q) (row_key k) then default_for (slice_get rules q.variable) counts q.member else None)
  same_rule k = by (q.variable == k.variable) refl (eq_by_cmp span_cmp q.period k.period)
    where
      by : (b : Bool) → (q.variable == k.variable) ≡ b → (s : Bool)
          → (if b && s then default_for (slice_get rules k.variable) counts q.member else None) ≡ (if b && s then default_for (slice_get rules q.variable) counts q.member else None)
      by true e s = ap (λ x. if s then default_for (slice_get rules x) counts q.member else None) (sym (eqb-true q.variable k.variable e))
      by false e s = refl

  abbrev among : List Key → Bool
  among ks = list_any (λ k. same_key (row_key q) (row_key k)) ks

  twice : (d : Option Value) (b : Bool) → otherwise d (if b then d else None) ≡ d
  twice (Some x) b = refl
  twice None true = refl
  twice None false = refl

  both : (o : Option Value) (a b : Bool) → otherwise (otherwise o (if a then own else None)) (if b then own else None) ≡ otherwise o (if a || b then own else None)
  both (Some x) a b = refl
  both None true b = twice own b
  both None false b = refl

  looked-rows : (gs : List Given) (ks : List Key) (es after : Entries) → with_defaults rules counts gs ks es ≡ Ok after
      → value_at after q ≡ otherwise (value_at es q) (if among ks then own else None)
  looked-rows gs [] es after h = let same : es ≡ after = cc in ap (λ fs. value_at fs q) (sym same) ∙ unchanged (value_at es q) false
  looked-rows gs (k ∷ ks) es after h = by (λ mid e. looked-rows gs ks mid after e) (beside rules counts gs k es) refl h
    where
      by : ((mid : Entries) → with_defaults rules counts gs ks mid ≡ Ok after → value_at after q ≡ otherwise (value_at mid q) (if among ks then own else None))
          → (r : Result Entries SituationFault) → beside rules counts gs k es ≡ r → and_then r (with_defaults rules counts gs ks) ≡ Ok after
          → value_at after q ≡ otherwise (value_at es q) (if same_key (row_key q) (row_key k) || among ks then own else None)
      by more (Ok mid) first rest =
          more mid rest
          ∙ ap (λ o. otherwise o (if among ks then own else None)) (looked-beside rules counts gs k es mid q first ∙ ap (otherwise (value_at es q)) (same_rule k))
          ∙ both (value_at es q) (same_key (row_key q) (row_key k)) (among ks)
      by more (Err f) first rest = cc

  row_like : (k r : Key) → same_key k r ≡ true → same_key (row_key k) (row_key r) ≡ true
  row_like k r h = by (k.variable == r.variable) (k.member == r.member) (eq_by_cmp span_cmp k.period r.period) h
    where
      by : (a m s : Bool) → (a && (m && s)) ≡ true → (a && s) ≡ true
      by true true s h = h
      by true false s h = cc
      by false m s h = cc

  found : (k : Key) (rows : List Key) → list_any (same_key k) rows ≡ true → same_key (row_key q) (row_key k) ≡ true → among rows ≡ true
  found k [] h t = cc
  found k (r ∷ rows) h t = by (same_key k r) refl h (λ e. found k rows e t)
    where
      by : (b : Bool) → same_key k r ≡ b → (b || list_any (same_key k) rows) ≡ true → (list_any (same_key k) rows ≡ true → among rows ≡ true)
          → (same_key (row_key q) (row_key r) || among rows) ≡ true
      by true e h more =
          let same : same_key (row_key q) (row_key r) ≡ true = laws-law.congr (row_key q) (row_key k) (row_key r) t ∙ row_like k r e in
          ap (λ b. b || among rows) same
      by false e h more = or_right (same_key (row_key q) (row_key r)) (among rows) (more h)

  among-behind : (ks : List Key) (k : Key) → among (ks ++ k ∷ []) ≡ (among ks || same_key (row_key q) (row_key k))
  among-behind [] k = by (same_key (row_key q) (row_key k))
    where
      by : (b : Bool) → (b || false) ≡ (false || b)
      by true = refl
      by false = refl
  among-behind (j ∷ ks) k = ap (λ b. same_key (row_key q) (row_key j) || b) (among-behind ks k) ∙ by (same_key (row_key q) (row_key j))
    where
      by : (a : Bool) → (a || (among ks || same_key (row_key q) (row_key k))) ≡ ((a || among ks) || same_key (row_key q) (row_key k))
      by true = refl
      by false = refl

  among-and : (rows : List Key) (k : Key) → among (and_row rows k) ≡ (among rows || same_key (row_key q) (row_key k))
  among-and rows k = by (list_any (same_key k) rows) refl
    where
      there : (t : Bool) → same_key (row_key q) (row_key k) ≡ t → list_any (same_key k) rows ≡ true → among rows ≡ (among rows || t)
      there true e h = let f = found k rows h e in f ∙ sym (ap (λ b. b || true) f)
      there false e h = or_false (among rows)

      by : (b : Bool) → list_any (same_key k) rows ≡ b → among (if b then rows else rows ++ k ∷ []) ≡ (among rows || same_key (row_key q) (row_key k))
      by true h = there (same_key (row_key q) (row_key k)) refl h
      by false h = among-behind rows k

  among-with : (es : Entries) (rows : List Key) → among (rows_with rows es) ≡ (among rows || is_beside es q)
  among-with [] rows = or_false (among rows)
  among-with (e ∷ es) rows =
      among-with es (and_row rows (row_key e.0)) ∙ ap (λ b. b || is_beside es q) (among-and rows (row_key e.0)) ∙ by (among rows) (same_key (row_key q) (row_key e.0))
    where
      by : (a b : Bool) → ((a || b) || is_beside es q) ≡ (a || (b || is_beside es q))
      by true b = refl
      by false b = refl

pub defaults_beside : (rules : List Rule) (counts : List ℕ) (gs : List Given) (es after : Entries) → with_defaults rules counts gs (rows_of es) es ≡ Ok after
    → (q : Key) → value_at after q ≡ value_or_default rules counts es q
defaults_beside rules counts gs es after h q =
    looked-rows rules counts q gs (rows_of es) es after h
    ∙ ap (λ b. otherwise (value_at es q) (if b then default_for (slice_get rules q.variable) counts q.member else None)) (among-with rules counts q es [])
