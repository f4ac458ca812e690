-- How many of the first members of a row have a value for sure.
use Rattle.std.proofs.Common.{◌≡◌, ℕ, zero, suc, ◌<◌, List, [], ◌∷◌, ◌++◌, drop, Bool, true, false, cond, Option, Some, None, is_some, slice_get, refl, sym, ap, ◌∙◌, arith, if◌then◌else◌, ◌&&◌, ◌||◌, inl, inr}
use Rattle.std.specs.Prelude.{◌⊎◌, ◌==◌, Ok}
use Rattle.std.specs.List.{AllByRecursion, list_any}
use Rattle.std.specs.Map.{keys_of, lookup}
use Rattle.std.specs.Option.{unwrap_or}
use Rattle.std.specs.Ordering.{eq_by_cmp}
use Rattle.std.proofs.lemmas.Bool.{eq-eqb}
use Rattle.std.proofs.lemmas.Option.{slice_get_within}
use Rattle.indexmap.specs.IndexMap.{insert_entry}
use Rattle.fisca_num.specs.Results.{and_then}
use Rattle.fisca_time.specs.Period.{span_cmp}
use Rattle.fisca_model.specs.Tables.{otherwise}
use Rattle.fisca_model.specs.contracts.key.KeyEq.TheImpl.Laws.{laws-law}
use Rattle.fisca_inputs.specs.Defaults.{HaveFirst, and_row, beside}
use Rattle.fisca_inputs.specs.Steps.Defaults.{row_of}
use Rattle.fisca_inputs.specs.Entries.{Entries, key, same_key, value_at}
use Rattle.fisca_inputs.specs.Steps.Entries.{has, put, put_all}
use Rattle.fisca_inputs.specs.Rules.{Rule}
use Rattle.fisca_inputs.specs.declared.given.Given.{Given}
use Rattle.fisca_model.specs.declared.value.Value.{Value}
use Rattle.fisca_model.specs.declared.key.Key.{Key}
use Rattle.fisca_inputs.proofs.Beside.{looked-beside}
use Rattle.fisca_inputs.proofs.Looked.{looked-like}
use Rattle.fisca_inputs.proofs.Rows.{row_at, length-row}

-- A member of a row is noted

module _ (row : Key) where
  -- the keys are those before, with the row behind them where it is none of them
  pub keys_noted : (rows : List (Key × ℕ)) (n : ℕ) → keys_of (insert_entry same_key rows row n) ≡ and_row (keys_of rows) row
  keys_noted [] n = refl
  keys_noted (r ∷ rows) n = by (same_key row r.0) (keys_noted rows n)
    where
      behind : (b : Bool) → (if b then r.0 ∷ keys_of rows else r.0 ∷ (keys_of rows ++ row ∷ [])) ≡ r.0 ∷ (if b then keys_of rows else keys_of rows ++ row ∷ [])
      behind true = refl
      behind false = refl

      by : (b : Bool) → keys_of (insert_entry same_key rows row n) ≡ and_row (keys_of rows) row
          → keys_of (if b then (r.0, n) ∷ rows else r ∷ insert_entry same_key rows row n)
          ≡ (if (b || list_any (same_key row) (keys_of rows)) then r.0 ∷ keys_of rows else r.0 ∷ (keys_of rows ++ row ∷ []))
      by true rest = refl
      by false rest = ap (λ ks. r.0 ∷ ks) rest ∙ sym (behind (list_any (same_key row) (keys_of rows)))

module _ (es : Entries) (row : Key) (member : ℕ) (there : has es (key row.variable member row.period) ≡ true) where
  like : (k : Key) → same_key row k ≡ true → has es (key k.variable member k.period) ≡ true
  like k same =
      let turned : same_key (key row.variable member row.period) (key k.variable member k.period) ≡ true =
      by (row.variable == k.variable) (row.member == k.member) (eq_by_cmp span_cmp row.period k.period) (member == member) same (eq-eqb member member refl) in
      ap is_some (sym (looked-like (key row.variable member row.period) (key k.variable member k.period) turned es)) ∙ there
    where
      by : (a m s n : Bool) → (a && (m && s)) ≡ true → n ≡ true → (a && (n && s)) ≡ true
      by true true s n h e = ap (λ b. b && s) e ∙ h
      by true false s n h e = cc
      by false m s n h e = cc

  abbrev Each : ℕ → ℕ → Type 0
  Each first n = (m : ℕ) → m < n → (m < first) ⊎ (m ≡ member)

  more : (k : Key) (first n : ℕ) → same_key row k ≡ true → Each first n → HaveFirst es (k, first) → HaveFirst es (k, n)
  more k first n same each had m lt = by (each m lt)
    where
      by : (m < first) ⊎ (m ≡ member) → has es (key k.variable m k.period) ≡ true
      by (inl p) = had m p
      by (inr e) = ap (λ j. has es (key k.variable j k.period)) e ∙ like k same

  pub first_noted : (rows : List (Key × ℕ)) (n : ℕ) → Each (unwrap_or (lookup (same_key row) rows) 0) n
      → AllByRecursion (HaveFirst es) rows → AllByRecursion (HaveFirst es) (insert_entry same_key rows row n)
  first_noted [] n each all = ((λ m lt. by m (each m lt)), tt)
    where
      by : (m : ℕ) → (m < 0) ⊎ (m ≡ member) → has es (key row.variable m row.period) ≡ true
      by m (inl p) = absurd (omega (arith, p))
      by m (inr e) = ap (λ j. has es (key row.variable j row.period)) e ∙ there
  first_noted (r ∷ rows) n each all = by (same_key row r.0) refl each (λ later. first_noted rows n later all.1)
    where
      by : (b : Bool) → same_key row r.0 ≡ b → Each (unwrap_or (cond b (Some r.1) (lookup (same_key row) rows)) 0) n
          → (Each (unwrap_or (lookup (same_key row) rows) 0) n → AllByRecursion (HaveFirst es) (insert_entry same_key rows row n))
          → AllByRecursion (HaveFirst es) (if b then (r.0, n) ∷ rows else r ∷ insert_entry same_key rows row n)
      by true same here rest = (more r.0 r.1 n same here all.0, all.1)
      by false other later rest = (all.0, rest later)

-- Each entry of a map has a value

pub all_in : (xs es : Entries) → ((q : Key) → has xs q ≡ true → has es q ≡ true) → AllByRecursion (λ e. has es e.0 ≡ true) xs
all_in [] es up = tt
all_in (x ∷ xs) es up = (up x.0 own, all_in xs es (λ q h. up q (by q (same_key q x.0) h)))
  where
    own : has (x ∷ xs) x.0 ≡ true
    own = ap (λ b. is_some (cond b (Some x.1) (value_at xs x.0))) (laws-law.refl x.0)

    by : (q : Key) (b : Bool) → has xs q ≡ true → is_some (cond b (Some x.1) (value_at xs q)) ≡ true
    by q true h = refl
    by q false h = h

-- The first members are passed over

pub skipped : (line : ℕ) (x : Value) (ks : List Key) (es : Entries) (n : ℕ) → ((i : ℕ) (k : Key) → i < n → slice_get ks i ≡ Some k → has es k ≡ true)
    → put_all line x (drop n ks) es ≡ put_all line x ks es
skipped line x ks es zero h = refl
skipped line x [] es (suc n) h = refl
skipped line x (k ∷ ks) es (suc n) h =
    skipped line x ks es n (λ i j lt e. h (suc i) j (omega (arith, lt)) e)
    ∙ sym (ap (λ b. and_then (if b then Ok es else put line k x es) (put_all line x ks)) (h 0 k (omega arith) refl))

pub from_first : (line : ℕ) (x : Value) (k : Key) (first count : ℕ) (es : Entries) → HaveFirst es (k, first)
    → put_all line x (drop first (row_of k.variable count k.period)) es ≡ put_all line x (row_of k.variable count k.period) es
from_first line x k first count es had = skipped line x (row_of k.variable count k.period) es first each
  where
    each : (i : ℕ) (j : Key) → i < first → slice_get (row_of k.variable count k.period) i ≡ Some j → has es j ≡ true
    each i j lt e =
        let within : i < count = omega (arith, slice_get_within (row_of k.variable count k.period) i j e, length-row k.variable count k.period) in
        let own : slice_get (row_of k.variable count k.period) i ≡ Some (key k.variable i k.period) = row_at k.variable count k.period i within in
        let same : j ≡ key k.variable i k.period = cc in
        ap (has es) same ∙ had i lt

-- What has a value keeps it

module _ (rules : List Rule) (counts : List ℕ) (gs : List Given) (k : Key) (es new : Entries) (done : beside rules counts gs k es ≡ Ok new) where
  stays : (q : Key) → has es q ≡ true → has new q ≡ true
  stays q h = ap is_some (looked-beside rules counts gs k es new q done) ∙ by (value_at es q) _ h
    where
      by : (o r : Option Value) → is_some o ≡ true → is_some (otherwise o r) ≡ true
      by (Some y) r h = refl
      by None r h = cc

  pub rows_stay : (rows : List (Key × ℕ)) → AllByRecursion (HaveFirst es) rows → AllByRecursion (HaveFirst new) rows
  rows_stay [] all = tt
  rows_stay (r ∷ rows) all = ((λ m lt. stays (key r.0.variable m r.0.period) (all.0 m lt)), rows_stay rows all.1)
