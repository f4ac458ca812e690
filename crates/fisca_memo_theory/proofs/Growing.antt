-- One more entry, and how what is remembered grows.
use Rattle.std.proofs.Common.{◌≡◌, ◌⊎◌, inl, inr, ℕ, suc, Ok, Some, None, Bool, true, false, cond, refl, sym, ap, subst, ⊎_elim}
use Rattle.fisca_model.specs.Values.{Value, Key}
use Rattle.fisca_key_semantics.specs.Answers.{Sources, formula, value_within}
use Rattle.fisca_key_semantics.specs.Chains.{asked}
use Rattle.fisca_key_semantics.specs.Inquiry.{Inquiry}
use Rattle.fisca_key_semantics.specs.Keys.{In, same_key}
use Rattle.fisca_key_semantics.proofs.KeyFacts.{equal_key, key_same}
use Rattle.fisca_memo_theory.specs.Entries.{Entry, Entries, with_entry, Remembered}
use Rattle.fisca_memo_theory.specs.Memory.{HasFormula, IsKnown, IsTrueEntry, IsTrueMemory}
use Rattle.fisca_memo_theory.specs.Work.{IsWork, Grows}

pub kept_here : (m : Entries) (key : Key) (k : Entry) → Remembered (with_entry m key k) key
kept_here m key k = (k, ap (λ b. cond b (Some k) (m key)) (key_same key key refl))

pub kept_old : (m : Entries) (key : Key) (k : Entry) (q : Key) → Remembered m q → Remembered (with_entry m key k) q
kept_old m key k q r = by_test (same_key key q)
  where
    by_test : (b : Bool) → (e : Entry) × (cond b (Some k) (m q) ≡ Some e)
    by_test true = (k, refl)
    by_test false = r

pub kept_cases : (m : Entries) (key : Key) (k : Entry) (q : Key) → Remembered (with_entry m key k) q → (q ≡ key) ⊎ Remembered m q
kept_cases m key k q r = by_test (same_key key q) (equal_key key q) r
  where
    by_test : (b : Bool) → (b ≡ true → key ≡ q) → (e : Entry) × (cond b (Some k) (m q) ≡ Some e) → (q ≡ key) ⊎ Remembered m q
    by_test true same e = inl (sym (same refl))
    by_test false same e = inr e

entry_true : (m : Entries) (key : Key) (k : Entry) (q : Key) (src : Sources) → IsTrueMemory src m → IsTrueEntry src key (Some k) → (b : Bool) → (b ≡ true → key ≡ q) → IsTrueEntry src q (cond b (Some k) (m q))
entry_true m key k q src t e true same = subst (λ x. IsTrueEntry src x (Some k)) (same refl) e
entry_true m key k q src t e false same = t.each q

-- One more true entry keeps the memory true.
pub kept_true : (src : Sources) (m : Entries) (key : Key) (k : Entry) → IsTrueMemory src m → IsKnown src k.height key k.value k.height → ((n : ℕ) (q : Key) → IsWork src n key q → (q ≡ key) ⊎ Remembered m q) → HasFormula src key → IsTrueMemory src (with_entry m key k)
kept_true src m key k t e work f = record {
  each = λ q. entry_true m key k q src t e (same_key key q) (equal_key key q);
  formulas = λ q r. ⊎_elim (λ (s : q ≡ key). subst (HasFormula src) (sym s) f) (λ (o : Remembered m q). t.formulas q o) (kept_cases m key k q r);
  closed = λ q r n i w. ⊎_elim
      (λ (s : q ≡ key). ⊎_elim (λ (a : i ≡ key). subst (Remembered (with_entry m key k)) (sym a) (kept_here m key k)) (λ (b : Remembered m i). kept_old m key k i b) (work n i (subst (λ x. IsWork src n x i) s w)))
      (λ (o : Remembered m q). kept_old m key k i (t.closed q o n i w))
      (kept_cases m key k q r);
}

pub same_entries : (m m' : Entries) → ((k : Key) → m k ≡ m' k) → m ≡ m'
same_entries m m' h = λ i k. h k i

-- Nothing is remembered.
pub empty_true : (src : Sources) (m : Entries) → ((k : Key) → m k ≡ None) → IsTrueMemory src m
empty_true src m none = record { each = λ key. rw (none key) tt; formulas = λ key r. let e : m key ≡ None = none key in let some = r.1 in cc; closed = λ key r. let e : m key ≡ None = none key in let some = r.1 in cc }

-- How what is remembered grows

pub grows_wider : (a b : Entries) (W W' : Key → Type 0) → Grows a b W → ((k : Key) → W k → W' k) → Grows a b W'
grows_wider a b W W' g h = record { kept = g.kept; only = λ k r. ⊎_elim (λ (x : Remembered a k). inl x) (λ (y : W k). inr (h k y)) (g.only k r) }

pub grows_on : (a b c : Entries) (W : Key → Type 0) → Grows a b W → Grows b c W → Grows a c W
grows_on a b c W g h = record {
  kept = λ k r. h.kept k (g.kept k r);
  only = λ k r. ⊎_elim (λ (x : Remembered b k). g.only k x) (λ (y : W k). inr y) (h.only k r);
}

pub grows_entry : (b : Entries) (key : Key) (e : Entry) (W : Key → Type 0) → W key → Grows b (with_entry b key e) W
grows_entry b key e W w = record {
  kept = λ k r. kept_old b key e k r;
  only = λ k r. ⊎_elim (λ (s : k ≡ key). inr (subst W (sym s) w)) (λ (o : Remembered b k). inl o) (kept_cases b key e k r);
}

pub asked_work : (src : Sources) (n : ℕ) (key j : Key) (d : Inquiry) → src key ≡ formula d → In j (asked (value_within src n) d) → (k : Key) → IsWork src n j k → IsWork src (suc n) key k
unfolding IsWork
asked_work src n key j d e i k w = (d, e, inl (j, i, w))

pub value_work : (src : Sources) (n : ℕ) (key : Key) (v : Value) (d : Inquiry) → src key ≡ formula d → value_within src (suc n) key ≡ Ok v → IsWork src (suc n) key key
unfolding IsWork
value_work src n key v d e a = (d, e, inr (refl, (v, a)))
