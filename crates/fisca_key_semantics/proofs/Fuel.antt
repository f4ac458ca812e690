-- Values within different fuels, and heights along the keys asked for.
use Rattle.std.proofs.Common.{◌≡◌, ℕ, zero, suc, ◌+◌, ◌<◌, ◌≤◌, Result, Ok, Err, refl, sym, ap, subst, ◌∙◌, arith, ◌-◌, ⊎_elim}
use Rattle.std.proofs.lemmas.Bool.{cases_lt}
use Rattle.fisca_model.specs.Values.{Value, Key}
use Rattle.fisca_key_semantics.specs.Answers.{Halt, fault, out, Source, Sources, refused, known, formula, outcome, through, mismatch, at_once, from_source, value_within}
use Rattle.fisca_key_semantics.specs.Chains.{IsDefinite, AsksFor}
use Rattle.fisca_key_semantics.specs.Inquiry.{Inquiry}
use Rattle.fisca_key_semantics.proofs.Runs.{Extends, asked_definite, ends_stays, asked_stays}

-- a definite answer passes through a key unchanged
pub through_definite : (key : Key) (r : Result Value Halt) → IsDefinite (through key r) → IsDefinite r
through_definite key (Ok v) h = tt
through_definite key (Err (fault f)) h = tt
through_definite key (Err (out c)) h = absurd h

pub definite_through : (key : Key) (r : Result Value Halt) → IsDefinite r → IsDefinite (through key r)
definite_through key (Ok v) h = tt
definite_through key (Err (fault f)) h = tt
definite_through key (Err (out c)) h = absurd h

module _ (src : Sources) where
  pub within_suc : (n : ℕ) (key : Key) → value_within src (suc n) key ≡ from_source (src key) key (value_within src n)
  unfolding value_within
  within_suc n key = refl

  pub within_zero : (key : Key) → value_within src zero key ≡ at_once (src key) key
  unfolding value_within
  within_zero key = refl

  pub at_formula : (n : ℕ) (key : Key) (d : Inquiry) → src key ≡ formula d → value_within src (suc n) key ≡ through key (outcome (value_within src n) d)
  at_formula n key d e = within_suc n key ∙ ap (λ s. from_source s key (value_within src n)) e

  pub at_refused : (n : ℕ) (key : Key) → src key ≡ refused → value_within src n key ≡ mismatch key
  at_refused zero key e = within_zero key ∙ ap (λ s. at_once s key) e
  at_refused (suc n) key e = within_suc n key ∙ ap (λ s. from_source s key (value_within src n)) e

  pub at_known : (n : ℕ) (key : Key) (v : Value) → src key ≡ known v → value_within src (suc n) key ≡ Ok v
  at_known n key v e = within_suc n key ∙ ap (λ s. from_source s key (value_within src n)) e

  -- one more fuel
  pub grows : (n : ℕ) → Extends (value_within src n) (value_within src (suc n))
  grows zero k h = by_source (src k) refl
    where
      by_source : (s : Source) → src k ≡ s → value_within src (suc zero) k ≡ value_within src zero k
      by_source refused e = at_refused (suc zero) k e ∙ sym (at_refused zero k e)
      by_source (known v) e = absurd (rw (within_zero k, e) at h)
      by_source (formula d) e = absurd (rw (within_zero k, e) at h)
  grows (suc n) k h = by_source (grows n) (src k) refl
    where
      by_source : Extends (value_within src n) (value_within src (suc n)) → (s : Source) → src k ≡ s → value_within src (suc (suc n)) k ≡ value_within src (suc n) k
      by_source ih refused e = at_refused (suc (suc n)) k e ∙ sym (at_refused (suc n) k e)
      by_source ih (known v) e = at_known (suc n) k v e ∙ sym (at_known n k v e)
      by_source ih (formula d) e =
          let def : IsDefinite (outcome (value_within src n) d) = through_definite k _ (subst IsDefinite (at_formula n k d e) h) in
          at_formula (suc n) k d e ∙ ap (through k) (ends_stays (value_within src n) (value_within src (suc n)) ih d def).0 ∙ sym (at_formula n k d e)

  -- Definite answers stay with more fuel.
  pub stays_by : (n j : ℕ) → Extends (value_within src n) (value_within src (n + j))
  stays_by n zero k h = ap (λ m. value_within src m k) (omega arith)
  stays_by n (suc j) k h =
      let e : value_within src (n + j) k ≡ value_within src n k = stays_by n j k h in
      let g : value_within src (suc (n + j)) k ≡ value_within src (n + j) k = grows (n + j) k (rw e h) in
      let m : n + suc j ≡ suc (n + j) = omega arith in
      ap (λ i. value_within src i k) m ∙ g ∙ e

  pub stays : (n m : ℕ) → n ≤ m → Extends (value_within src n) (value_within src m)
  stays n m le k h =
      let e : n + (m - n) ≡ m = omega arith in
      ap (λ i. value_within src i k) (sym e) ∙ stays_by n (m - n) k h

  pub definite_stays : (n m : ℕ) → n ≤ m → (k : Key) → IsDefinite (value_within src n k) → IsDefinite (value_within src m k)
  definite_stays n m le k h = rw (stays n m le k h) h

  -- What a key with a definite answer asks for has one with less fuel.
  pub falls : (k j : Key) → AsksFor src k j → (n : ℕ) → IsDefinite (value_within src n k) → (m : ℕ) × (m < n) × IsDefinite (value_within src m j)
  falls k j a zero h = absurd (rw (within_zero k, a.is_formula) at h)
  falls k j a (suc n) h =
      let d = a.inquiry in
      let def : IsDefinite (outcome (value_within src n) d) = through_definite k _ (subst IsDefinite (at_formula n k d a.is_formula) h) in (
        n,
        omega arith,
        ⊎_elim
            (λ (lt : a.fuel < n). asked_definite (value_within src n) d def j (asked_stays (value_within src a.fuel) (value_within src n) (stays a.fuel n (omega arith)) d j a.asks))
            (λ (ge : n ≤ a.fuel).
            let same = (ends_stays (value_within src n) (value_within src a.fuel) (stays n a.fuel ge) d def).1 in
            asked_definite (value_within src n) d def j (rw same at a.asks))
            (cases_lt a.fuel n),
      )
