-- The height of a key is one more than that of the tallest key that it asks for.
use Rattle.std.proofs.Common.{◌≡◌, ◌⊎◌, inl, inr, ℕ, zero, suc, ◌<◌, ◌≤◌, Result, Ok, Err, sym, arith, ⊎_elim}
use Rattle.std.proofs.lemmas.Bool.{cases_lt}
use Rattle.fisca_model.specs.Values.{Value, Key}
use Rattle.fisca_key_semantics.specs.Answers.{Halt, fault, out, Sources, known, refused, outcome, value_within}
use Rattle.fisca_key_semantics.specs.Chains.{IsDefinite, IsHeight, AsksFor, asked}
use Rattle.fisca_key_semantics.specs.Inquiry.{Inquiry}
use Rattle.fisca_key_semantics.proofs.Runs.{ends_stays}
use Rattle.fisca_key_semantics.proofs.Fuel.{within_zero, at_known, at_refused, stays, definite_stays, falls}

definite_or_not : (r : Result Value Halt) → IsDefinite r ⊎ (IsDefinite r → ⊥)
definite_or_not (Ok v) = inl tt
definite_or_not (Err (fault f)) = inl tt
definite_or_not (Err (out c)) = inr (λ d. d)

module _ (src : Sources) where
  -- two definite answers are one
  pub same_answer : (n m : ℕ) (k : Key) → IsDefinite (value_within src n k) → IsDefinite (value_within src m k) → value_within src n k ≡ value_within src m k
  same_answer n m k a b = ⊎_elim
      (λ (lt : n < m). sym (stays src n m (omega arith) k a))
      (λ (ge : m ≤ n). stays src m n ge k b)
      (cases_lt n m)

  -- two definite runs ask for the same keys
  pub same_asked : (n m : ℕ) (d : Inquiry) → IsDefinite (outcome (value_within src n) d) → IsDefinite (outcome (value_within src m) d) → asked (value_within src n) d ≡ asked (value_within src m) d
  same_asked n m d a b = ⊎_elim
      (λ (lt : n < m). sym (ends_stays (value_within src n) (value_within src m) (stays src n m (omega arith)) d a).1)
      (λ (ge : m ≤ n). (ends_stays (value_within src m) (value_within src n) (stays src m n ge) d b).1)
      (cases_lt n m)

  -- a key that is not worked out has height 1
  pub known_height : (key : Key) (v : Value) → src key ≡ known v → IsHeight src key 1
  known_height key v e = record {
    enough = rw (at_known src zero key v e) tt;
    least = λ m h. below m h;
  }
    where
      below : (m : ℕ) → IsDefinite (value_within src m key) → 1 ≤ m
      below zero h = absurd (rw (within_zero src key, e) at h)
      below (suc m) h = omega arith

  -- one whose period does not fit has height 0
  pub refused_height : (key : Key) → src key ≡ refused → IsHeight src key 0
  refused_height key e = record {
    enough = rw (at_refused src zero key e) tt;
    least = λ m h. omega arith;
  }

  -- A definite answer has a height.
  pub height_of : (n : ℕ) (key : Key) → IsDefinite (value_within src n key) → (h : ℕ) × IsHeight src key h
  height_of zero key def = (zero, record { enough = def; least = λ m h. omega arith })
  height_of (suc n) key def = ⊎_elim
      (λ (less : IsDefinite (value_within src n key)). height_of n key less)
      (λ (undecided : IsDefinite (value_within src n key) → ⊥). (
        suc n,
        record {
          enough = def;
          least = λ m h. ⊎_elim
              (λ (lt : n < m). omega (arith, lt))
              (λ (le : m ≤ n). absurd (undecided (definite_stays src m n le key h)))
              (cases_lt n m);
        },
      ))
      (definite_or_not (value_within src n key))

  -- What a key asks for is less high.
  pub height_falls : (k j : Key) → AsksFor src k j → (h : ℕ) → IsHeight src k h → (i : ℕ) × IsHeight src j i × (i < h)
  height_falls k j a h height =
      let below = falls src k j a h height.enough in
      let found = height_of below.0 j below.2 in
      let least : found.0 ≤ below.0 = found.1.least below.0 below.2 in
      (found.0, found.1, omega (arith, below.1, least))
