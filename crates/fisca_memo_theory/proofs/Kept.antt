-- What a turned wheel leaves: keys that do not read it keep their answers and heights.
use Rattle.std.proofs.Common.{◌≡◌, inl, inr, ℕ, zero, suc, ◌<◌, ◌≤◌, refl, sym, ap, subst, ◌∙◌, arith, ⊎_elim}
use Rattle.std.proofs.lemmas.Bool.{cases_lt}
use Rattle.fisca_model.specs.Values.{Value, Key}
use Rattle.fisca_key_semantics.specs.Answers.{Source, Sources, refused, known, formula, outcome, through, at_once, value_within}
use Rattle.fisca_key_semantics.specs.Chains.{IsDefinite, asked}
use Rattle.fisca_key_semantics.specs.Keys.{In}
use Rattle.fisca_key_semantics.proofs.Runs.{ends_same, asked_definite, asked_stays}
use Rattle.fisca_key_semantics.proofs.Fuel.{within_zero, at_formula, at_known, at_refused, through_definite, stays}
use Rattle.fisca_memo_theory.specs.Memory.{IsKnown}
use Rattle.fisca_memo_theory.specs.Reads.{ReadsAt}

module _ (moves : Key → Type 0) (src src' : Sources) (same : (k : Key) → (moves k → ⊥) → src' k ≡ src k) where
  -- The answer stays.
  pub answer_kept : (n : ℕ) (key : Key) → IsDefinite (value_within src n key) → (ReadsAt moves src n key → ⊥) → value_within src' n key ≡ value_within src n key
  unfolding ReadsAt
  answer_kept zero key def free = within_zero src' key ∙ ap (λ s. at_once s key) (same key free) ∙ sym (within_zero src key)
  answer_kept (suc n) key def free = by_source (answer_kept n) (src key) refl
    where
      still : src' key ≡ src key
      still = same key (λ m. free (inl m))

      by_source : ((k : Key) → IsDefinite (value_within src n k) → (ReadsAt moves src n k → ⊥) → value_within src' n k ≡ value_within src n k) → (s : Source) → src key ≡ s → value_within src' (suc n) key ≡ value_within src (suc n) key
      by_source ih refused e = at_refused src' (suc n) key (still ∙ e) ∙ sym (at_refused src (suc n) key e)
      by_source ih (known v) e = at_known src' n key v (still ∙ e) ∙ sym (at_known src n key v e)
      by_source ih (formula d) e =
          let run : IsDefinite (outcome (value_within src n) d) = through_definite key _ (subst IsDefinite (at_formula src n key d e) def) in
          let one = ends_same (value_within src n) (value_within src' n) d (λ k i. ih k (asked_definite (value_within src n) d run k i) (λ r. free (inr (d, e, k, i, r)))) in
          at_formula src' n key d (still ∙ e) ∙ ap (through key) one.0 ∙ sym (at_formula src n key d e)

  -- What the key reads stays.
  pub reads_kept : (n : ℕ) (key : Key) → IsDefinite (value_within src n key) → (ReadsAt moves src n key → ⊥) → ReadsAt moves src' n key → ⊥
  unfolding ReadsAt
  reads_kept zero key def free r = free r
  reads_kept (suc n) key def free (inl m) = free (inl m)
  reads_kept (suc n) key def free (inr r) =
      let e : src key ≡ formula r.0 = sym (same key (λ m. free (inl m))) ∙ r.1 in
      let run : IsDefinite (outcome (value_within src n) r.0) = through_definite key _ (subst IsDefinite (at_formula src n key r.0 e) def) in
      let one = ends_same (value_within src n) (value_within src' n) r.0 (λ k i. answer_kept n k (asked_definite (value_within src n) r.0 run k i) (λ q. free (inr (r.0, e, k, i, q)))) in
      let asks : In r.2 (asked (value_within src n) r.0) = subst (In r.2) one.1 r.3 in
      reads_kept n r.2 (asked_definite (value_within src n) r.0 run r.2 asks) (λ q. free (inr (r.0, e, r.2, asks, q))) r.4

-- With more fuel no less is read.
pub reads_grow : (moves : Key → Type 0) (src : Sources) (n m : ℕ) (key : Key) → n ≤ m → ReadsAt moves src n key → ReadsAt moves src m key
unfolding ReadsAt
reads_grow moves src zero zero key le r = r
reads_grow moves src zero (suc m) key le r = inl r
reads_grow moves src (suc n) zero key le r = absurd (omega arith)
reads_grow moves src (suc n) (suc m) key le (inl r) = inl r
reads_grow moves src (suc n) (suc m) key le (inr r) =
    let less : n ≤ m = omega arith in
    inr (r.0, r.1, r.2, asked_stays (value_within src n) (value_within src m) (stays src n m less) r.0 r.2 r.3, reads_grow moves src n m r.2 less r.4)

module _ (moves : Key → Type 0) (src src' : Sources) (same : (k : Key) → (moves k → ⊥) → src' k ≡ src k) where
  -- An entry that doesn't read what moved is true afterwards: its value and its height.
  pub entry_kept : (key : Key) (v : Value) (h : ℕ) → IsKnown src h key v h → (ReadsAt moves src h key → ⊥) → IsKnown src' h key v h
  entry_kept key v h k free = record {
    answers = kept ∙ k.answers;
    height_is = record {
      enough = rw (kept, k.answers) tt;
      least = λ m def. ⊎_elim
          (λ (lt : m < h).
          let free' : ReadsAt moves src' m key → ⊥ = λ r. reads_kept moves src src' same h key def_h free (reads_grow moves src' m h key (omega arith) r) in
          let back : value_within src m key ≡ value_within src' m key = answer_kept moves src' src (λ j f. sym (same j f)) m key def free' in
          k.height_is.least m (rw back def))
          (λ (ge : h ≤ m). ge)
          (cases_lt m h);
    };
  }
    where
      def_h : IsDefinite (value_within src h key)
      def_h = k.height_is.enough

      kept : value_within src' h key ≡ value_within src h key
      kept = answer_kept moves src src' same h key k.height_is.enough free

  -- What it reads of another wheel stays too.
  pub other_reads_kept : (others : Key → Type 0) (n : ℕ) (key : Key) → IsDefinite (value_within src n key) → (ReadsAt moves src n key → ⊥) → ReadsAt others src n key → ReadsAt others src' n key
  unfolding ReadsAt
  other_reads_kept others zero key def free r = r
  other_reads_kept others (suc n) key def free (inl m) = inl m
  other_reads_kept others (suc n) key def free (inr r) =
      let e : src key ≡ formula r.0 = r.1 in
      let run : IsDefinite (outcome (value_within src n) r.0) = through_definite key _ (subst IsDefinite (at_formula src n key r.0 e) def) in
      let one = ends_same (value_within src n) (value_within src' n) r.0 (λ k i. answer_kept moves src src' same n k (asked_definite (value_within src n) r.0 run k i) (λ q. free (inr (r.0, e, k, i, q)))) in
      let asks : In r.2 (asked (value_within src' n) r.0) = subst (In r.2) (sym one.1) r.3 in
      inr (r.0, same key (λ m. free (inl m)) ∙ e, r.2, asks, other_reads_kept others n r.2 (asked_definite (value_within src n) r.0 run r.2 r.3) (λ q. free (inr (r.0, e, r.2, r.3, q))) r.4)
