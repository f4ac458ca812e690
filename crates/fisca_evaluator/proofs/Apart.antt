-- A key is not of the work of what it asks for.
use Rattle.std.proofs.Common.{◌≡◌, ◌⊎◌, inl, inr, ℕ, zero, suc, List, [], ◌∷◌, Ok, sym, ⊎_elim}
use Rattle.fisca_model.specs.Values.{Value, Key}
use Rattle.fisca_key_semantics.specs.Answers.{Sources, value_within}
use Rattle.fisca_key_semantics.specs.Chains.{IsDefinite, AsksFor, PathFrom, asked}
use Rattle.fisca_key_semantics.specs.Keys.{In}
use Rattle.fisca_key_semantics.proofs.Paths.{never_loops}
use Rattle.fisca_memo_theory.specs.Work.{IsWork}
use Rattle.fisca_memo_theory.proofs.Laws.{work_is_worked_out}

module _ (src : Sources) where
  -- a key of a work is that of the work, or stands on a path from there
  work_path : (n : ℕ) (j k : Key) → IsWork src n j k → (k ≡ j) ⊎ ((js : List Key) × PathFrom src j js × In k js)
  unfolding IsWork
  work_path zero j k w = absurd w
  work_path (suc n) j k w = ⊎_elim
      (λ (a : (i : Key) × In i (asked (value_within src n) w.0) × IsWork src n i k).
      let asks : AsksFor src j a.0 = record { fuel = n; inquiry = w.0; is_formula = w.1; asks = a.1 } in
      ⊎_elim
      (λ (s : k ≡ a.0). inr (a.0 ∷ [], (asks, tt), inl (sym s)))
      (λ (p : (js : List Key) × PathFrom src a.0 js × In k js). inr (a.0 ∷ p.0, (asks, p.1), inr p.2))
      (work_path n a.0 k a.2))
      (λ (b : (k ≡ j) × ((v : Value) × (value_within src (suc n) j ≡ Ok v))). inl b.0)
      w.2

  pub apart : (n : ℕ) (key j : Key) → AsksFor src key j → IsWork src n j key → ⊥
  apart n key j asks w =
      let worked = work_is_worked_out src n j key w in
      let def : IsDefinite (value_within src n key) = rw worked.1.1 tt in
      ⊎_elim
      (λ (s : key ≡ j). never_loops src key (j ∷ []) (asks, tt) (inl (sym s)) n def)
      (λ (p : (js : List Key) × PathFrom src j js × In key js). never_loops src key (j ∷ p.0) (asks, p.1) (inr p.2) n def)
      (work_path n j key w)
