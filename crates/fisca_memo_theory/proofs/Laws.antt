-- Laws of heights, works and reads.
use Rattle.std.proofs.Common.{◌≡◌, ℕ, zero, suc, ◌<◌, ◌≤◌, List, Ok, sym, ap, ◌∙◌, arith, ⊎_elim}
use Rattle.std.specs.Prelude.{◌↔◌}
use Rattle.fisca_model.specs.Values.{Value, Key}
use Rattle.fisca_key_semantics.specs.Answers.{Sources, formula, at_once, value_within}
use Rattle.fisca_key_semantics.specs.Chains.{IsDefinite, IsHeight, AsksFor, PathFrom, asked}
use Rattle.fisca_key_semantics.specs.Keys.{In}
use Rattle.fisca_key_semantics.proofs.Fuel.{within_zero, stays, falls}
use Rattle.fisca_key_semantics.proofs.Paths.{never_loops}
use Rattle.fisca_memo_theory.specs.Memory.{HasFormula}
use Rattle.fisca_memo_theory.specs.Reads.{ReadsAt}
use Rattle.fisca_memo_theory.specs.Work.{IsWork}
use Rattle.fisca_memo_theory.proofs.Growing.{value_work}
use Rattle.fisca_memo_theory.proofs.Turned.{reads_same}

module _ (src : Sources) where
  pub value_from_height : (k : Key) (h : ℕ) (v : Value) → IsHeight src k h → value_within src h k ≡ Ok v → (n : ℕ) → (value_within src n k ≡ Ok v) ↔ (h ≤ n)
  value_from_height k h v height e n = (λ a. height.least n (rw a tt), λ le. stays src h n le k height.enough ∙ e)

  pub heights_fall : (k j : Key) (h i : ℕ) → AsksFor src k j → IsHeight src k h → IsHeight src j i → i < h
  heights_fall k j h i a height below =
      let down = falls src k j a h height.enough in
      let le : i ≤ down.0 = below.least down.0 down.2 in
      omega (arith, le, down.1)

  pub never_of_itself : (k : Key) (ks : List Key) → PathFrom src k ks → In k ks → (n : ℕ) → IsDefinite (value_within src n k) → ⊥
  never_of_itself k ks p i n d = never_loops src k ks p i n d

  pub work_of_itself : (n : ℕ) (k : Key) (v : Value) → HasFormula src k → value_within src n k ≡ Ok v → IsWork src n k k
  work_of_itself zero k v f a = let none : at_once (formula f.0) k ≡ Ok v = ap (λ s. at_once s k) (sym f.1) ∙ sym (within_zero src k) ∙ a in cc
  work_of_itself (suc n) k v f a = value_work src n k v f.0 f.1 a

  pub work_is_worked_out : (n : ℕ) (key k : Key) → IsWork src n key k → HasFormula src k × ((v : Value) × (value_within src n k ≡ Ok v))
  unfolding IsWork
  work_is_worked_out zero key k w = absurd w
  work_is_worked_out (suc n) key k w = ⊎_elim
      (λ (a : (j : Key) × In j (asked (value_within src n) w.0) × IsWork src n j k).
      let below = work_is_worked_out n a.0 k a.2 in
      (below.0, (below.1.0, stays src n (suc n) (omega arith) k (rw below.1.1 tt) ∙ below.1.1)))
      (λ (b : (k ≡ key) × ((v : Value) × (value_within src (suc n) key ≡ Ok v))).
      ((w.0, ap src b.0 ∙ w.1), (b.1.0, ap (value_within src (suc n)) b.0 ∙ b.1.1)))
      w.2

  pub reads_any_fuel : (moves : Key → Type 0) (n m : ℕ) (key : Key) → IsDefinite (value_within src n key) → IsDefinite (value_within src m key) → ReadsAt moves src n key ↔ ReadsAt moves src m key
  reads_any_fuel moves n m key a b = (λ r. reads_same moves src m n key b r, λ r. reads_same moves src n m key a r)
