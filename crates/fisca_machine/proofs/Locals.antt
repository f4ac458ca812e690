-- What a local says: its node, over the locals before it.
use Rattle.std.proofs.Common.{◌≡◌, ℕ, zero, suc, ◌<◌, ◌≤◌, List, Some, None, eq-eqb, ne_eqb, refl, sym, subst, arith, ⊎_elim, slice_get}
use Rattle.std.proofs.lemmas.Bool.{cases_eq}
use Rattle.fisca_key_semantics.specs.Dialogues.{stuck}
use Rattle.fisca_model.specs.Groups.{Groups, Point}
use Rattle.fisca_ir.specs.Views.{node}
use Rattle.fisca_ir.specs.declared.node.Node.{Node}
use Rattle.fisca_model.specs.Tables.{Tables}
use Rattle.fisca_ops.specs.Ended.{IsMoving}
use Rattle.fisca_machine.specs.declared.pending.Frame.{Frame}
use Rattle.fisca_machine.specs.Running.{After, says, says_below, says_or}
use Rattle.fisca_machine.specs.Weights.{weight, weight_below, weight_or}

module _ (c : Tables) (g : Groups) (ns : List Node) where
  pub below_past : (n i : ℕ) (p : Point) (k : After) → n ≤ i → says_below c g ns n i p k ≡ stuck
  unfolding says_below
  below_past zero i p k h = refl
  below_past (suc n) i p k h =
      let d : i ≡ n → ⊥ = omega (arith, h) in
      let h' : n ≤ i = omega (arith, h) in
      rw (ne_eqb i n d) (below_past n i p k h')

  pub below_at : (n i : ℕ) (p : Point) (k : After) → i < n → says_below c g ns n i p k ≡ says_or c g (says_below c g ns i) (slice_get ns i) p k
  unfolding says_below
  below_at zero i p k h = absurd (omega (arith, h))
  below_at (suc n) i p k h = ⊎_elim
      (λ (e : i ≡ n). rw (eq-eqb i n e) (subst (λ j. says_or c g (says_below c g ns n) (slice_get ns n) p k ≡ says_or c g (says_below c g ns j) (slice_get ns j) p k) (sym e) refl))
      (λ (d : i ≡ n → ⊥). let h' : i < n = omega (arith, h, d) in rw (ne_eqb i n d) (below_at n i p k h'))
      (cases_eq i n)

  pub local_seen : (n i : ℕ) (p : Point) (k : After) → IsMoving (says_below c g ns n i p k) → n ≤ i → ⊥
  local_seen n i p k m h = rw (below_past n i p k h) at m

  pub local_stands : (n i : ℕ) (p : Point) (k : After) → IsMoving (says_below c g ns n i p k) → i < n → slice_get ns i ≡ None → ⊥
  local_stands n i p k m h e = rw (below_at n i p k h, e) at m

  pub local_same : (n i : ℕ) (p : Point) (k : After) (l : Node) → i < n → slice_get ns i ≡ Some l → says c g (says_below c g ns i) (node l) p k ≡ says_below c g ns n i p k
  local_same n i p k l h e = rw (below_at n i p k h, e) refl

module _ (g : Groups) (f : Frame) (ns : List Node) where
  pub weight_at : (n i : ℕ) → i < n → weight_below g f ns n i ≡ weight_or g f (weight_below g f ns i) (slice_get ns i)
  unfolding weight_below
  weight_at zero i h = absurd (omega (arith, h))
  weight_at (suc n) i h = ⊎_elim
      (λ (e : i ≡ n). rw (eq-eqb i n e) (subst (λ j. weight_or g f (weight_below g f ns n) (slice_get ns n) ≡ weight_or g f (weight_below g f ns j) (slice_get ns j)) (sym e) refl))
      (λ (d : i ≡ n → ⊥). let h' : i < n = omega (arith, h, d) in rw (ne_eqb i n d) (weight_at n i h'))
      (cases_eq i n)

  pub local_lighter : (n i : ℕ) (l : Node) → i < n → slice_get ns i ≡ Some l → weight_below g f ns n i ≡ weight g f (weight_below g f ns i) (node l)
  local_lighter n i l h e = rw (weight_at n i h, e) refl
