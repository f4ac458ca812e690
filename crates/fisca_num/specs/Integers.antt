-- The laws of a ring, for integers.
use Rattle.std.proofs.Common.{◌≡◌, ℕ, zero, suc, ◌*◌, ℤ, pos, negsuc, neg_ℤ, ◌+ℤ◌, ◌-ℤ◌, ◌*ℤ◌, arith, ap, sym, ◌∙◌}
use Rattle.std.proofs.lemmas.Int.{ints}
use Rattle.std.proofs.Math.IntN.{suc_ℤ, pred_ℤ, suc_ℤ-+ℤ, pred_ℤ-+ℤ, suc_ℤ-*ℤ, pred_ℤ-*ℤ, zero-*ℤ, +ℤ_idl, *ℤ_comm, +ℤ_invl}

after_swap : (x y k : ℤ) → (x +ℤ y) +ℤ k ≡ (x +ℤ k) +ℤ y
after_swap x y k = omega (arith, ints)

less_swap : (x y k : ℤ) → (x +ℤ y) -ℤ k ≡ (x -ℤ k) +ℤ y
less_swap x y k = omega (arith, ints)

more : (x y k : ℤ) → (x +ℤ y) *ℤ k ≡ x *ℤ k +ℤ y *ℤ k → (suc_ℤ x +ℤ y) *ℤ k ≡ suc_ℤ x *ℤ k +ℤ y *ℤ k
more x y k h =
    ap (λ z. z *ℤ k) (suc_ℤ-+ℤ x y) ∙ suc_ℤ-*ℤ (x +ℤ y) k ∙ ap (λ z. z +ℤ k) h
    ∙ after_swap (x *ℤ k) (y *ℤ k) k ∙ ap (λ z. z +ℤ y *ℤ k) (sym (suc_ℤ-*ℤ x k))

fewer : (x y k : ℤ) → (x +ℤ y) *ℤ k ≡ x *ℤ k +ℤ y *ℤ k → (pred_ℤ x +ℤ y) *ℤ k ≡ pred_ℤ x *ℤ k +ℤ y *ℤ k
fewer x y k h =
    ap (λ z. z *ℤ k) (pred_ℤ-+ℤ x y) ∙ pred_ℤ-*ℤ (x +ℤ y) k ∙ ap (λ z. z -ℤ k) h
    ∙ less_swap (x *ℤ k) (y *ℤ k) k ∙ ap (λ z. z +ℤ y *ℤ k) (sym (pred_ℤ-*ℤ x k))

sum_times_pos : (n : ℕ) (y k : ℤ) → (pos n +ℤ y) *ℤ k ≡ pos n *ℤ k +ℤ y *ℤ k
sum_times_pos zero y k = ap (λ z. z *ℤ k) (+ℤ_idl y) ∙ sym (ap (λ z. z +ℤ y *ℤ k) (zero-*ℤ k) ∙ +ℤ_idl (y *ℤ k))
sum_times_pos (suc n) y k = more (pos n) y k (sum_times_pos n y k)

sum_times_negsuc : (n : ℕ) (y k : ℤ) → (negsuc n +ℤ y) *ℤ k ≡ negsuc n *ℤ k +ℤ y *ℤ k
sum_times_negsuc zero y k = fewer (pos zero) y k (sum_times_pos zero y k)
sum_times_negsuc (suc n) y k = fewer (negsuc n) y k (sum_times_negsuc n y k)

-- a sum times k
pub sum-times : (x y k : ℤ) → (x +ℤ y) *ℤ k ≡ x *ℤ k +ℤ y *ℤ k
sum-times (pos n) = sum_times_pos n
sum-times (negsuc n) = sum_times_negsuc n

negated : (x y : ℤ) → x +ℤ y ≡ pos 0 → x ≡ neg_ℤ y
negated x y h = omega (arith, ints)

pub neg-times : (y k : ℤ) → neg_ℤ y *ℤ k ≡ neg_ℤ (y *ℤ k)
neg-times y k = negated (neg_ℤ y *ℤ k) (y *ℤ k) (sym (sum-times (neg_ℤ y) y k) ∙ ap (λ z. z *ℤ k) (+ℤ_invl y) ∙ zero-*ℤ k)

-- a difference times k
pub difference-times : (x y k : ℤ) → (x -ℤ y) *ℤ k ≡ x *ℤ k -ℤ y *ℤ k
difference-times x y k = sum-times x (neg_ℤ y) k ∙ ap (λ z. x *ℤ k +ℤ z) (neg-times y k)

times_assoc_pos : (n : ℕ) (y z : ℤ) → (pos n *ℤ y) *ℤ z ≡ pos n *ℤ (y *ℤ z)
times_assoc_pos zero y z = ap (λ t. t *ℤ z) (zero-*ℤ y) ∙ zero-*ℤ z ∙ sym (zero-*ℤ (y *ℤ z))
times_assoc_pos (suc n) y z =
    ap (λ t. t *ℤ z) (suc_ℤ-*ℤ (pos n) y) ∙ sum-times (pos n *ℤ y) y z ∙ ap (λ t. t +ℤ y *ℤ z) (times_assoc_pos n y z) ∙ sym (suc_ℤ-*ℤ (pos n) (y *ℤ z))

one_fewer : (x y z : ℤ) → (x *ℤ y) *ℤ z ≡ x *ℤ (y *ℤ z) → (pred_ℤ x *ℤ y) *ℤ z ≡ pred_ℤ x *ℤ (y *ℤ z)
one_fewer x y z h =
    ap (λ t. t *ℤ z) (pred_ℤ-*ℤ x y) ∙ difference-times (x *ℤ y) y z ∙ ap (λ t. t -ℤ y *ℤ z) h ∙ sym (pred_ℤ-*ℤ x (y *ℤ z))

times_assoc_negsuc : (n : ℕ) (y z : ℤ) → (negsuc n *ℤ y) *ℤ z ≡ negsuc n *ℤ (y *ℤ z)
times_assoc_negsuc zero y z = one_fewer (pos zero) y z (times_assoc_pos zero y z)
times_assoc_negsuc (suc n) y z = one_fewer (negsuc n) y z (times_assoc_negsuc n y z)

pub times_assoc : (x y z : ℤ) → (x *ℤ y) *ℤ z ≡ x *ℤ (y *ℤ z)
times_assoc (pos n) = times_assoc_pos n
times_assoc (negsuc n) = times_assoc_negsuc n

-- the last two factors change places
pub times_swap : (x y z : ℤ) → (x *ℤ y) *ℤ z ≡ (x *ℤ z) *ℤ y
times_swap x y z = times_assoc x y z ∙ ap (λ t. x *ℤ t) (*ℤ_comm y z) ∙ sym (times_assoc x z y)

-- a product with two naturals
pub times_pos : (x : ℤ) (m n : ℕ) → (x *ℤ pos m) *ℤ pos n ≡ x *ℤ pos (m * n)
times_pos x m n = times_assoc x (pos m) (pos n)
