-- The first items of a list, and one more.
use Rattle.std.proofs.Common.{◌≡◌, ℕ, zero, suc, ◌+◌, List, [], ◌∷◌, ◌++◌, take, Some, slice_get, add-one, ap}

next_later : {X : Type 0} (xs : List X) (i : ℕ) (x : X) → slice_get xs i ≡ Some x → take (suc i) xs ≡ take i xs ++ x ∷ []
next_later [] zero x h = cc
next_later [] (suc i) x h = cc
next_later (y ∷ ys) zero x h = let same : y ≡ x = cc in ap (λ z. z ∷ []) same
next_later (y ∷ ys) (suc i) x h = ap (λ zs. y ∷ zs) (next_later ys i x h)

pub next_taken : {X : Type 0} (xs : List X) (i : ℕ) (x : X) → slice_get xs i ≡ Some x → take (i + 1) xs ≡ take i xs ++ x ∷ []
next_taken xs i x h = rw add-one (next_later xs i x h)
