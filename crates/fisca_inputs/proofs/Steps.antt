-- One more step of what goes over keys, entries or inputs in order.
use Rattle.std.proofs.Common.{◌≡◌, ℕ, suc, ◌+◌, List, ◌∷◌, drop, drop-cons, Some, slice_get, sym, ap, ◌∙◌, add-one}
use Rattle.std.specs.Prelude.{Result, Ok, Err}
use Rattle.std.proofs.lemmas.Option.{slice_get_within, get_or_from_slice_get}
use Rattle.fisca_num.specs.Results.{and_then}

pub drop_at : {X : Type 0} (xs : List X) (i : ℕ) (x : X) → slice_get xs i ≡ Some x → drop i xs ≡ x ∷ drop (i + 1) xs
drop_at xs i x h =
    rw add-one (drop-cons xs i x (slice_get_within xs i x h) ∙ ap (λ y. y ∷ drop (suc i) xs) (get_or_from_slice_get xs i x x h))

-- over a step that may be refused
module _ {X S E : Type 0} (step : X → S → Result S E) (all : List X → S → Result S E)
    (one : (x : X) (xs : List X) (s : S) → all (x ∷ xs) s ≡ and_then (step x s) (all xs)) where
  pub goes_on : (xs : List X) (i : ℕ) (x : X) (s t : S) (whole : Result S E) → slice_get xs i ≡ Some x → step x s ≡ Ok t → all (drop i xs) s ≡ whole → all (drop (i + 1) xs) t ≡ whole
  goes_on xs i x s t whole at e h = sym (ap (λ r. and_then r (all (drop (i + 1) xs))) e) ∙ sym (one x (drop (i + 1) xs) s) ∙ sym (ap (λ ys. all ys s) (drop_at xs i x at)) ∙ h

  pub stops : (xs : List X) (i : ℕ) (x : X) (s : S) (f : E) (whole : Result S E) → slice_get xs i ≡ Some x → step x s ≡ Err f → all (drop i xs) s ≡ whole → whole ≡ Err f
  stops xs i x s f whole at e h = sym h ∙ ap (λ ys. all ys s) (drop_at xs i x at) ∙ one x (drop (i + 1) xs) s ∙ ap (λ r. and_then r (all (drop (i + 1) xs))) e
