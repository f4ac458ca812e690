-- The first of a list that passes a test, looked for from the front.
use Rattle.std.proofs.Common.{◌≡◌, ◌∙◌, ℕ, ◌+◌, ◌<◌, ap, sym, cond, Bool, true, false, List, drop, get_or, length, Option, Some}
use Rattle.std.specs.List.{position_from}
use Rattle.std.specs.Prelude.{slice_get}
use Rattle.std.proofs.lemmas.Option.{slice_get-get_or}
use Rattle.fisca_inputs.proofs.Steps.{drop_at}

-- the test of the one at this place, where it has this outcome
tested : {X : Type 0} (p : X → Bool) (xs : List X) (i : ℕ) (d : X) (t : Bool) → i < length xs → ((x : X) → slice_get xs i ≡ Some x → t ≡ p x)
    → position_from p i (drop i xs) ≡ cond t (Some i) (position_from p (i + 1) (drop (i + 1) xs))
tested p xs i d t within is =
    let at : slice_get xs i ≡ Some (get_or xs i d) = slice_get-get_or xs i d within in
    ap (position_from p i) (drop_at xs i (get_or xs i d) at) ∙ ap (λ b. cond b (Some i) (position_from p (i + 1) (drop (i + 1) xs))) (sym (is (get_or xs i d) at))

pub found_at : {X : Type 0} (p : X → Bool) (xs : List X) (i : ℕ) (d : X) (t : Bool) (first : Option ℕ) → first ≡ position_from p i (drop i xs) → i < length xs
    → ((x : X) → slice_get xs i ≡ Some x → t ≡ p x) → t ≡ true → first ≡ Some i
found_at p xs i d t first h within is passes = h ∙ tested p xs i d t within is ∙ ap (λ b. cond b (Some i) (position_from p (i + 1) (drop (i + 1) xs))) passes

pub not_found_at : {X : Type 0} (p : X → Bool) (xs : List X) (i : ℕ) (d : X) (t : Bool) (first : Option ℕ) → first ≡ position_from p i (drop i xs) → i < length xs
    → ((x : X) → slice_get xs i ≡ Some x → t ≡ p x) → t ≡ false → first ≡ position_from p (i + 1) (drop (i + 1) xs)
not_found_at p xs i d t first h within is fails = h ∙ tested p xs i d t within is ∙ ap (λ b. cond b (Some i) (position_from p (i + 1) (drop (i + 1) xs))) fails
