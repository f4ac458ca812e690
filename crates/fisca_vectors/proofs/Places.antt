-- The steps of loops over places.
use Rattle.std.proofs.Common.{◌≡◌, ℕ, suc, ◌+◌, ◌<◌, ℤ, pos, ap, sym, ◌∙◌, List, [], ◌∷◌, ◌++◌, length, get_or, set, drop, add-one, append_assoc, Bool, true, false}
use Rattle.std.proofs.Math.Seq.{drop-cons}
use Rattle.fisca_vectors.specs.Vectors.{flag}
use Rattle.fisca_vectors.specs.Numerators.{at}
use Rattle.fisca_vectors.specs.Selected.{places_from, scattered}

pub place_taken : (i : ℕ) (flags : List Bool) (places : List ℕ) → i < length flags → flag flags i ≡ true → (places ++ i ∷ []) ++ places_from (i + 1) (drop (i + 1) flags) ≡ places ++ places_from i (drop i flags)
place_taken i flags places lt is =
    let e : drop i flags ≡ true ∷ drop (suc i) flags = drop-cons flags i false lt ∙ ap (λ b. b ∷ drop (suc i) flags) is in
    let f : places_from i (drop i flags) ≡ i ∷ places_from (suc i) (drop (suc i) flags) = ap (places_from i) e in
    rw (add-one i) (append_assoc places (i ∷ []) (places_from (suc i) (drop (suc i) flags)) ∙ ap (λ z. places ++ z) (sym f))

pub place_passed : (i : ℕ) (flags : List Bool) → i < length flags → flag flags i ≡ false → places_from (i + 1) (drop (i + 1) flags) ≡ places_from i (drop i flags)
place_passed i flags lt is =
    let e : drop i flags ≡ false ∷ drop (suc i) flags = drop-cons flags i false lt ∙ ap (λ b. b ∷ drop (suc i) flags) is in
    rw (add-one i) (sym (ap (places_from i) e))

pub scatter_step : (i : ℕ) (places : List ℕ) (ns out : List ℤ) → i < length places → i < length ns → scattered (drop (i + 1) places) (drop (i + 1) ns) (set out (get_or places i 0) (at ns i)) ≡ scattered (drop i places) (drop i ns) out
scatter_step i places ns out p q =
    rw (add-one i) (sym (ap (λ z. scattered z (drop i ns) out) (drop-cons places i 0 p) ∙ ap (λ z. scattered (get_or places i 0 ∷ drop (suc i) places) z out) (drop-cons ns i (pos 0) q)))
