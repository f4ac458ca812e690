-- Names of members, one after another.
use Rattle.std.proofs.Common.{◌≡◌, ◌∙◌, sym, ap, ℕ, zero, suc, ◌+◌, List, [], ◌∷◌, ◌++◌, Some, take, map, slice_get, add-one, Bor}
use Rattle.std.proofs.lemmas.List.{map-append}

take-next : {X : Type 0} (xs : List X) (i : ℕ) (x : X) → Some x ≡ slice_get xs i → take (suc i) xs ≡ take i xs ++ x ∷ []
take-next [] i x e = cc
take-next {X} (y ∷ xs) zero x e =
    let same : x ≡ y = cc in
    ap (λ (z : X). z ∷ []) (sym same)
take-next (y ∷ xs) (suc i) x e = ap (λ zs. y ∷ zs) (take-next xs i x e)

pub names_step : (old new : List (Bor (List ℕ))) (n : Bor (List ℕ)) (ms : List (List ℕ × List ℕ)) (i : ℕ) (p : List ℕ × List ℕ) →
    map (λ x. x.now) old ≡ map (λ m. m.0) (take i ms) → new ≡ old ++ n ∷ [] → Some p ≡ slice_get ms i → n.now ≡ p.0 → map (λ x. x.now) new ≡ map (λ m. m.0) (take (i + 1) ms)
names_step old new n ms i p h e f k =
    let whole : take (i + 1) ms ≡ take i ms ++ p ∷ [] = rw add-one (take-next ms i p f) in
    ap (map (λ x. x.now)) e ∙ map-append (λ x. x.now) old (n ∷ [])
    ∙ (λ t. h t ++ k t ∷ [])
    ∙ sym (map-append (λ m. m.0) (take i ms) (p ∷ [])) ∙ ap (map (λ m. m.0)) (sym whole)
