-- Names among others.
use Rattle.std.proofs.Common.{◌≡◌, refl, ℕ, List, [], ◌∷◌, Bool, true, false, ◌||◌, ◌&&◌, nat_eq, if◌then◌else◌, arith}
use Rattle.std.proofs.lemmas.Bool.Decides.{nat_tests}
use Rattle.std.specs.List.{list_any}
use Rattle.std.specs.Str.{bytes_eq}
use Rattle.fisca_attributes.specs.Values.{is_among}

nat-like : (m n : ℕ) → nat_eq m n ≡ nat_eq n m
nat-like m n = grind (arith, nat_tests)

bytes-like : (s t : List ℕ) → bytes_eq s t ≡ bytes_eq t s
bytes-like [] [] = refl
bytes-like [] (b ∷ t) = refl
bytes-like (a ∷ s) [] = refl
bytes-like (a ∷ s) (b ∷ t) = λ i. nat-like a b i && bytes-like s t i

either : (b c : Bool) (rest more : Bool) → b ≡ c → rest ≡ more → (b || rest) ≡ (if c then true else more)
either true true rest more e h = refl
either true false rest more e h = cc
either false true rest more e h = cc
either false false rest more e h = h

pub among_like : (t : List ℕ) (ks : List (List ℕ)) → list_any (λ k. bytes_eq k t) ks ≡ is_among ks t
among_like t [] = refl
among_like t (k ∷ ks) = either (bytes_eq k t) (bytes_eq t k) _ _ (bytes-like k t) (among_like t ks)
