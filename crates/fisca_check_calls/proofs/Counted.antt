-- Counting up to the limits.
use Rattle.std.proofs.Common.{◌≡◌, ◌∙◌, sym, ℕ, suc, ◌+◌, min, max, nat_le, List, [], ◌∷◌, Bool, true, false, ◌&&◌, if◌then◌else◌, Some, None, refl, ap, arith}
use Rattle.std.proofs.lemmas.Bool.{and_parts}
use Rattle.fisca_ast.specs.Tree.{Argument}
use Rattle.fisca_ast.specs.Views.{series_of}
use Rattle.fisca_typing.specs.Sizes.{Size, Sized, none, beside, above, capped, size_all, size_in, is_small}

abbrev of : ℕ → ℕ → Size
of h n = record { height = h; nodes = n }

alike : {h k m n : ℕ} → h ≡ k → m ≡ n → of h m ≡ of k n
alike p q = λ i. of (p i) (q i)

sum-counted : (c m n : ℕ) → min (min m c + min n c) c ≡ min (m + n) c
sum-counted c m n = grind arith

-- What is counted of parts, each counted up to the limits

more-counted : (c n : ℕ) → min (suc (min n (suc c))) (suc c) ≡ min (suc n) (suc c)
more-counted c n = grind arith

highest-counted : (c m n : ℕ) → min (max (min m c) (min n c)) c ≡ min (max m n) c
highest-counted c m n = grind arith

above-capped : (s : Size) → capped (above (capped s)) ≡ capped (above s)
above-capped s = alike (more-counted 120 s.height) (more-counted 20_000 s.nodes)

beside-capped : (a b : Size) → capped (beside (capped a) (capped b)) ≡ capped (beside a b)
beside-capped a b = alike (highest-counted 121 a.height b.height) (sum-counted 20_001 a.nodes b.nodes)

pub above_of : (r i s : Size) → r ≡ capped (above i) → i ≡ capped s → r ≡ capped (above s)
above_of r i s p q = p ∙ ap (λ x. capped (above x)) q ∙ above-capped s

pub beside_of : (r i j a b : Size) → r ≡ capped (beside i j) → i ≡ capped a → j ≡ capped b → r ≡ capped (beside a b)
beside_of r i j a b p q h = p ∙ (λ t. capped (beside (q t) (h t))) ∙ beside-capped a b

-- Arguments side by side

abbrev pub all_in : List Sized → List Argument → Size
all_in ls [] = none
all_in ls (a ∷ xs) = beside (size_in ls a) (all_in ls xs)

higher-none : (n : ℕ) → max n 0 ≡ n
higher-none n = grind arith

more-none : (n : ℕ) → n + 0 ≡ n
more-none n = grind arith

beside_none : (a : Size) → beside a none ≡ a
beside_none a = alike (higher-none a.height) (more-none a.nodes)

series-alone : (ls : List Sized) (m : Bool) (a : Argument) → size_all ls (series_of m (a ∷ [])) ≡ all_in ls (a ∷ [])
series-alone ls true a = refl
series-alone ls false a = sym (beside_none (size_in ls a))

pub series_counted : (ls : List Sized) (m : Bool) (xs : List Argument) → size_all ls (series_of m xs) ≡ all_in ls xs
series_counted ls m [] = refl
series_counted ls m (a ∷ []) = series-alone ls m a
series_counted ls m (a ∷ b ∷ xs) = ap (beside (size_in ls a)) (series_counted ls m (b ∷ xs))

-- none is left
pub last_counted : (ls : List Sized) (m : Bool) (xs : List Argument) (f : Size) → capped (all_in ls xs) ≡ capped (beside f none) → capped f ≡ f →
    f ≡ capped (size_all ls (series_of m xs))
last_counted ls m xs f h p = sym (ap capped (series_counted ls m xs) ∙ h ∙ ap capped (beside_none f) ∙ p)

-- Within the limits

within : (n c : ℕ) → nat_le n c ≡ true → min n (suc c) ≡ n
within n c h = grind arith

pub small_capped : (s : Size) → is_small s ≡ true → capped s ≡ s
small_capped s h =
    let parts = and_parts (nat_le s.height 120) (nat_le s.nodes 20_000) h in
    alike (within s.height 120 parts.0) (within s.nodes 20_000 parts.1)

le-counted : (n c : ℕ) → nat_le (min n (suc c)) c ≡ nat_le n c
le-counted n c = grind arith

small-alike : (s : Size) → is_small (capped s) ≡ is_small s
small-alike s = λ i. le-counted s.height 120 i && le-counted s.nodes 20_000 i

by-size : (b : Bool) (s : Size) → is_small s ≡ b → (if is_small s then Some s else None) ≡ (if b then Some s else None)
by-size b s h = ap (λ c. if c then Some s else None) h

pub small_size : (r s : Size) → r ≡ capped s → is_small r ≡ true → Some r ≡ (if is_small s then Some s else None)
small_size r s e h =
    let small : is_small s ≡ true = sym (small-alike s) ∙ ap is_small (sym e) ∙ h in
    ap Some (e ∙ small_capped s small) ∙ sym (by-size true s small)

pub large_size : (r s : Size) → r ≡ capped s → is_small r ≡ false → None ≡ (if is_small s then Some s else None)
large_size r s e h =
    let large : is_small s ≡ false = sym (small-alike s) ∙ ap is_small (sym e) ∙ h in
    sym (by-size false s large)
