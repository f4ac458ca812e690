-- Sizes with locals put in.
use Rattle.std.proofs.Common.{◌≡◌, ◌∙◌, ℕ, suc, ◌+◌, min, max, ◌&&◌, nat_le, ◌∷◌, List, [], Bool, true, false, refl, ap, arith, if◌then◌else◌}
use Rattle.std.specs.Str.{bytes_eq}
use Rattle.fisca_ast.specs.Tree.{Tree, Series, Argument, name, number, text, bracketed, attribute, applied, prefixed, binary, compare, nothing, last, next, positional, keyword, entry, height, height_all, height_of}
use Rattle.fisca_typing.specs.Sizes.{Size, Sized, Written, beside, above, size_named, size_of, size_all, size_in, is_small, tree_named, put_in, put_in_all, put_in_one, all_sized, capped, all_capped, capped_size_of, capped_size_all, capped_size_in}

named-by : (b : Bool) (s : Size) (e : Tree) (r : Size) (f : Tree) → s ≡ size_of [] e → r ≡ size_of [] f → (if b then s else r) ≡ size_of [] (if b then e else f)
named-by true s e r f p q = p
named-by false s e r f p q = q

named-put_in : (ls : List Written) (t : List ℕ) → size_named (all_sized ls) t ≡ size_of [] (tree_named ls t)
named-put_in [] t = refl
named-put_in (l ∷ ls) t = named-by (bytes_eq l.name t) (size_of [] l.tree) l.tree (size_named (all_sized ls) t) (tree_named ls t) refl (named-put_in ls t)

beside_alike : {a b c d : Size} → a ≡ b → c ≡ d → beside a c ≡ beside b d
beside_alike p q = λ i. beside (p i) (q i)

mutual
  pub size-put_in : (ls : List Written) (e : Tree) → size_of (all_sized ls) e ≡ size_of [] (put_in ls e)
  size-put_in ls (name t) = named-put_in ls t
  size-put_in ls (number t) = refl
  size-put_in ls (text t) = refl
  size-put_in ls (bracketed b xs) = ap above (all-put_in ls xs)
  size-put_in ls (attribute e t) = ap above (size-put_in ls e)
  size-put_in ls (applied s f xs) = ap above (beside_alike (size-put_in ls f) (all-put_in ls xs))
  size-put_in ls (prefixed p e) = ap above (size-put_in ls e)
  size-put_in ls (binary o a b) = ap above (beside_alike (size-put_in ls a) (size-put_in ls b))
  size-put_in ls (compare o a b) = ap above (beside_alike (size-put_in ls a) (size-put_in ls b))

  all-put_in : (ls : List Written) (xs : Series) → size_all (all_sized ls) xs ≡ size_all [] (put_in_all ls xs)
  all-put_in ls nothing = refl
  all-put_in ls (last a) = in-put_in ls a
  all-put_in ls (next a xs) = beside_alike (in-put_in ls a) (all-put_in ls xs)

  in-put_in : (ls : List Written) (a : Argument) → size_in (all_sized ls) a ≡ size_in [] (put_in_one ls a)
  in-put_in ls (positional e) = size-put_in ls e
  in-put_in ls (keyword k e) = size-put_in ls e
  in-put_in ls (entry k e) = beside_alike (size-put_in ls k) (size-put_in ls e)

-- Counting up to the limits

abbrev of : ℕ → ℕ → Size
of h n = record { height = h; nodes = n }

alike : {h k m n : ℕ} → h ≡ k → m ≡ n → of h m ≡ of k n
alike p q = λ i. of (p i) (q i)

min-suc : (c n : ℕ) → min (suc (min n (suc c))) (suc c) ≡ min (suc n) (suc c)
min-suc c n = grind arith

min-sum : (c m n : ℕ) → min (min m c + min n c) c ≡ min (m + n) c
min-sum c m n = grind arith

min-max : (c m n : ℕ) → min (max (min m c) (min n c)) c ≡ min (max m n) c
min-max c m n = grind arith

capped-above : (a : Size) → capped (above (capped a)) ≡ capped (above a)
capped-above a = alike (min-suc 120 a.height) (min-suc 20_000 a.nodes)

capped-beside : (a b : Size) → capped (beside (capped a) (capped b)) ≡ capped (beside a b)
capped-beside a b = alike (min-max 121 a.height b.height) (min-sum 20_001 a.nodes b.nodes)

capped-above_of : (a b : Size) → a ≡ capped b → capped (above a) ≡ capped (above b)
capped-above_of a b p = ap (λ s. capped (above s)) p ∙ capped-above b

capped-beside_of : (a b c d : Size) → a ≡ capped b → c ≡ capped d → capped (beside a c) ≡ capped (beside b d)
capped-beside_of a b c d p q = (λ i. capped (beside (p i) (q i))) ∙ capped-beside b d

capped-by : (b : Bool) (s r u : Size) → r ≡ capped u → (if b then capped s else r) ≡ capped (if b then s else u)
capped-by true s r u p = refl
capped-by false s r u p = p

capped-named : (ls : List Sized) (t : List ℕ) → size_named (all_capped ls) t ≡ capped (size_named ls t)
capped-named [] t = refl
capped-named (l ∷ ls) t = capped-by (bytes_eq l.name t) l.size (size_named (all_capped ls) t) (size_named ls t) (capped-named ls t)

mutual
  pub capped-size : (ls : List Sized) (e : Tree) → capped_size_of (all_capped ls) e ≡ capped (size_of ls e)
  capped-size ls (name t) = capped-named ls t
  capped-size ls (number t) = refl
  capped-size ls (text t) = refl
  capped-size ls (bracketed b xs) = capped-above_of _ _ (capped-all ls xs)
  capped-size ls (attribute e t) = capped-above_of _ _ (capped-size ls e)
  capped-size ls (applied s f xs) = capped-above_of _ _ (capped-beside_of _ _ _ _ (capped-size ls f) (capped-all ls xs))
  capped-size ls (prefixed p e) = capped-above_of _ _ (capped-size ls e)
  capped-size ls (binary o a b) = capped-above_of _ _ (capped-beside_of _ _ _ _ (capped-size ls a) (capped-size ls b))
  capped-size ls (compare o a b) = capped-above_of _ _ (capped-beside_of _ _ _ _ (capped-size ls a) (capped-size ls b))

  capped-all : (ls : List Sized) (xs : Series) → capped_size_all (all_capped ls) xs ≡ capped (size_all ls xs)
  capped-all ls nothing = refl
  capped-all ls (last a) = capped-in ls a
  capped-all ls (next a xs) = capped-beside_of _ _ _ _ (capped-in ls a) (capped-all ls xs)

  capped-in : (ls : List Sized) (a : Argument) → capped_size_in (all_capped ls) a ≡ capped (size_in ls a)
  capped-in ls (positional e) = capped-size ls e
  capped-in ls (keyword k e) = capped-size ls e
  capped-in ls (entry k e) = capped-beside_of _ _ _ _ (capped-size ls k) (capped-size ls e)

capped-le : (n c : ℕ) → nat_le (min n (suc c)) c ≡ nat_le n c
capped-le n c = grind arith

pub capped-small : (a : Size) → is_small (capped a) ≡ is_small a
capped-small a = λ i. capped-le a.height 120 i && capped-le a.nodes 20_000 i

-- Without locals the height is that of the expression itself

mutual
  pub plain-height : (e : Tree) → (size_of [] e).height ≡ height e
  plain-height (name t) = refl
  plain-height (number t) = refl
  plain-height (text t) = refl
  plain-height (bracketed b xs) = ap suc (plain-all xs)
  plain-height (attribute e t) = ap suc (plain-height e)
  plain-height (applied s f xs) = λ i. suc (max (plain-height f i) (plain-all xs i))
  plain-height (prefixed p e) = ap suc (plain-height e)
  plain-height (binary o a b) = λ i. suc (max (plain-height a i) (plain-height b i))
  plain-height (compare o a b) = λ i. suc (max (plain-height a i) (plain-height b i))

  plain-all : (xs : Series) → (size_all [] xs).height ≡ height_all xs
  plain-all nothing = refl
  plain-all (last a) = plain-in a
  plain-all (next a xs) = λ i. max (plain-in a i) (plain-all xs i)

  plain-in : (a : Argument) → (size_in [] a).height ≡ height_of a
  plain-in (positional e) = plain-height e
  plain-in (keyword k e) = plain-height e
  plain-in (entry k e) = λ i. max (plain-height k i) (plain-height e i)
