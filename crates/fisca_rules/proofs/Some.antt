-- Whether some item of a list passes a test.
use Rattle.std.proofs.Common.{◌≡◌, ℕ, suc, ◌+◌, ◌<◌, length, drop, get_or, add-one, List, [], ◌∷◌, ◌++◌, map, Bool, true, false, ◌&&◌, ◌||◌, refl, sym, ap, ◌∙◌}
use Rattle.std.proofs.Math.Seq.{drop-cons}
use Rattle.std.proofs.lemmas.List.Folds.{list_any-append}
use Rattle.std.specs.List.{list_any}
use Rattle.std.specs.Str.{bytes_eq}
use Rattle.std.specs.Cmp.Lexicographic.{nat_list_eq_equiv}

pub or_none : (a : Bool) → (a || false) ≡ a
or_none true = refl
or_none false = refl

pub or_later : (a b c : Bool) → ((a || b) || c) ≡ (a || (b || c))
or_later true b c = refl
or_later false b c = refl

pub or_turned : (a b : Bool) → (a || b) ≡ (b || a)
or_turned true true = refl
or_turned true false = refl
or_turned false true = refl
or_turned false false = refl

-- the second and the third change places
pub or_moved : (a b c d : Bool) → ((a || b) || (c || d)) ≡ ((a || c) || (b || d))
or_moved true b c d = refl
or_moved false b true d = or_turned b true
or_moved false b false d = refl

pub and_none : (a : Bool) → (a && false) ≡ false
and_none true = refl
and_none false = refl

pub and_shared : (a b c : Bool) → ((a && b) || (a && c)) ≡ (a && (b || c))
and_shared true b c = refl
and_shared false b c = refl

module _ {X : Type 0} where
  pub some_alike : (f g : X → Bool) (xs : List X) → ((x : X) → f x ≡ g x) → list_any f xs ≡ list_any g xs
  some_alike f g xs e = (λ i. list_any (λ x. e x i) xs)

  pub some_none : (xs : List X) → list_any (λ x. false) xs ≡ false
  some_none [] = refl
  some_none (x ∷ xs) = some_none xs

  pub some_or : (f g : X → Bool) (xs : List X) → list_any (λ x. f x || g x) xs ≡ (list_any f xs || list_any g xs)
  some_or f g [] = refl
  some_or f g (x ∷ xs) = ap (λ b. (f x || g x) || b) (some_or f g xs) ∙ or_moved (f x) (g x) (list_any f xs) (list_any g xs)

  pub some_and : (b : Bool) (f : X → Bool) (xs : List X) → list_any (λ x. b && f x) xs ≡ (b && list_any f xs)
  some_and b f [] = sym (and_none b)
  some_and b f (x ∷ xs) = ap (λ c. (b && f x) || c) (some_and b f xs) ∙ and_shared b (f x) (list_any f xs)

  pub some_seen : {Y : Type 0} (view : X → Y) (f : Y → Bool) (xs : List X) → list_any f (map view xs) ≡ list_any (λ x. f (view x)) xs
  some_seen view f [] = refl
  some_seen view f (x ∷ xs) = ap (λ b. f (view x) || b) (some_seen view f xs)

-- whichever list is gone through first
pub some_pair : {X Y : Type 0} (f : X → Y → Bool) (xs : List X) (ys : List Y) → list_any (λ x. list_any (f x) ys) xs ≡ list_any (λ y. list_any (λ x. f x y) xs) ys
some_pair f [] ys = sym (some_none ys)
some_pair f (x ∷ xs) ys = ap (λ b. list_any (f x) ys || b) (some_pair f xs ys) ∙ sym (some_or (f x) (λ y. list_any (λ z. f z y) xs) ys)

pub same_turned : (s t : List ℕ) → bytes_eq s t ≡ bytes_eq t s
same_turned s t = let laws = nat_list_eq_equiv in laws.symm s t

-- one more item
pub one_more : {X : Type 0} (f : X → Bool) (xs : List X) (x : X) (new old b : Bool) → new ≡ (b || old) → old ≡ list_any f xs → b ≡ f x → new ≡ list_any f (xs ++ x ∷ [])
one_more f xs x new old b after before same =
    after ∙ (λ i. same i || before i) ∙ or_turned (f x) (list_any f xs)
    ∙ ap (λ c. list_any f xs || c) (sym (or_none (f x))) ∙ sym (list_any-append f xs (x ∷ []))

-- what is left begins with the item at hand
pub left : {X : Type 0} (xs : List X) (i : ℕ) (x : X) → i < length xs → x ≡ get_or xs i x → drop i xs ≡ x ∷ drop (i + 1) xs
left {X} xs i x inside at = rw add-one (drop-cons xs i x inside ∙ ap (λ (y : X). y ∷ drop (suc i) xs) (sym at))
