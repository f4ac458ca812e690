-- A list of keys with one more.
use Rattle.std.proofs.Common.{◌≡◌, ◌∙◌, ◌∷◌, ◌++◌, ◌||◌, [], Bool, true, false, List, Option, Some, None, if◌then◌else◌, ap, is_some, option_map, refl}
use Rattle.fisca_key_semantics.specs.Keys.{has, same_key}
use Rattle.fisca_memo_theory.specs.Entries.{Entry}
use Rattle.fisca_model.specs.Values.{Key}

or_assoc : (a b c : Bool) → a || (b || c) ≡ (a || b) || c
or_assoc true b c = refl
or_assoc false b c = refl

or_swap : (a b : Bool) → a || b ≡ b || a
or_swap true true = refl
or_swap true false = refl
or_swap false true = refl
or_swap false false = refl

pub has_more : (before : List Key) (key k : Key) → has (before ++ key ∷ []) k ≡ same_key key k || has before k
has_more [] key k = refl
has_more (x ∷ xs) key k =
    ap (λ b. same_key x k || b) (has_more xs key k) ∙ or_assoc (same_key x k) (same_key key k) (has xs k)
    ∙ ap (λ b. b || has xs k) (or_swap (same_key x k) (same_key key k)) ∙ back (same_key key k) (same_key x k) (has xs k)
  where
    back : (a b c : Bool) → (a || b) || c ≡ a || (b || c)
    back true b c = refl
    back false b c = refl

-- what is there with one entry more
pub some_more : (b : Bool) (e : Entry) (o : Option Entry) → is_some (if b then Some e else o) ≡ b || is_some o
some_more true e o = refl
some_more false e o = refl

-- what is seen of something is there where it is
pub some_mapped : {A B : Type 0} (f : A → B) (o : Option A) → is_some (option_map f o) ≡ is_some o
some_mapped f None = refl
some_mapped f (Some x) = refl
