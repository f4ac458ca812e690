-- What stands at a place of entries with distinct keys, and what is found once it is written over.
use Rattle.std.proofs.Common.{◌≡◌, ℕ, zero, suc, ◌<◌, length, arith, Bool, true, false, cond, List, [], ◌∷◌, slice_get, Option, Some, is_some, if◌then◌else◌, refl, sym, ap, ◌∙◌}
use Rattle.std.specs.List.{AllByRecursion}
use Rattle.std.specs.Map.{keys_of, lookup, set_value}
use Rattle.std.specs.Option.{option_map_or}
use Rattle.std.proofs.lemmas.Bool.{false≢true}
use Rattle.std.proofs.lemmas.Map.{lookup-set_value}
use Rattle.std.proofs.lemmas.Map.Keys.{IsDistinct-head, IsDistinct-tail}
use Rattle.indexmap.specs.IndexMap.{set_value_at}
use Rattle.fisca_inputs.specs.Entries.{same_key}
use Rattle.fisca_inputs.specs.Places.{AreOnce}
use Rattle.fisca_model.specs.contracts.key.KeyEq.TheImpl.Laws.{laws-law}
use Rattle.fisca_model.specs.declared.key.Key.{Key}

module _ {X : Type 0} where
  -- whether the key stands at the place
  abbrev pub stands : Key → List (Key × X) → ℕ → Bool
  stands key es i = option_map_or (same_key key) (slice_get (keys_of es) i) false

  own_stands : (key : Key) (es : List (Key × X)) (i : ℕ) → option_map_or (λ (e : Key × X). same_key key e.0) (slice_get es i) false ≡ stands key es i
  own_stands key [] i = refl
  own_stands key (e ∷ es) zero = refl
  own_stands key (e ∷ es) (suc i) = own_stands key es i

  -- it does where the entry there has the key
  pub entry_stands : (key : Key) (es : List (Key × X)) (i : ℕ) (o : Option (Key × X)) → o ≡ slice_get es i → option_map_or (λ (e : Key × X). same_key key e.0) o false ≡ stands key es i
  entry_stands key es i o is = ap (λ (o : Option (Key × X)). option_map_or (λ (e : Key × X). same_key key e.0) o false) is ∙ own_stands key es i

  -- what stands there has a place
  pub stands_within : (key : Key) (es : List (Key × X)) (i : ℕ) → stands key es i ≡ true → i < length es
  stands_within key [] i there = absurd (false≢true there)
  stands_within key (e ∷ es) zero there = omega arith
  stands_within key (e ∷ es) (suc i) there = let rest = stands_within key es i there in omega arith

  -- and is found
  stands_some : (key : Key) (es : List (Key × X)) (i : ℕ) → stands key es i ≡ true → is_some (lookup (same_key key) es) ≡ true
  stands_some key [] i there = there
  stands_some key (e ∷ es) zero there = ap (λ b. is_some (cond b (Some e.1) (lookup (same_key key) es))) there
  stands_some key (e ∷ es) (suc i) there = by (same_key key e.0) (stands_some key es i there)
    where
      by : (b : Bool) → is_some (lookup (same_key key) es) ≡ true → is_some (cond b (Some e.1) (lookup (same_key key) es)) ≡ true
      by true rest = refl
      by false rest = rest

  -- a key that is apart from all is not that which stands at a place
  apart : (key q : Key) (es : List (Key × X)) (i : ℕ) → AllByRecursion (λ y. same_key q y ≡ false) (keys_of es) → stands key es i ≡ true → same_key key q ≡ false
  apart key q [] i all there = absurd (false≢true there)
  apart key q (e ∷ es) zero all there = laws-law.congr key e.0 q there ∙ laws-law.symm e.0 q ∙ all.0
  apart key q (e ∷ es) (suc i) all there = apart key q es i all.1 there

  -- no earlier entry is of the key
  pub not_first : (key : Key) (e : Key × X) (es : List (Key × X)) (i : ℕ) → AreOnce (e ∷ es) → stands key es i ≡ true → same_key key e.0 ≡ false
  not_first key e es i once there = apart key e.0 es i (IsDistinct-head same_key e.0 (keys_of es) once) there

  -- the test of a put asks for the keys in the other order
  pub put_seen : (key : Key) (x : X) (k : Key) (y : Option X) → cond (same_key key k) (Some x) y ≡ (if same_key k key then Some x else y)
  put_seen key x k y = by (same_key key k) (same_key k key) (laws-law.symm key k)
    where
      by : (a b : Bool) → a ≡ b → cond a (Some x) y ≡ (if b then Some x else y)
      by true true e = refl
      by true false e = absurd (false≢true (sym e))
      by false true e = absurd (false≢true e)
      by false false e = refl

  module _ (key : Key) (x : X) where
    -- the value of the key is set
    pub set_seen : (es : List (Key × X)) → is_some (lookup (same_key key) es) ≡ true → (k : Key) → lookup (same_key k) (set_value (same_key key) es x) ≡ (if same_key k key then Some x else lookup (same_key k) es)
    set_seen es some k = lookup-set_value laws-law (same_key key) (λ y z same. laws-law.congr key y z same) k x es some ∙ put_seen key x k (lookup (same_key k) es)

    -- it is set at the place where the key stands
    pub set_there : (es : List (Key × X)) (i : ℕ) → AreOnce es → stands key es i ≡ true → set_value_at es i x ≡ set_value (same_key key) es x
    set_there [] i once there = refl
    set_there (e ∷ es) zero once there = sym (ap (λ b. cond b ((e.0, x) ∷ es) (e ∷ set_value (same_key key) es x)) there)
    set_there (e ∷ es) (suc i) once there =
        ap (λ fs. e ∷ fs) (set_there es i (IsDistinct-tail same_key e.0 (keys_of es) once) there)
        ∙ sym (ap (λ b. cond b ((e.0, x) ∷ es) (e ∷ set_value (same_key key) es x)) (not_first key e es i once there))

    pub put_there : (es : List (Key × X)) (i : ℕ) → AreOnce es → stands key es i ≡ true → (k : Key) → lookup (same_key k) (set_value_at es i x) ≡ (if same_key k key then Some x else lookup (same_key k) es)
    put_there es i once there k = ap (lookup (same_key k)) (set_there es i once there) ∙ set_seen es (stands_some key es i there) k
