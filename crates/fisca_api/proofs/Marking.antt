-- What stands at a place of a list that grows, and of one where something is put.
use Rattle.std.proofs.Common.{◌≡◌, ℕ, zero, suc, ◌<◌, ◌*◌, ◌%◌, ◌^◌, ◌==◌, ◌||◌, List, [], ◌∷◌, ◌++◌, length, Bool, true, false, refl, sym, ap, ap₂, ◌∙◌, if◌then◌else◌, arith}
use Rattle.std.specs.Int.Bits.{bit_or}
use Rattle.std.proofs.Math.Nat.{mod-eq_of_lt}
use Rattle.std.proofs.Math.Pow.{pow-lt}
use Rattle.std.proofs.Math.ListN.{get_or, set}
use Rattle.std.proofs.lemmas.Bool.{eqb-true, eq-eqb, true≢false}
use Rattle.std.proofs.lemmas.List.{get_or-set_same, get_or-set_other}
use Rattle.std.proofs.lemmas.Option.{unwrap_or-slice_get}
use Rattle.fisca_api.specs.Marks.{at_or, is_at, wheels_at, with_wheel}

module _ {X : Type 0} (nothing : X) where
  -- nothing more
  pub pushed : (xs : List X) (x : ℕ) → at_or nothing (xs ++ nothing ∷ []) x ≡ at_or nothing xs x
  pushed [] zero = refl
  pushed [] (suc x) = refl
  pushed (y ∷ xs) zero = refl
  pushed (y ∷ xs) (suc x) = pushed xs x

  pub put_at : (xs : List X) (place : ℕ) (y : X) (x : ℕ) → place < length xs → at_or nothing (set xs place y) x ≡ (if x == place then y else at_or nothing xs x)
  put_at xs place y x less = by (x == place) refl
    where
      by : (b : Bool) → (x == place) ≡ b → at_or nothing (set xs place y) x ≡ (if b then y else at_or nothing xs x)
      by true is =
          unwrap_or-slice_get (set xs place y) x nothing
          ∙ (ap (λ i. get_or (set xs place y) i nothing) (eqb-true x place is) ∙ get_or-set_same xs place y nothing less)
      by false is =
          unwrap_or-slice_get (set xs place y) x nothing
          ∙ (get_or-set_other xs place x y nothing (λ same. true≢false (sym (eq-eqb x place same) ∙ is)) ∙ sym (unwrap_or-slice_get xs x nothing))

either : (b c : Bool) → (if b then true else c) ≡ (b || c)
either true c = refl
either false c = refl

-- one mark more
pub marked : (xs : List Bool) (place x : ℕ) → place < length xs → is_at (set xs place true) x ≡ ((x == place) || is_at xs x)
marked xs place x less = put_at false xs place true x less ∙ either (x == place) (is_at xs x)

-- in a list that says the same
pub marked_more : (xs ys : List Bool) (place : ℕ) → place < length ys → ((x : ℕ) → is_at ys x ≡ is_at xs x) → (x : ℕ) → is_at (set ys place true) x ≡ ((x == place) || is_at xs x)
marked_more xs ys place less same x = marked ys place x less ∙ ap (λ b. (x == place) || b) (same x)

-- what was marked still is
pub marked_too : (more before after : Bool) → after ≡ (more || before) → before ≡ true → after ≡ true
marked_too true before after is h = is
marked_too false before after is h = is ∙ h

pub or_swap : (a b c : Bool) → ((a || b) || c) ≡ (b || (a || c))
or_swap true true c = refl
or_swap true false c = refl
or_swap false b c = refl

-- what a place holds
held : (xs : List ℕ) (place n : ℕ) → place < length xs → n ≡ get_or xs place n → wheels_at xs place ≡ n
held [] place n less is = absurd (omega (arith, less))
held (y ∷ xs) zero n less is = sym is
held (y ∷ xs) (suc place) n less is = held xs place n (omega (arith, less)) is

-- the bit of a wheel
bit_of : (wheel : ℕ) → wheel < 16 → 1 * 2 ^ wheel % 65536 ≡ 2 ^ wheel
bit_of wheel small = let less : 2 ^ wheel < 2 ^ 16 = pow-lt small in let one : 1 * 2 ^ wheel ≡ 2 ^ wheel = omega arith in ap (λ n. n % 65536) one ∙ mod-eq_of_lt less

-- one wheel more, in a list that says the same
pub wheel_more : (xs ys : List ℕ) (place wheel n : ℕ) → place < length ys → wheel < 16 → ((x : ℕ) → wheels_at ys x ≡ wheels_at xs x) → n ≡ get_or ys place n
    → (x : ℕ) → wheels_at (set ys place (bit_or n (1 * 2 ^ wheel % 65536))) x ≡ with_wheel wheel place (wheels_at xs) x
wheel_more xs ys place wheel n less small same is x = put_at 0 ys place (bit_or n (1 * 2 ^ wheel % 65536)) x less ∙ by (x == place) refl
  where
    by : (b : Bool) → (x == place) ≡ b → (if b then bit_or n (1 * 2 ^ wheel % 65536) else wheels_at ys x) ≡ (if b then bit_or (wheels_at xs x) (2 ^ wheel) else wheels_at xs x)
    by true there =
        let own : n ≡ wheels_at xs x = sym (held ys place n less is) ∙ (ap (wheels_at ys) (sym (eqb-true x place there)) ∙ same x) in
        ap₂ bit_or own (bit_of wheel small)
    by false there = same x
