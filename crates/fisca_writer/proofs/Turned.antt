-- How many groups turn, worked out on three groups of 3, 1 and 2 places, gone over from position 1.
use Rattle.std.proofs.Common.{◌≡◌, ℕ, zero, suc, ◌+◌, ◌≤◌, List, [], ◌∷◌, get_or, refl, ap, arith}
use Rattle.fisca_writer.specs.Odometer.{AreSameFrom, Going, HaveTurned, left_of, places_at, product_of}

abbrev counts : List ℕ
counts = 3 ∷ 1 ∷ 2 ∷ []

six_positions : product_of counts ≡ 6
six_positions = refl

places_of_four : places_at counts 4 ≡ 1 ∷ 0 ∷ 1 ∷ []
places_of_four = refl

-- after this position was given
abbrev given : ℕ → Going
given position = record { counts = counts; start = 1; next = position + 1 }

two_left : left_of (given 3) ≡ 4 ∷ 5 ∷ []
two_left = refl

before_any : HaveTurned (given 0) 0
before_any = record { none = λ e. refl; all = λ e. absurd (omega (arith, e)); later = λ less. absurd (omega (arith, less)); least = λ less. absurd (omega (arith, less)) }

after_one : HaveTurned (given 1) 3
after_one = record { none = λ e. absurd (omega (arith, e)); all = λ e. refl; later = λ less. absurd (omega (arith, less)); least = λ less. absurd (omega (arith, less)) }

after_two : HaveTurned (given 2) 1
after_two = record { none = λ e. absurd (omega (arith, e)); all = λ e. absurd (omega (arith, e)); later = λ less. refl; least = λ less. fewest }
  where
    fewest : (group : ℕ) → AreSameFrom counts group 1 2 → 1 ≤ group
    fewest zero same = absurd (omega (arith, ap (λ xs. get_or xs 0 0) same))
    fewest (suc group) same = omega arith

-- the second group, of one place, is among those that turn
after_three : HaveTurned (given 3) 3
after_three = record { none = λ e. absurd (omega (arith, e)); all = λ e. absurd (omega (arith, e)); later = λ less. refl; least = λ less. fewest }
  where
    fewest : (group : ℕ) → AreSameFrom counts group 2 3 → 3 ≤ group
    fewest zero same = absurd (omega (arith, ap (λ xs. get_or xs 0 0) same))
    fewest (suc zero) same = absurd (omega (arith, ap (λ xs. get_or xs 1 0) same))
    fewest (suc (suc zero)) same = absurd (omega (arith, ap (λ xs. get_or xs 0 0) same))
    fewest (suc (suc (suc group))) same = omega arith

after_four : HaveTurned (given 4) 1
after_four = record { none = λ e. absurd (omega (arith, e)); all = λ e. absurd (omega (arith, e)); later = λ less. refl; least = λ less. fewest }
  where
    fewest : (group : ℕ) → AreSameFrom counts group 3 4 → 1 ≤ group
    fewest zero same = absurd (omega (arith, ap (λ xs. get_or xs 0 0) same))
    fewest (suc group) same = omega arith

after_five : HaveTurned (given 5) 1
after_five = record { none = λ e. absurd (omega (arith, e)); all = λ e. absurd (omega (arith, e)); later = λ less. refl; least = λ less. fewest }
  where
    fewest : (group : ℕ) → AreSameFrom counts group 4 5 → 1 ≤ group
    fewest zero same = absurd (omega (arith, ap (λ xs. get_or xs 0 0) same))
    fewest (suc group) same = omega arith
