-- Which whole number is the floor, the ceiling or the nearest of a rational.
use Rattle.std.specs.Prelude.{◌≡◌, ℕ, ◌*◌, ◌%◌, ◌≤◌, ℤ, pos, ◌+ℤ◌, ◌-ℤ◌, ◌*ℤ◌, ◌≤ℤ◌, ◌<ℤ◌, unsigned_abs}
use Rattle.fisca_num.specs.Rational.{Ratio}

-- p ≤ q, by cross multiplication
abbrev pub IsAtMost : Ratio → Ratio → Type 0
IsAtMost p q = (p.numerator *ℤ pos q.denominator) ≤ℤ (q.numerator *ℤ pos p.denominator)

-- k ≤ r < k + 1
pub record IsFloor (r : Ratio) (k : ℤ) : Type 0 where
  pub at_most : (k *ℤ pos r.denominator) ≤ℤ r.numerator
  pub above : r.numerator <ℤ ((k *ℤ pos r.denominator) +ℤ pos r.denominator)

-- k - 1 < r ≤ k
pub record IsCeiling (r : Ratio) (k : ℤ) : Type 0 where
  pub at_least : r.numerator ≤ℤ (k *ℤ pos r.denominator)
  pub below : ((k *ℤ pos r.denominator) -ℤ pos r.denominator) <ℤ r.numerator

-- how far r is from k, in parts of its denominator
abbrev pub distance : Ratio → ℤ → ℕ
distance r k = unsigned_abs (r.numerator -ℤ (k *ℤ pos r.denominator))

-- k is at most one half off r, and even where it is one half off
pub record IsNearest (r : Ratio) (k : ℤ) : Type 0 where
  pub near : 2 * distance r k ≤ r.denominator
  pub even : 2 * distance r k ≡ r.denominator → unsigned_abs k % 2 ≡ 0
