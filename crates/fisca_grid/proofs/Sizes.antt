-- Sizes of integers.
use Rattle.std.proofs.Common.{ℕ, ℤ, pos, ◌+◌, ◌*◌, ◌+ℤ◌, ◌*ℤ◌, ◌<◌, ◌≤◌, ◌^◌, unsigned_abs, SFits, w64, arith}
use Rattle.std.proofs.lemmas.Int.{ints, unsigned_abs-mul}

abs-sum : (x y : ℤ) → unsigned_abs (x +ℤ y) ≤ unsigned_abs x + unsigned_abs y
abs-sum x y = omega (arith, ints)

-- a size below 2^63 fits a word
pub word_fits : (z : ℤ) → unsigned_abs z < 2 ^ 63 → SFits w64 z
word_fits z h = omega (arith, ints)

pub product_fits : (x y : ℤ) → unsigned_abs x * unsigned_abs y < 2 ^ 63 → SFits w64 (x *ℤ y)
product_fits x y h = word_fits (x *ℤ y) (rw (unsigned_abs-mul x y) h)

-- the size of a sum with a product
pub abs-line : (f t : ℤ) (i : ℕ) → unsigned_abs (f +ℤ pos i *ℤ t) ≤ unsigned_abs f + i * unsigned_abs t
abs-line f t i = omega (arith, abs-sum f (pos i *ℤ t), unsigned_abs-mul (pos i) t)
