-- Values of axes for a type of values: those of whole numbers are cut towards zero.
use Rattle.std.specs.Prelude.{◌≡◌, ◌<◌, ◌≤◌, ◌^◌, ◌/◌, ℕ, suc, ℤ, pos, negsuc, neg_ℤ, unsigned_abs, int_div}
use Rattle.std.proofs.Common.{arith}
use Rattle.std.proofs.Math.Nat.{div-le_self}
use Rattle.std.proofs.lemmas.Int.{ints}
use Rattle.fisca_num.specs.Number.{Number, trunc_of}

size_negated : (z : ℤ) → unsigned_abs (neg_ℤ z) ≡ unsigned_abs z
size_negated z = omega (arith, ints)

size_quotient : (z : ℤ) (d : ℕ) → unsigned_abs (int_div z (pos d)) ≤ unsigned_abs z
size_quotient (pos a) d = div-le_self a d
size_quotient (negsuc a) d = omega (arith, size_negated (pos (suc a / d)), div-le_self (suc a) d)

-- the whole part of a number is within the limits of numbers
pub size_whole : (v : Number) → unsigned_abs (trunc_of v) < 2 ^ 63
size_whole v = omega (arith, size_quotient v.numerator v.denominator, v.within.above)
