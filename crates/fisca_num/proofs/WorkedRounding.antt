-- The definitions of rounding, worked out on some numbers.
use Rattle.std.proofs.Common.{◌≡◌, ℕ, ℤ, pos, neg_ℤ, refl}
use Rattle.fisca_num.specs.Number.{Number}
use Rattle.fisca_num.specs.Rational.{Ratio}
use Rattle.fisca_num.specs.Rounding.{floor_of, ceil_of, nearest, nearest_size, rounded_ratio}

-- n / d
abbrev fraction : ℤ → ℕ → Ratio
fraction n d = record { numerator = n; denominator = d }

-- 5/2 lies half way between 2 and 3, 7/2 between 3 and 4
half_down : nearest (fraction (pos 5) 2) ≡ pos 2
unfolding nearest_size
half_down = refl

half_up : nearest (fraction (pos 7) 2) ≡ pos 4
unfolding nearest_size
half_up = refl

half_below_zero : nearest (fraction (neg_ℤ (pos 5)) 2) ≡ neg_ℤ (pos 2)
unfolding nearest_size
half_below_zero = refl

half_to_zero : nearest (fraction (neg_ℤ (pos 1)) 2) ≡ pos 0
unfolding nearest_size
half_to_zero = refl

-- 8/3 is nearer to 3, 7/3 to 2
third_up : nearest (fraction (pos 8) 3) ≡ pos 3
unfolding nearest_size
third_up = refl

third_down : nearest (fraction (pos 7) 3) ≡ pos 2
unfolding nearest_size
third_down = refl

floor_above_zero : (v : Number) → v.numerator ≡ pos 7 → v.denominator ≡ 3 → floor_of v ≡ pos 2
floor_above_zero v n d = rw (n, d) refl

ceiling_above_zero : (v : Number) → v.numerator ≡ pos 7 → v.denominator ≡ 3 → ceil_of v ≡ pos 3
ceiling_above_zero v n d = rw (n, d) refl

floor_below_zero : (v : Number) → v.numerator ≡ neg_ℤ (pos 7) → v.denominator ≡ 3 → floor_of v ≡ neg_ℤ (pos 3)
floor_below_zero v n d = rw (n, d) refl

ceiling_below_zero : (v : Number) → v.numerator ≡ neg_ℤ (pos 7) → v.denominator ≡ 3 → ceil_of v ≡ neg_ℤ (pos 2)
ceiling_below_zero v n d = rw (n, d) refl

-- 1234.565 is 246913/200; to 2 places it is 123456/100
to_cents : (v : Number) → v.numerator ≡ pos 246913 → v.denominator ≡ 200 → rounded_ratio (pos 2) v ≡ fraction (pos 123456) 100
unfolding nearest_size
to_cents v n d = rw (n, d) refl

-- 1250 to -2 places is 1200
to_hundreds : (v : Number) → v.numerator ≡ pos 1250 → v.denominator ≡ 1 → rounded_ratio (neg_ℤ (pos 2)) v ≡ fraction (pos 1200) 1
unfolding nearest_size
to_hundreds v n d = rw (n, d) refl
