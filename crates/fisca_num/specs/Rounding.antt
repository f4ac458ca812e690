-- Rounding to whole numbers and to decimal places.
use Rattle.std.specs.Prelude.{ℕ, suc, ◌+◌, ◌*◌, ◌/◌, ◌%◌, ◌^◌, ℤ, pos, negsuc, neg_ℤ, ◌*ℤ◌, unsigned_abs, Result}
use Rattle.std.specs.Int.{int_div_euclid}
use Rattle.std.specs.declared.cmp.Ordering.{Ordering}
use Rattle.std.specs.declared.cmp.Ordering.TheVariants.{Less, Equal, Greater}
use Rattle.std.specs.Ordering.{nat_cmp}
use Rattle.fisca_num.specs.declared.faults.NumFault.{NumFault}
use Rattle.fisca_num.specs.Rational.{Ratio, over}
use Rattle.fisca_num.specs.Reduced.{signed_like}
use Rattle.fisca_num.specs.Number.{Number, ratio_of, negation_of}
use Rattle.fisca_num.specs.Operations.{number_of, number_over}

-- the number without its sign
abbrev pub abs_of : Number → Number
abs_of v = record {
  numerator = pos (unsigned_abs v.numerator);
  denominator = v.denominator;
  lowest = record { positive = v.lowest.positive; coprime = v.lowest.coprime };
  within = record { above = v.within.above; below = v.within.below };
}

-- the greatest whole number that is not above v: the quotient whose remainder is not negative
abbrev pub floor_of : Number → ℤ
floor_of v = int_div_euclid v.numerator (pos v.denominator)

-- the least whole number that is not below v
abbrev pub ceil_of : Number → ℤ
ceil_of v = neg_ℤ (floor_of (negation_of v))

-- q, or q + 1 where a rest of q compares with one half as told: at a half the even of both
abbrev pub by_half : Ordering → ℕ → ℕ
by_half Less q = q
by_half Equal q = q + q % 2
by_half Greater q = q + 1

-- the whole number nearest to n / d, of two that are equally near the even one
unfoldable pub nearest_size : ℕ → ℕ → ℕ
nearest_size n d = by_half (nat_cmp (2 * (n % d)) d) (n / d)

-- the same of a rational with its sign
abbrev pub nearest : Ratio → ℤ
nearest r = signed_like r.numerator (nearest_size (unsigned_abs r.numerator) r.denominator)

-- the whole number nearest to v, of two that are equally near the even one
abbrev pub round_of : Number → ℤ
round_of v = nearest (ratio_of v)

-- r * 10 ^ k
abbrev pub times_ten_to : ℤ → Ratio → Ratio
times_ten_to (pos k) r = record { numerator = r.numerator *ℤ pos (10 ^ k); denominator = r.denominator }
times_ten_to (negsuc k) r = record { numerator = r.numerator; denominator = r.denominator * 10 ^ suc k }

-- the multiple of 10 ^ -places nearest to v, as a rational
abbrev pub rounded_ratio : ℤ → Number → Ratio
rounded_ratio places v = times_ten_to (neg_ℤ places) (over (nearest (times_ten_to places (ratio_of v))) (pos 1))

-- that multiple as a number
unfoldable pub rounded_to : ℤ → Number → Result Number NumFault
rounded_to places v = number_of (rounded_ratio places v)

-- the whole number n
unfoldable pub number_of_whole : ℤ → Result Number NumFault
number_of_whole n = number_over n (pos 1)
