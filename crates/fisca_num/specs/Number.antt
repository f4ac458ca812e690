-- What a contract sees of a `Fraction`: a rational in lowest terms, within the limits.
use Rattle.std.specs.Prelude.{◌≡◌, ℕ, ℤ, pos, neg_ℤ, ◌*ℤ◌, ◌<◌, ◌^◌, unsigned_abs, int_div}
use Rattle.std.proofs.Common.{ap, arith, lit<}
use Rattle.std.proofs.Props.{props}
use Rattle.std.proofs.lemmas.Int.{ints}
use Rattle.std.specs.declared.cmp.Ordering.{Ordering}
use Rattle.std.specs.Ordering.{int_cmp}
use Rattle.std.proofs.Math.Nat.{eq-one_of_dvd-one}
use mathlib.Core.HLevel.{Σ_prop_path}
use Rattle.fisca_num.specs.Rational.{Ratio, IsLowest, IsWithin}

pub record Number : Type 0 where
  pub numerator : ℤ
  pub denominator : ℕ
  pub lowest : IsLowest numerator denominator
  pub within : IsWithin numerator denominator

-- the rational that a number is
abbrev pub ratio_of : Number → Ratio
ratio_of v = record { numerator = v.numerator; denominator = v.denominator }

-- the order of rationals, by cross multiplication
abbrev pub number_cmp : Number → Number → Ordering
number_cmp a b = int_cmp (a.numerator *ℤ pos b.denominator) (b.numerator *ℤ pos a.denominator)

-- the whole part of a number: its fraction cut off, towards 0
abbrev pub trunc_of : Number → ℤ
trunc_of v = int_div v.numerator (pos v.denominator)

abbrev Facts : ℤ × ℕ → Type 0
Facts p = IsLowest p.0 p.1 × IsWithin p.0 p.1

Facts-prop : (p : ℤ × ℕ) → IsProp (Facts p)
Facts-prop p = hlevel props

abbrev to_number : (p : ℤ × ℕ) × Facts p → Number
to_number t = record { numerator = t.0.0; denominator = t.0.1; lowest = t.1.0; within = t.1.1 }

-- numbers with equal parts are equal: their facts have one proof each
pub same_number : (a b : Number) → a.numerator ≡ b.numerator → a.denominator ≡ b.denominator → a ≡ b
same_number a b p q = ap to_number {x = ((a.numerator, a.denominator), (a.lowest, a.within))} {y = ((b.numerator, b.denominator), (b.lowest, b.within))} (Σ_prop_path Facts-prop (λ i. (p i, q i)))

size-neg : (z : ℤ) → unsigned_abs (neg_ℤ z) ≡ unsigned_abs z
size-neg z = omega (arith, ints)

pub lowest-neg : (n : ℤ) (d : ℕ) → IsLowest n d → IsLowest (neg_ℤ n) d
lowest-neg n d h = record { positive = h.positive; coprime = rw (size-neg n) h.coprime }

pub within-neg : (n : ℤ) (d : ℕ) → IsWithin n d → IsWithin (neg_ℤ n) d
within-neg n d h = record { above = rw (size-neg n) h.above; below = h.below }

-- -v
abbrev pub negation_of : Number → Number
negation_of v = record {
  numerator = neg_ℤ v.numerator;
  denominator = v.denominator;
  lowest = lowest-neg v.numerator v.denominator v.lowest;
  within = within-neg v.numerator v.denominator v.within;
}

pub lowest-whole : (n : ℤ) → IsLowest n 1
lowest-whole n = record { positive = lit< tt; coprime = λ d p q. eq-one_of_dvd-one q }

-- a whole number
abbrev pub whole_number : (n : ℤ) → unsigned_abs n < 2 ^ 63 → Number
whole_number n h = record {
  numerator = n;
  denominator = 1;
  lowest = lowest-whole n;
  within = record { above = h; below = lit< tt };
}

abbrev pub zero_number : Number
zero_number = whole_number (pos 0) (lit< tt)

abbrev pub one_number : Number
one_number = whole_number (pos 1) (lit< tt)
