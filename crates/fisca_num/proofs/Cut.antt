-- Parts divided by their greatest common divisor.
use Rattle.std.proofs.Common.{◌≡◌, ℕ, ◌/◌, ◌<◌, ◌^◌, ℤ, neg_ℤ, unsigned_abs, Bool, true, false, arith, refl, ap, Err}
use Rattle.std.specs.Int.{IsGcd}
use Rattle.std.proofs.lemmas.Int.{ints}
use Rattle.fisca_num.specs.declared.faults.NumFault.TheVariants.{TooWide}
use Rattle.fisca_num.specs.Rational.{Ratio, IsLowest, IsWithin, Reduces, signed}
use Rattle.fisca_num.specs.Number.{lowest-neg, within-neg, lowest-whole}
use Rattle.fisca_num.specs.Lowest.{IsCoprime, coprime_from_gcd}
use Rattle.fisca_num.specs.Reduced.{divides_alike, quotient_pos, reduces_once}
use Rattle.fisca_num.specs.Operations.{number_of, only_number_of}
use Rattle.fisca_num.proofs.Alike.{number_of_same, signed_same}

pub size-signed : (b : Bool) (n : ℕ) → unsigned_abs (signed b n) ≡ n
size-signed true n = omega (arith, ints)
size-signed false n = refl

pub lowest_of : (b : Bool) (size d : ℕ) → 0 < d → IsCoprime size d → IsLowest (signed b size) d
lowest_of b size d some co = record { positive = some; coprime = rw (size-signed b size) co }

pub cut_lowest : (b : Bool) (size d g : ℕ) → IsGcd size d g → 0 < d → IsLowest (signed b (size / g)) (d / g)
cut_lowest b size d g h some = lowest_of b (size / g) (d / g) (quotient_pos size d g h some) (coprime_from_gcd size d g h some)

pub cut_same : (b : Bool) (size d g : ℕ) → IsGcd size d g → 0 < d → number_of (record { numerator = signed b (size / g); denominator = d / g }) ≡ number_of (record { numerator = signed b size; denominator = d })
cut_same b size d g h some = number_of_same _ _ (quotient_pos size d g h some) some (signed_same b (size / g) size d (d / g) (divides_alike size d g h some))

-- ---- parts in lowest terms

pub itself : (r : Ratio) → IsLowest r.numerator r.denominator → Reduces r r
itself r h = record { some = h.positive; same = refl; lowest = h }

pub reduces_as : (b : Bool) (v : ℤ) (size d : ℕ) → v ≡ signed b size → IsLowest (signed b size) d → Reduces (record { numerator = signed b size; denominator = d }) (record { numerator = v; denominator = d })
reduces_as b v size d e h = rw e (itself (record { numerator = signed b size; denominator = d }) h)

pub reduces_whole : (n v : ℤ) → v ≡ n → Reduces (record { numerator = n; denominator = 1 }) (record { numerator = v; denominator = 1 })
reduces_whole n v e = rw e (itself (record { numerator = n; denominator = 1 }) (lowest-whole n))

pub outside : (r : Ratio) → IsLowest r.numerator r.denominator → (unsigned_abs r.numerator < 2 ^ 63 → r.denominator < 2 ^ 63 → ⊥) → Err TooWide ≡ number_of r
outside r h wide = only_number_of r (Err TooWide) (record {
  some = h.positive;
  wide = λ v x w. let same = reduces_once r v r x (itself r h) in wide (rw (ap unsigned_abs same.0) at w.above) (rw same.1 at w.below);
})

pub beyond : (b : Bool) (size d : ℕ) → IsLowest (signed b size) d → (size < 2 ^ 63 → d < 2 ^ 63 → ⊥) → Err TooWide ≡ number_of (record { numerator = signed b size; denominator = d })
beyond b size d h wide = outside (record { numerator = signed b size; denominator = d }) h (λ p q. wide (rw (size-signed b size) at p) q)

pub within_of : (b : Bool) (v : ℤ) (size d : ℕ) → v ≡ signed b size → size < 2 ^ 63 → d < 2 ^ 63 → IsWithin v d
within_of b v size d e p q = record { above = rw (e, size-signed b size) p; below = q }

pub lowest_negated : (n v : ℤ) (d : ℕ) → v ≡ neg_ℤ n → IsLowest n d → IsLowest v d
lowest_negated n v d e h = rw e (lowest-neg n d h)

pub within_negated : (n v : ℤ) (d : ℕ) → v ≡ neg_ℤ n → IsWithin n d → IsWithin v d
within_negated n v d e h = rw e (within-neg n d h)

pub lowest_sized : (n v : ℤ) (d : ℕ) → unsigned_abs v ≡ unsigned_abs n → IsLowest n d → IsLowest v d
lowest_sized n v d e h = record { positive = h.positive; coprime = rw e h.coprime }

pub within_sized : (n v : ℤ) (d : ℕ) → unsigned_abs v ≡ unsigned_abs n → IsWithin n d → IsWithin v d
within_sized n v d e h = record { above = rw e h.above; below = h.below }
