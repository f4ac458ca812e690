-- The lanes of a vector, as numbers.
use Rattle.std.proofs.Common.{◌≡◌, ℕ, ◌*◌, ◌/◌, ◌<◌, ◌≤◌, ◌^◌, ℤ, pos, ◌*ℤ◌, unsigned_abs, arith, ap, sym, ◌∙◌, refl, Result, Ok, Err, List, length}
use Rattle.std.proofs.Math.Nat.{mul-le-mul_left, mul_comm}
use Rattle.std.proofs.lemmas.List.{get_or-map, length-map}
use Rattle.fisca_num.specs.declared.faults.NumFault.{NumFault}
use Rattle.fisca_num.specs.declared.faults.NumFault.TheVariants.{TooWide, ZeroDivisor, NotANumber, Memory}
use Rattle.fisca_num.specs.Rational.{Reduces, IsWithin}
use Rattle.fisca_num.specs.Number.{Number, ratio_of, zero_number}
use Rattle.fisca_num.specs.Value.{IsNumberOf}
use Rattle.fisca_num.specs.Lowest.{Divisor, divisor_of}
use Rattle.fisca_num.specs.Reduced.{divided, reduces_by_gcd, size-signed_like}
use Rattle.fisca_num.specs.Integers.{times_pos}
use Rattle.fisca_num.specs.Operations.{number_of, is_number_of, only_number_of}
use Rattle.fisca_vectors.specs.Vectors.{lane}
use Rattle.fisca_vectors.specs.Numerators.{at, pair, number_or_zero, lane_of, lanes_of, IsVector}
use Rattle.fisca_num.proofs.Alike.{number_of_same}

-- both parts fit, so that the pair is a number
pub record Fits (n : ℤ) (d : ℕ) : Type 0 where
  pub positive : 0 < d
  pub below : d < 2 ^ 63
  pub above : unsigned_abs n < 2 ^ 63

cut_below : (n g : ℕ) → n < 2 ^ 63 → n / g < 2 ^ 63
cut_below n g h = grind arith

within : (n : ℤ) (d g : ℕ) → Fits n d → IsWithin (divided (pair n d) g).numerator (divided (pair n d) g).denominator
within n d g f = record { above = rw (size-signed_like n (unsigned_abs n / g)) (cut_below (unsigned_abs n) g f.above); below = cut_below d g f.below }

found : (n : ℤ) (d : ℕ) → Fits n d → (o : Result Number NumFault) → IsNumberOf (pair n d) o → Reduces (pair n d) (ratio_of (number_or_zero o))
found n d f (Ok v) h = h
found n d f (Err TooWide) h =
    let z : Divisor (unsigned_abs n) d = divisor_of (unsigned_abs n) d in
    absurd (h.wide (divided (pair n d) z.gcd) (reduces_by_gcd (pair n d) z.gcd z.is f.positive) (within n d z.gcd f))
found n d f (Err ZeroDivisor) h = let p : 0 < d = f.positive in absurd (omega arith)
found n d f (Err NotANumber) h = absurd h
found n d f (Err Memory) h = absurd h

pub lane_reduces : (n : ℤ) (d : ℕ) → Fits n d → Reduces (pair n d) (ratio_of (lane_of d n))
unfolding lane_of
lane_reduces n d f = found n d f (number_of (pair n d)) (is_number_of (pair n d))

pub lane_is : (n : ℤ) (d : ℕ) → Fits n d → number_of (pair n d) ≡ Ok (lane_of d n)
lane_is n d f = sym (only_number_of (pair n d) (Ok (lane_of d n)) (lane_reduces n d f))

-- a number is the lane of its parts
pub own_lane : (v : Number) → lane_of v.denominator v.numerator ≡ v
unfolding lane_of
own_lane v = ap number_or_zero (sym (only_number_of (pair v.numerator v.denominator) (Ok v) (record { some = v.lowest.positive; same = refl; lowest = v.lowest })))

pub own_fits : (v : Number) → Fits v.numerator v.denominator
own_fits v = record { positive = v.lowest.positive; below = v.within.below; above = v.within.above }

pub some_product : (m n : ℕ) → 0 < m → 0 < n → 0 < m * n
some_product m n hm hn = omega (arith, mul-le-mul_left m hn)

-- a lane brought to a larger denominator is the same number
pub wider_lane : (n : ℤ) (d f l : ℕ) → 0 < d → 0 < l → d * f ≡ l → lane_of l (n *ℤ pos f) ≡ lane_of d n
unfolding lane_of
wider_lane n d f l some wide e = ap number_or_zero (number_of_same (pair (n *ℤ pos f) l) (pair n d) wide some (rw (← e) (times_pos n f d ∙ ap (λ z. n *ℤ pos z) (mul_comm f d))))

pub fits_lane : (d a : ℕ) (ns : List ℤ) → IsVector d a ns → (k : ℕ) → k < length ns → Fits (at ns k) d
fits_lane d a ns h k lt = record { positive = h.positive; below = h.below; above = let p = h.bounded k lt in let q = h.bound_below in omega arith }

pub lane_at : (d : ℕ) (ns : List ℤ) (k : ℕ) → k < length ns → lane (lanes_of d ns) k ≡ lane_of d (at ns k)
lane_at d ns k lt = get_or-map (lane_of d) ns k (pos 0) zero_number lt

pub count : (d : ℕ) (ns : List ℤ) → length (lanes_of d ns) ≡ length ns
count d ns = length-map ns (lane_of d)

pub same_lanes : (d e : ℕ) (ns ms : List ℤ) → length (lanes_of d ns) ≡ length (lanes_of e ms) → length ns ≡ length ms
same_lanes d e ns ms h = sym (count d ns) ∙ h ∙ count e ms
