-- Each rational has just one answer of `IsNumberOf`.
use Rattle.std.proofs.Common.{◌≡◌, ℕ, ◌/◌, ◌<◌, ◌^◌, unsigned_abs, arith, ap, refl, inl, inr, Result, Ok, Err}
use Rattle.std.proofs.lemmas.Bool.{cases_lt}
use Rattle.fisca_num.specs.declared.faults.NumFault.{NumFault}
use Rattle.fisca_num.specs.declared.faults.NumFault.TheVariants.{TooWide, ZeroDivisor, NotANumber, Memory}
use Rattle.fisca_num.specs.Rational.{Ratio, Reduces}
use Rattle.fisca_num.specs.Number.{Number, ratio_of, same_number}
use Rattle.fisca_num.specs.Value.{IsFaultOf, IsNumberOf}
use Rattle.fisca_num.specs.Lowest.{Divisor, divisor_of}
use Rattle.fisca_num.specs.Reduced.{divided, lowest_by_gcd, reduces_by_gcd, reduces_once, too_wide_by_gcd, size-signed_like}
use Rattle.std.specs.Int.{IsGcd}

pub record Answer (r : Ratio) : Type 0 where
  pub value : Result Number NumFault
  pub is : IsNumberOf r value

number_by_gcd : (r : Ratio) (g : ℕ) → IsGcd (unsigned_abs r.numerator) r.denominator g → 0 < r.denominator → unsigned_abs r.numerator / g < 2 ^ 63 → r.denominator / g < 2 ^ 63 → Answer r
number_by_gcd r g h some above below = record {
  value = Ok (record {
    numerator = (divided r g).numerator;
    denominator = (divided r g).denominator;
    lowest = lowest_by_gcd r g h some;
    within = record { above = rw (size-signed_like r.numerator (unsigned_abs r.numerator / g)) above; below = below };
  });
  is = reduces_by_gcd r g h some;
}

wide_answer : (r : Ratio) (g : ℕ) → IsGcd (unsigned_abs r.numerator) r.denominator g → 0 < r.denominator → (unsigned_abs r.numerator / g < 2 ^ 63 → r.denominator / g < 2 ^ 63 → ⊥) → Answer r
wide_answer r g h some wide = record { value = Err TooWide; is = too_wide_by_gcd r g h some wide }

by_gcd : (r : Ratio) (g : ℕ) → IsGcd (unsigned_abs r.numerator) r.denominator g → 0 < r.denominator → Answer r
by_gcd r g h some =
    elim (cases_lt (unsigned_abs r.numerator / g) (2 ^ 63)) [
      | inl above ↦ elim (cases_lt (r.denominator / g) (2 ^ 63)) [
        | inl below ↦ number_by_gcd r g h some above below
        | inr le ↦ wide_answer r g h some (λ p q. omega arith)
      ]
      | inr le ↦ wide_answer r g h some (λ p q. omega arith)
    ]

pub answer_of : (r : Ratio) → Answer r
answer_of r =
    elim (cases_lt 0 r.denominator) [
      | inl some ↦ let z : Divisor (unsigned_abs r.numerator) r.denominator = divisor_of (unsigned_abs r.numerator) r.denominator in by_gcd r z.gcd z.is some
      | inr le ↦ record { value = Err ZeroDivisor; is = omega arith }
    ]

number_once : (r : Ratio) (v w : Number) → Reduces r (ratio_of v) → Reduces r (ratio_of w) → v ≡ w
number_once r v w x y = let e = reduces_once r (ratio_of v) (ratio_of w) x y in same_number v w e.0 e.1

no_fault : (r : Ratio) (v : Number) (e : NumFault) → Reduces r (ratio_of v) → IsFaultOf r e → ⊥
no_fault r v TooWide x h = h.wide (ratio_of v) x v.within
no_fault r v ZeroDivisor x h = let some : 0 < r.denominator = x.some in omega arith
no_fault r v NotANumber x h = h
no_fault r v Memory x h = h

fault_once : (r : Ratio) (e f : NumFault) → IsFaultOf r e → IsFaultOf r f → e ≡ f
fault_once r TooWide TooWide x y = refl
fault_once r ZeroDivisor ZeroDivisor x y = refl
fault_once r TooWide ZeroDivisor x y = let some : 0 < r.denominator = x.some in absurd (omega arith)
fault_once r ZeroDivisor TooWide x y = let some : 0 < r.denominator = y.some in absurd (omega arith)
fault_once r TooWide NotANumber x y = absurd y
fault_once r TooWide Memory x y = absurd y
fault_once r ZeroDivisor NotANumber x y = absurd y
fault_once r ZeroDivisor Memory x y = absurd y
fault_once r NotANumber f x y = absurd x
fault_once r Memory f x y = absurd x

pub answer_once : (r : Ratio) (o p : Result Number NumFault) → IsNumberOf r o → IsNumberOf r p → o ≡ p
answer_once r (Ok v) (Ok w) x y = ap Ok (number_once r v w x y)
answer_once r (Err e) (Err f) x y = ap Err (fault_once r e f x y)
answer_once r (Ok v) (Err e) x y = absurd (no_fault r v e x y)
answer_once r (Err e) (Ok v) x y = absurd (no_fault r v e y x)
