-- A variable that has one wheel more has that wheel.
use Rattle.std.proofs.Common.{◌≡◌, ℕ, zero, suc, ◌<◌, ◌^◌, ◌==◌, max, true, refl, ap, ◌∙◌, if◌then◌else◌, arith}
use Rattle.std.specs.Int.{bit_at}
use Rattle.std.specs.Int.Bits.{bit_or}
use Rattle.std.proofs.lemmas.Bool.{eq-eqb}
use Rattle.std.proofs.lemmas.Nat.Bits.{bit_at_or, bit_at-lt, bit_at-pow_same}
use Rattle.fisca_memo_theory.specs.Reads.{reads_wheel}
use Rattle.fisca_api.specs.Marks.{with_wheel}

most : (n : ℕ) → n < 2 → max n 1 ≡ 1
most zero less = refl
most (suc zero) less = refl
most (suc (suc n)) less = absurd (omega (arith, less))

has_own : (wheels wheel : ℕ) → reads_wheel (bit_or wheels (2 ^ wheel)) wheel ≡ true
has_own wheels wheel =
    ap (λ n. n == 1) (bit_at_or wheels (2 ^ wheel) wheel ∙ (ap (max (bit_at wheels wheel)) (bit_at-pow_same wheel) ∙ most (bit_at wheels wheel) (bit_at-lt wheels wheel)))

pub has_wheel : (wheel place : ℕ) (wheels : ℕ → ℕ) (x : ℕ) → x ≡ place → reads_wheel (with_wheel wheel place wheels x) wheel ≡ true
has_wheel wheel place wheels x is = ap (λ b. reads_wheel (if b then bit_or (wheels x) (2 ^ wheel) else wheels x) wheel) (eq-eqb x place is) ∙ has_own (wheels x) wheel
