-- A number divided by a whole number.
use Rattle.std.proofs.Common.{◌≡◌, ℕ, ◌<◌, ◌^◌, ℤ, pos, ◌*ℤ◌, arith, ap, sym, ◌∙◌, refl, lit<}
use Rattle.std.specs.Prelude.{Ok, Err}
use Rattle.std.proofs.Math.Nat.{mul_comm}
use borrow.Author.Differences.{product_is, same_in}
use Rattle.fisca_num.specs.Rational.{over}
use Rattle.fisca_num.specs.Number.{Number}
use Rattle.fisca_num.specs.Operations.{number_of, number_over, quotient_of, only_number_of}
use Rattle.fisca_num.specs.declared.faults.NumFault.{NumFault}
use Rattle.fisca_inputs.specs.Steps.Sharing.{part_ratio}
use Rattle.fisca_inputs.proofs.Numbers.{whole}

whole_is : (n : ℕ) (h : n < 2 ^ 63) → number_over (pos n) (pos 1) ≡ Ok (whole n h)
unfolding number_over
whole_is n h = sym (only_number_of (over (pos n) (pos 1)) (Ok (whole n h)) (record { some = lit< tt; same = refl; lowest = (whole n h).lowest }))

pub whole_there : (n : ℕ) (e : NumFault) → n < 2 ^ 63 → number_over (pos n) (pos 1) ≡ Err e → ⊥
whole_there n e h refused = let there = whole_is n h in cc

times_one : (z : ℤ) → z *ℤ pos 1 ≡ z
times_one z = let p = product_is z (pos 1) in same_in (z *ℤ pos 1) z (omega (arith, p.0, p.1))

quotient_by_whole : (a : Number) (n : ℕ) (h : n < 2 ^ 63) → quotient_of a (whole n h) ≡ number_of (part_ratio a n)
unfolding quotient_of
quotient_by_whole a n h = λ i. number_of (record { numerator = times_one a.numerator i; denominator = mul_comm n a.denominator i })

pub part_by : (a m : Number) (n : ℕ) → n < 2 ^ 63 → number_over (pos n) (pos 1) ≡ Ok m → quotient_of a m ≡ number_of (part_ratio a n)
part_by a m n h made =
    let there : Ok m ≡ Ok (whole n h) = sym made ∙ whole_is n h in
    let same : m ≡ whole n h = cc in
    ap (quotient_of a) same ∙ quotient_by_whole a n h
