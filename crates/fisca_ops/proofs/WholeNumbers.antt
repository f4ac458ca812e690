-- Whole numbers are their own fractions over 1.
use Rattle.std.proofs.Common.{◌≡◌, ℤ, pos, ◌<◌, ◌^◌, unsigned_abs, sym, refl, lit<}
use Rattle.std.specs.Prelude.{Ok}
use Rattle.fisca_num.specs.Number.{whole_number, lowest-whole}
use Rattle.fisca_num.specs.Operations.{number_over, only_number_of}
use Rattle.fisca_num.specs.Rational.{over}
use Rattle.fisca_typing.specs.Questions.{twelve}

pub whole_over : (n : ℤ) (h : unsigned_abs n < 2 ^ 63) → number_over n (pos 1) ≡ Ok (whole_number n h)
unfolding number_over
whole_over n h = sym (only_number_of (over n (pos 1)) (Ok (whole_number n h)) (record { some = lit< tt; same = refl; lowest = lowest-whole n }))

pub twelve_over : number_over (pos 12) (pos 1) ≡ Ok twelve
twelve_over = whole_over (pos 12) (lit< tt)
