-- The whole part of a number is what its own division by 1 gives.
use Rattle.std.proofs.Common.{◌≡◌, pos, refl, sym, lit<}
use Rattle.std.specs.Prelude.{Ok}
use Rattle.fisca_num.specs.Number.{Number, trunc_of}
use Rattle.fisca_num.specs.Operations.{number_over, only_number_of}
use Rattle.fisca_num.specs.Rational.{over}
use Rattle.fisca_situations.specs.Steps.Cuts.{whole_part}

pub part_is : (v : Number) → number_over (trunc_of v) (pos 1) ≡ Ok (whole_part v)
unfolding number_over
part_is v = sym (only_number_of (over (trunc_of v) (pos 1)) (Ok (whole_part v)) (record { some = lit< tt; same = refl; lowest = (whole_part v).lowest }))
