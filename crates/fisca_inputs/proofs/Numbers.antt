-- Small numbers, and what operations on them give.
use Rattle.std.proofs.Common.{◌≡◌, ℕ, ◌<◌, ◌*◌, ◌^◌, sym}
use Rattle.std.specs.Prelude.{pos, Ok}
use Rattle.fisca_num.specs.Rational.{IsSame, ratio_difference}
use Rattle.fisca_num.specs.Number.{Number, ratio_of, whole_number}
use Rattle.fisca_num.specs.Operations.{number_of, difference_of, only_number_of}
use Rattle.fisca_inputs.specs.Steps.Sharing.{part_ratio}

abbrev pub whole : (n : ℕ) → n < 2 ^ 63 → Number
whole n h = whole_number (pos n) h

pub difference_is : (a b v : Number) → IsSame (ratio_of v) (ratio_difference (ratio_of a) (ratio_of b)) → 0 < a.denominator * b.denominator → difference_of a b ≡ Ok v
unfolding difference_of
difference_is a b v same some = sym (only_number_of (ratio_difference (ratio_of a) (ratio_of b)) (Ok v) (record { some = some; same = same; lowest = v.lowest }))

pub part_is : (a : Number) (count : ℕ) (v : Number) → IsSame (ratio_of v) (part_ratio a count) → 0 < a.denominator * count → number_of (part_ratio a count) ≡ Ok v
part_is a count v same some = sym (only_number_of (part_ratio a count) (Ok v) (record { some = some; same = same; lowest = v.lowest }))
