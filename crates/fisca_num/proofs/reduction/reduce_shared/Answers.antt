use Rattle.std.proofs.Common.{◌∙◌, ap, ◌*◌}
use mir.Syntax.{w128}
use Rattle.std.proofs.lemmas.Int.{to_z-of_z}
use Rattle.std.proofs.Math.Nat.{pos_of_dvd_of_pos}
use Rattle.fisca_num.specs.Lowest.{gcd_pos}
use Rattle.fisca_num.specs.Operations.{number_of}
use Rattle.fisca_num.proofs.Sums.{shared_lowest, shared_same}
use Rattle.fisca_num.proofs.reduction.reduce_shared.Goals as goal

pub gcd_with_word-divisor-requires : goal.gcd_with_word-divisor-requires
gcd_with_word-divisor-requires c = pos_of_dvd_of_pos c.requires.shared c.requires.right

pub quotient_by-requires : goal.quotient_by-requires
quotient_by-requires c = gcd_pos _ _ _ c.gcd_with_word-divisor.ensures (pos_of_dvd_of_pos c.requires.shared c.requires.right)

pub wide_quotient_by-requires : goal.wide_quotient_by-requires
wide_quotient_by-requires c = gcd_pos _ _ _ c.gcd_with_word-divisor.ensures (pos_of_dvd_of_pos c.requires.shared c.requires.right)

pub from_lowest-requires : goal.from_lowest-requires
from_lowest-requires c =
    rw (c.wide_quotient_by.ensures, c.from.ensures, c.from-2.ensures, c.quotient_by.ensures)
    (shared_lowest _ _ _ _ c.args.shared _ c.requires.left c.requires.right c.requires.shared (rw (c.parts_of-negative.ensures.size, to_z-of_z w128 c.args.sum c.ranges.sum) c.requires.only) c.gcd_with_word-divisor.ensures
    (gcd_pos _ _ _ c.gcd_with_word-divisor.ensures (pos_of_dvd_of_pos c.requires.shared c.requires.right)))

pub returns : goal.returns
returns c =
    (rw (c.wide_quotient_by.ensures, c.from.ensures, c.from-2.ensures, c.quotient_by.ensures) at c.from_lowest.ensures)
    ∙ shared_same _ _ _ _ c.args.shared _ c.requires.left c.requires.right c.requires.shared (rw (c.parts_of-negative.ensures.size, to_z-of_z w128 c.args.sum c.ranges.sum) c.requires.only) c.gcd_with_word-divisor.ensures
    (gcd_pos _ _ _ c.gcd_with_word-divisor.ensures (pos_of_dvd_of_pos c.requires.shared c.requires.right))
    ∙ ap (λ z. number_of (record { numerator = z; denominator = c.args.left * c.args.right })) (c.parts_of-negative.ensures.number ∙ to_z-of_z w128 c.args.sum c.ranges.sum)
