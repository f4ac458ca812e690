use Rattle.std.proofs.Common.{◌≡◌, ◌%◌}
use Rattle.fisca_num.proofs.Powers.{IsFactored}
use Rattle.fisca_num.proofs.decimals.decimal_places.Given as goal

abbrev pub invariant-twos : goal.invariant-twos
invariant-twos l = IsFactored l.fn.denominator l.twos l.fives l.rest

abbrev pub decreases-twos : goal.decreases-twos
decreases-twos l = l.rest

abbrev pub invariant-fives : goal.invariant-fives
invariant-fives l = IsFactored l.fn.denominator l.twos l.fives l.rest × (l.rest % 2 ≡ 0 → ⊥)

abbrev pub decreases-fives : goal.decreases-fives
decreases-fives l = l.rest
