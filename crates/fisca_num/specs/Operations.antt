-- The number that a rational is, as a function, and the operations on numbers.
use Rattle.std.specs.Prelude.{◌≡◌, ℤ, Result, ◌↔◌}
use Rattle.std.proofs.Common.{subst, sym}
use Rattle.fisca_num.specs.declared.faults.NumFault.{NumFault}
use Rattle.fisca_num.specs.Rational.{Ratio, over, ratio_sum, ratio_difference, ratio_product, ratio_quotient}
use Rattle.fisca_num.specs.Number.{Number, ratio_of}
use Rattle.fisca_num.specs.Value.{IsNumberOf}
use Rattle.fisca_num.specs.Answer.{answer_of, answer_once}

-- the answer that `IsNumberOf` allows, the only one (`number_of_law`)
pub number_of : Ratio → Result Number NumFault
number_of r = (answer_of r).value

-- n / d
unfoldable pub number_over : ℤ → ℤ → Result Number NumFault
number_over n d = number_of (over n d)

unfoldable pub sum_of : Number → Number → Result Number NumFault
sum_of a b = number_of (ratio_sum (ratio_of a) (ratio_of b))

unfoldable pub difference_of : Number → Number → Result Number NumFault
difference_of a b = number_of (ratio_difference (ratio_of a) (ratio_of b))

unfoldable pub product_of : Number → Number → Result Number NumFault
product_of a b = number_of (ratio_product (ratio_of a) (ratio_of b))

unfoldable pub quotient_of : Number → Number → Result Number NumFault
quotient_of a b = number_of (ratio_quotient (ratio_of a) (ratio_of b))

pub is_number_of : (r : Ratio) → IsNumberOf r (number_of r)
unfolding number_of
is_number_of r = (answer_of r).is

pub only_number_of : (r : Ratio) (o : Result Number NumFault) → IsNumberOf r o → o ≡ number_of r
only_number_of r o h = answer_once r o (number_of r) h (is_number_of r)

-- `number_of r` is what `IsNumberOf r` allows, and nothing else is
pub number_of_law : (r : Ratio) (o : Result Number NumFault) → IsNumberOf r o ↔ (o ≡ number_of r)
number_of_law r o = (only_number_of r o, λ e. subst (IsNumberOf r) (sym e) (is_number_of r))
