-- What is done with the numbers of lanes that have a fraction each.
use Rattle.std.specs.Prelude.{ℤ, pos, Result, Ok}
use Rattle.fisca_num.specs.declared.faults.NumFault.{NumFault}
use Rattle.fisca_num.specs.Number.{Number, trunc_of}
use Rattle.fisca_num.specs.Operations.{sum_of, difference_of, product_of, quotient_of}
use Rattle.fisca_num.specs.Rounding.{floor_of, ceil_of, round_of, number_of_whole, rounded_to}
use Rattle.fisca_vectors.specs.declared.fractions.FractionOperation.{FractionOperation}
use Rattle.fisca_vectors.specs.declared.fractions.FractionOperation.TheVariants.{Add, Sub, Mul, Div}
use Rattle.fisca_vectors.specs.declared.fractions.FractionRounding.{FractionRounding}
use Rattle.fisca_vectors.specs.declared.fractions.FractionRounding.TheVariants.{Whole, Floor, Ceiling, Nearest}

abbrev pub by_operation : FractionOperation → Number → Number → Result Number NumFault
by_operation Add = sum_of
by_operation Sub = difference_of
by_operation Mul = product_of
by_operation Div = quotient_of

abbrev pub whole_by : FractionRounding → Number → ℤ
whole_by Whole v = trunc_of v
whole_by Floor v = floor_of v
whole_by Ceiling v = ceil_of v
whole_by Nearest v = round_of v

-- the whole number that a number is rounded to
abbrev pub rounded_by : FractionRounding → Number → Result Number NumFault
rounded_by rounding v = number_of_whole (whole_by rounding v)
