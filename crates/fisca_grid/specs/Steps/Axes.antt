-- The steps of code behind `Axes`:
-- An axis of a grid.
use Rattle.std.specs.Prelude.{◌*◌, ◌%◌, unsigned_abs, Bool, ◌&&◌, ◌==◌, nat_le}
use Rattle.fisca_num.specs.Number.{Number}

-- a bound of an axis has a size of at most 10^9 and at most three decimals
abbrev pub is_bound : Number → Bool
is_bound v = (1000 % v.denominator == 0) && nat_le (unsigned_abs v.numerator) (1000000000 * v.denominator)
