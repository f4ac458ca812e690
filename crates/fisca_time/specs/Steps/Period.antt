-- The steps of code behind `Period`:
-- Periods: eternity, a size counted in a unit of months from the first of a month on, or a size counted in days from a day on.
use Rattle.std.specs.Prelude.{Bool, true, false}
use Rattle.fisca_time.specs.Period.{Span, eternity, months, days}

-- counted in months or years
abbrev pub is_of_months : Span → Bool
is_of_months eternity = false
is_of_months (months _ _ _) = true
is_of_months (days _ _) = false
