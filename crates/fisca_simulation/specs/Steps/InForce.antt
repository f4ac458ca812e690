-- The steps of code behind the formulas of a variable.
use Rattle.std.specs.Prelude.{Bool, false, Option, Some, None}
use Rattle.std.specs.Ordering.{is_lt}
use Rattle.fisca_time.specs.Instant.{CivilDate, date_cmp}

-- the last day on which there are formulas lies before the day
abbrev pub has_ended : Option CivilDate → CivilDate → Bool
has_ended None day = false
has_ended (Some end) day = is_lt (date_cmp end day)
