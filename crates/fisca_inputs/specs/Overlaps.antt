-- Periods that share a day, and inputs whose periods do.
use Rattle.std.specs.Prelude.{Bool, ◌&&◌, ◌||◌, nat_lt}
use Rattle.fisca_time.specs.Period.{Span, is_eternal, start_day, stop_day}

-- the one starts before the other ends; eternity has no start and no end
abbrev pub starts_before : Span → Span → Bool
starts_before p q = is_eternal p || (is_eternal q || nat_lt (start_day p) (stop_day q))

-- each of the two starts before it ends itself, and before the other does
abbrev pub shares_day : Span → Span → Bool
shares_day p q = (starts_before p p && starts_before q q) && (starts_before p q && starts_before q p)
