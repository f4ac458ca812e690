-- The periods at which keys have values.
use Rattle.std.specs.Prelude.{◌==◌, ◌&&◌, Bool, true, false}
use Rattle.fisca_time.specs.Period.{Span, eternity, unit_of, size_of}
use Rattle.fisca_time.specs.Unit.{is_day, is_month, is_year}
use Rattle.fisca_time.specs.declared.unit.Unit.{Unit}
use Rattle.fisca_time.specs.declared.unit.Unit.TheVariants as unit

-- a variable is asked for at one unit of its definition period; one of eternity at any period
abbrev pub fits : Unit → Span → Bool
fits unit.Day p = is_day (unit_of p) && (size_of p == 1)
fits unit.Month p = is_month (unit_of p) && (size_of p == 1)
fits unit.Year p = is_year (unit_of p) && (size_of p == 1)
fits unit.Eternity p = true

-- that of a variable of eternity has the eternal period
abbrev pub key_period : Unit → Span → Span
key_period unit.Day p = p
key_period unit.Month p = p
key_period unit.Year p = p
key_period unit.Eternity p = eternity

abbrev pub is_eternity : Unit → Bool
is_eternity unit.Day = false
is_eternity unit.Month = false
is_eternity unit.Year = false
is_eternity unit.Eternity = true
