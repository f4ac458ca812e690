-- Units of periods.
use Rattle.std.specs.Prelude.{ℕ, zero, suc, Bool, true, false}
use Rattle.std.specs.Ordering.{nat_cmp, on}
use Rattle.std.specs.declared.cmp.Ordering.{Ordering}
use Rattle.fisca_time.specs.declared.unit.Unit.{Unit}
use Rattle.fisca_time.specs.declared.unit.Unit.TheVariants.{Day, Month, Year, Eternity}

-- the months in one such unit; days and eternity are not counted in months
abbrev pub months_in : Unit → ℕ
months_in Day = 0
months_in Month = 1
months_in Year = 12
months_in Eternity = 0

abbrev pub is_day : Unit → Bool
is_day Day = true
is_day Month = false
is_day Year = false
is_day Eternity = false

abbrev pub is_month : Unit → Bool
is_month Day = false
is_month Month = true
is_month Year = false
is_month Eternity = false

abbrev pub is_year : Unit → Bool
is_year Day = false
is_year Month = false
is_year Year = true
is_year Eternity = false

-- the place of a unit among all, the smallest first
abbrev pub rank : Unit → ℕ
rank Day = 0
rank Month = 1
rank Year = 2
rank Eternity = 3

-- and the unit at a place; eternity at any later one
abbrev pub unit_ranked : ℕ → Unit
unit_ranked zero = Day
unit_ranked (suc zero) = Month
unit_ranked (suc (suc zero)) = Year
unit_ranked (suc (suc (suc _))) = Eternity

abbrev pub unit_cmp : Unit → Unit → Ordering
unit_cmp = on rank nat_cmp
