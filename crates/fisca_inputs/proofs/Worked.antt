-- The definition of inputs beside its sentences.
use Rattle.std.proofs.Common.{◌≡◌, ℕ, List, [], ◌∷◌, ◌++◌, map, refl, lit<}
use Rattle.std.specs.Prelude.{Some, None, Option, Ok, Err, true, false}
use Rattle.std.specs.List.{range_with_len}
use Rattle.jiff_core.specs.Calendar.{day_count, days_of_years, days_of_months}
use Rattle.fisca_num.specs.Number.{Number, zero_number}
use Rattle.fisca_symbols.specs.declared.variable.SetInput.{SetInput}
use Rattle.fisca_symbols.specs.declared.variable.SetInput.TheVariants as sharing
use Rattle.fisca_time.specs.Period.{Span, eternity, months, day_at, month_at}
use Rattle.fisca_time.specs.declared.unit.Unit.{Unit}
use Rattle.fisca_time.specs.declared.unit.Unit.TheVariants as unit
use Rattle.fisca_inputs.specs.declared.fault.SituationKind.TheVariants.{UnknownVariable, PeriodMismatch, InconsistentInput}
use Rattle.fisca_inputs.specs.declared.given.Given.{Given}
use Rattle.fisca_model.specs.declared.key.Key.{Key}
use Rattle.fisca_model.specs.declared.value.Value.{Value}
use Rattle.fisca_model.specs.declared.value.Value.TheVariants as v
use Rattle.fisca_inputs.specs.Entries.{key}
use Rattle.fisca_inputs.specs.Faults.{at_line}
use Rattle.fisca_inputs.specs.Inputs.{inputs_of, and_given, without_marked}
use Rattle.fisca_inputs.specs.Steps.Order.{in_order}
use Rattle.fisca_inputs.specs.Rules.{Rule, is_accepted}
use Rattle.fisca_inputs.proofs.Numbers.{whole, difference_is, part_is}

abbrev rule : Unit → Option SetInput → Value → Rule
rule u s d = record { entity = 0; unit = u; set_input = s; default = Some d }

abbrev zero : Value
zero = v.Number zero_number

-- monthly and divided; monthly and dispatched; yearly; daily and dispatched; daily and divided; monthly without a rule; eternal
abbrev rules : List Rule
rules =
    rule unit.Month (Some sharing.DivideByPeriod) zero ∷ rule unit.Month (Some sharing.DispatchByPeriod) zero ∷ rule unit.Year None zero ∷
    rule unit.Day (Some sharing.DispatchByPeriod) zero ∷ rule unit.Day (Some sharing.DivideByPeriod) zero ∷ rule unit.Month None zero ∷
    rule unit.Eternity None (v.Bool false) ∷ []

abbrev one_person : List ℕ
one_person = 1 ∷ []

abbrev two_persons : List ℕ
two_persons = 2 ∷ []

abbrev given : ℕ → ℕ → Span → Value → ℕ → Given
given x m p a n = record { variable = x; member = m; period = p; value = a; line = n }

-- January 2017 has the number 24204
abbrev january : Span
january = months unit.Month 24204 1

abbrev year_2017 : Span
year_2017 = months unit.Year 24204 1

abbrev n100 : Number
n100 = whole 100 (lit< tt)

abbrev n1200 : Number
n1200 = whole 1200 (lit< tt)

abbrev is_100 : ℕ → Key × Value
is_100 month = (key 0 0 (month_at month), v.Number n100)

-- a year of 1200 beside a January of 100: each other month has 100, and December too
year_beside_a_month : inputs_of rules one_person (given 0 0 year_2017 (v.Number n1200) 2 ∷ given 0 0 january (v.Number n100) 3 ∷ [])
    ≡ Ok (map is_100 (range_with_len 24204 12))
year_beside_a_month =
    rw (difference_is n1200 n100 (whole 1100 (lit< tt)) refl (lit< tt), part_is (whole 1100 (lit< tt)) 11 n100 refl (lit< tt)) refl

abbrev monthly_100 : ℕ → Given
monthly_100 month = given 0 0 (month_at month) (v.Number n100) 3

-- eleven months of 100 and a December of 50 leave 50 of it, which no month takes
nothing_takes_the_rest : inputs_of rules one_person (given 0 0 year_2017 (v.Number n1200) 2 ∷ map monthly_100 (range_with_len 24204 11) ++ given 0 0 (month_at 24215) (v.Number (whole 50 (lit< tt))) 14 ∷ [])
    ≡ Err (at_line 2 InconsistentInput)
nothing_takes_the_rest =
    rw (
      difference_is n1200 n100 (whole 1100 (lit< tt)) refl (lit< tt),
      difference_is (whole 1100 (lit< tt)) n100 (whole 1000 (lit< tt)) refl (lit< tt),
      difference_is (whole 1000 (lit< tt)) n100 (whole 900 (lit< tt)) refl (lit< tt),
      difference_is (whole 900 (lit< tt)) n100 (whole 800 (lit< tt)) refl (lit< tt),
      difference_is (whole 800 (lit< tt)) n100 (whole 700 (lit< tt)) refl (lit< tt),
      difference_is (whole 700 (lit< tt)) n100 (whole 600 (lit< tt)) refl (lit< tt),
      difference_is (whole 600 (lit< tt)) n100 (whole 500 (lit< tt)) refl (lit< tt),
      difference_is (whole 500 (lit< tt)) n100 (whole 400 (lit< tt)) refl (lit< tt),
      difference_is (whole 400 (lit< tt)) n100 (whole 300 (lit< tt)) refl (lit< tt),
      difference_is (whole 300 (lit< tt)) n100 (whole 200 (lit< tt)) refl (lit< tt),
      difference_is (whole 200 (lit< tt)) n100 n100 refl (lit< tt),
      difference_is n100 (whole 50 (lit< tt)) (whole 50 (lit< tt)) refl (lit< tt),
    ) refl

-- the two months of 200 are shared beside the January of 50, and the year of 1200 beside both
three_lengths : inputs_of rules one_person (given 0 0 year_2017 (v.Number n1200) 2 ∷ given 0 0 (months unit.Month 24204 2) (v.Number (whole 200 (lit< tt))) 3 ∷ given 0 0 january (v.Number (whole 50 (lit< tt))) 4 ∷ [])
    ≡ Ok ((key 0 0 january, v.Number (whole 50 (lit< tt))) ∷ (key 0 0 (month_at 24205), v.Number (whole 150 (lit< tt))) ∷ map is_100 (range_with_len 24206 10))
three_lengths =
    rw (
      difference_is (whole 200 (lit< tt)) (whole 50 (lit< tt)) (whole 150 (lit< tt)) refl (lit< tt),
      part_is (whole 150 (lit< tt)) 1 (whole 150 (lit< tt)) refl (lit< tt),
      difference_is n1200 (whole 50 (lit< tt)) (whole 1150 (lit< tt)) refl (lit< tt),
      difference_is (whole 1150 (lit< tt)) (whole 150 (lit< tt)) (whole 1000 (lit< tt)) refl (lit< tt),
      part_is (whole 1000 (lit< tt)) 10 n100 refl (lit< tt),
    ) refl

abbrev ten : Value
ten = v.Number (whole 10 (lit< tt))

abbrev seven : Value
seven = v.Number (whole 7 (lit< tt))

abbrev is_ten : ℕ → Key × Value
is_ten month = (key 1 0 (month_at month), ten)

-- the year from April 2016, dispatched: each month has the whole
year_dispatched : inputs_of rules one_person (given 1 0 (months unit.Year 24195 1) ten 2 ∷ []) ≡ Ok (map is_ten (range_with_len 24195 12))
year_dispatched = refl

-- a month that has a value keeps it, and the others have the whole all the same
dispatched_beside_a_month : inputs_of rules one_person (given 1 0 (months unit.Month 24204 3) ten 2 ∷ given 1 0 (month_at 24205) seven 3 ∷ [])
    ≡ Ok ((key 1 0 (month_at 24205), seven) ∷ is_ten 24204 ∷ is_ten 24206 ∷ [])
dispatched_beside_a_month = refl

own_year : inputs_of rules one_person (given 2 0 year_2017 ten 2 ∷ []) ≡ Ok ((key 2 0 year_2017, ten) ∷ [])
own_year = refl

abbrev one : Value
one = v.Number (whole 1 (lit< tt))

abbrev present : ℕ → Key × Value
present day = (key 3 0 (day_at day), one)

-- February 2016 over its days, with a 0 on the tenth
days_dispatched : inputs_of rules one_person (given 3 0 (months unit.Month 24193 1) one 2 ∷ given 3 0 (day_at 4_388_794) zero 3 ∷ [])
    ≡ Ok ((key 3 0 (day_at 4_388_794), zero) ∷ map present (range_with_len 4_388_785 9 ++ range_with_len 4_388_795 19))
unfolding day_count days_of_years days_of_months
days_dispatched = refl

abbrev is_three : ℕ → Key × Value
is_three day = (key 4 0 (day_at day), v.Number (whole 3 (lit< tt)))

-- 100 over February 2017 with 19 on the first: 3 on each of the 27 other days
days_divided : inputs_of rules one_person (given 4 0 (months unit.Month 24205 1) (v.Number n100) 2 ∷ given 4 0 (day_at 4_389_151) (v.Number (whole 19 (lit< tt))) 3 ∷ [])
    ≡ Ok ((key 4 0 (day_at 4_389_151), v.Number (whole 19 (lit< tt))) ∷ map is_three (range_with_len 4_389_152 27))
unfolding day_count days_of_years days_of_months
days_divided =
    rw (
      difference_is n100 (whole 19 (lit< tt)) (whole 81 (lit< tt)) refl (lit< tt),
      part_is (whole 81 (lit< tt)) 27 (whole 3 (lit< tt)) refl (lit< tt),
    ) refl

-- Defaults

-- Bob has none where Ann has 50
default_beside_another : inputs_of rules two_persons (given 5 0 january (v.Number (whole 50 (lit< tt))) 4 ∷ [])
    ≡ Ok ((key 5 0 january, v.Number (whole 50 (lit< tt))) ∷ (key 5 1 january, zero) ∷ [])
default_beside_another = refl

both_given : inputs_of rules two_persons (given 5 1 january ten 4 ∷ given 5 0 january seven 7 ∷ [])
    ≡ Ok ((key 5 1 january, ten) ∷ (key 5 0 january, seven) ∷ [])
both_given = refl

-- at other periods than those of another's input there is none
default_at_each_period : inputs_of rules two_persons (given 5 1 january ten 4 ∷ given 5 0 (month_at 24205) seven 7 ∷ [])
    ≡ Ok ((key 5 1 january, ten) ∷ (key 5 0 (month_at 24205), seven) ∷ (key 5 0 january, zero) ∷ (key 5 1 (month_at 24205), zero) ∷ [])
default_at_each_period = refl

-- The order

abbrev told : ℕ → Span → Given
told x p = given x 0 p ten 1

shorter_first : in_order rules (told 0 year_2017 ∷ told 0 january ∷ []) ≡ told 0 january ∷ told 0 year_2017 ∷ []
shorter_first = refl

earlier_first : in_order rules (told 0 (month_at 24205) ∷ told 0 january ∷ []) ≡ told 0 january ∷ told 0 (month_at 24205) ∷ []
earlier_first = refl

smaller_unit_first : in_order rules (told 0 year_2017 ∷ told 0 (months unit.Month 24204 12) ∷ []) ≡ told 0 (months unit.Month 24204 12) ∷ told 0 year_2017 ∷ []
smaller_unit_first = refl

as_in_the_file : in_order rules (told 5 january ∷ told 0 january ∷ []) ≡ told 5 january ∷ told 0 january ∷ []
as_in_the_file = refl

-- 28 days come behind 12 months
days_and_months_as_numbers : in_order rules (told 3 (month_at 24205) ∷ told 0 year_2017 ∷ []) ≡ told 0 year_2017 ∷ told 3 (month_at 24205) ∷ []
unfolding day_count days_of_years days_of_months
days_and_months_as_numbers = refl

-- Faults

two_of_one_key : and_given (told 0 january ∷ []) (given 0 0 january seven 8) ≡ Err (at_line 8 InconsistentInput)
two_of_one_key = refl

-- twelve months and a year are two periods: sharing decides
one_year_twice : and_given (told 0 year_2017 ∷ []) (told 0 (months unit.Month 24204 12)) ≡ Ok (told 0 year_2017 ∷ told 0 (months unit.Month 24204 12) ∷ [])
one_year_twice = refl

longer_without_a_rule : inputs_of rules one_person (given 5 0 year_2017 ten 2 ∷ []) ≡ Err (at_line 2 PeriodMismatch)
longer_without_a_rule = refl

day_for_a_monthly_variable : inputs_of rules one_person (given 0 0 (day_at 4_389_151) ten 2 ∷ []) ≡ Err (at_line 2 PeriodMismatch)
day_for_a_monthly_variable = refl

no_such_variable : inputs_of rules one_person (given 9 0 january ten 2 ∷ []) ≡ Err (at_line 2 UnknownVariable)
no_such_variable = refl

-- Periods

eternal_at_any_period : is_accepted (rule unit.Eternity None zero) january ≡ true
eternal_at_any_period = refl

eternal_key : inputs_of rules one_person (given 6 0 eternity (v.Bool true) 2 ∷ []) ≡ Ok ((key 6 0 eternity, v.Bool true) ∷ [])
eternal_key = refl

month_for_a_year : is_accepted (rule unit.Year (Some sharing.DispatchByPeriod) zero) january ≡ false
month_for_a_year = refl

-- of the two calendar years that the period begins in and goes on into
years_from_april : inputs_of (rule unit.Year (Some sharing.DispatchByPeriod) zero ∷ []) one_person (given 0 0 (months unit.Year 24195 2) ten 2 ∷ [])
    ≡ Ok ((key 0 0 (months unit.Year 24192 1), ten) ∷ (key 0 0 year_2017, ten) ∷ [])
years_from_april = refl

-- Neutralised variables

without_one : without_marked (false ∷ false ∷ true ∷ []) ((key 2 0 year_2017, ten) ∷ (key 1 0 january, seven) ∷ (key 5 0 january, ten) ∷ [])
    ≡ (key 1 0 january, seven) ∷ (key 5 0 january, ten) ∷ []
without_one = refl
