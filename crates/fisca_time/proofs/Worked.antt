-- The definitions of periods, worked out.
use Rattle.std.proofs.Common.{◌≡◌, ℕ, ◌∙◌, ap, sym, codes, refl, Ok, Err, pos, negsuc, [], ◌∷◌, arith}
use Rattle.std.specs.Fmt.{digits}
use Rattle.jiff_core.specs.Calendar.{day_count, days_of_years, days_of_months}
use Rattle.fisca_time.specs.Calendar.{next_day, day_in_month, month_number, day_number, date_of}
use Rattle.fisca_time.specs.Instant.{CivilDate, instant_of_text}
use Rattle.fisca_time.specs.Period.{eternity, months, days, moved_by, subs, months_of, days_of, this_year_of, first_month_of, first_day_of, last_month_of, last_year_of, n_2_of, last_3_months_of, month_start, Overlaps, span_cmp}
use Rattle.fisca_time.specs.PeriodText.{period_of_text, text_of}
use Rattle.fisca_time.specs.Unit.{unit_cmp}
use Rattle.fisca_time.specs.declared.fault.TimeFault.TheVariants.{BadText, OutOfRange}
use Rattle.fisca_time.specs.declared.unit.Unit.TheVariants.{Day, Month, Year, Eternity}
use Rattle.std.specs.declared.cmp.Ordering.TheVariants.{Less}
use Rattle.fisca_time.proofs.Days.{date_of_number}

abbrev date : ℕ → ℕ → ℕ → CivilDate
date y m d = record { year = y; month = m; day = d }

-- ---- units

a_day_is_least : unit_cmp Day Month ≡ Less
a_day_is_least = refl

a_month_below_a_year : unit_cmp Month Year ≡ Less
a_month_below_a_year = refl

a_year_below_eternity : unit_cmp Year Eternity ≡ Less
a_year_below_eternity = refl

-- ---- the calendar

after_28_february : next_day (date 2016 2 28) ≡ date 2016 2 29
after_28_february = refl

after_29_february : next_day (date 2016 2 29) ≡ date 2016 3 1
after_29_february = refl

the_hundredth_year : next_day (date 1900 2 28) ≡ date 1900 3 1
the_hundredth_year = refl

the_four_hundredth_year : next_day (date 2000 2 28) ≡ date 2000 2 29
the_four_hundredth_year = refl

new_year : next_day (date 2015 12 31) ≡ date 2016 1 1
new_year = refl

-- the number of 2016-02-29
leap_day : day_number (date 2016 2 29) ≡ 4_388_813
unfolding day_count days_of_years days_of_months
leap_day = refl

leap_day_back : date_of 4_388_813 ≡ date 2016 2 29
leap_day_back = ap date_of (sym leap_day) ∙ date_of_number (date 2016 2 29) refl

new_year_number : day_number (date 2016 1 1) ≡ 4_388_754
unfolding day_count days_of_years days_of_months
new_year_number = refl

new_year_back : date_of 4_388_754 ≡ date 2016 1 1
new_year_back = ap date_of (sym new_year_number) ∙ date_of_number (date 2016 1 1) refl

january_31_number : day_number (date 2016 1 31) ≡ 4_388_784
unfolding day_count days_of_years days_of_months
january_31_number = refl

january_31_back : date_of 4_388_784 ≡ date 2016 1 31
january_31_back = ap date_of (sym january_31_number) ∙ date_of_number (date 2016 1 31) refl

too_short_by_a_year : day_in_month 29 (month_number (date 2017 2 1)) ≡ date 2017 2 28
too_short_by_a_year = refl

too_short : day_in_month 31 (month_number (date 2016 2 1)) ≡ date 2016 2 29
too_short = refl

february_28_number : day_number (date 2017 2 28) ≡ 4_389_178
unfolding day_count days_of_years days_of_months
february_28_number = refl

february_1_number : day_number (date 2016 2 1) ≡ 4_388_785
unfolding day_count days_of_years days_of_months
february_1_number = refl

-- ---- texts

a_year : period_of_text (codes "2010") ≡ Ok (months Year 24_120 1)
a_year = refl

a_month : period_of_text (codes "2010-4") ≡ Ok (months Month 24_123 1)
a_month = refl

three_years : period_of_text (codes "year:2010-04:3") ≡ Ok (months Year 24_123 3)
three_years = refl

a_year_named : period_of_text (codes "year:2010") ≡ Ok (months Year 24_120 1)
a_year_named = refl

a_year_from_april : period_of_text (codes "year:2010-04") ≡ Ok (months Year 24_123 1)
a_year_from_april = refl

three_calendar_years : period_of_text (codes "year:2010:3") ≡ Ok (months Year 24_120 3)
three_calendar_years = refl

a_month_named : period_of_text (codes "month:2010-04") ≡ Ok (months Month 24_123 1)
a_month_named = refl

three_months : period_of_text (codes "month:2010-04:3") ≡ Ok (months Month 24_123 3)
three_months = refl

a_size_with_a_zero_before_it : period_of_text (codes "year:2010:03") ≡ Ok (months Year 24_120 3)
a_size_with_a_zero_before_it = refl

a_day : period_of_text (codes "2016-02-29") ≡ Ok (days 4_388_813 1)
unfolding day_count days_of_years days_of_months
a_day = refl

a_day_in_one_digit : period_of_text (codes "2016-1-1") ≡ Ok (days 4_388_754 1)
unfolding day_count days_of_years days_of_months
a_day_in_one_digit = refl

two_days : period_of_text (codes "day:2016-02-28:2") ≡ Ok (days 4_388_812 2)
unfolding day_count days_of_years days_of_months
two_days = refl

a_day_named : period_of_text (codes "day:2016-02-29") ≡ Ok (days 4_388_813 1)
unfolding day_count days_of_years days_of_months
a_day_named = refl

the_largest_size : period_of_text (codes "day:2016-01-01:1200") ≡ Ok (days 4_388_754 1200)
unfolding day_count days_of_years days_of_months
the_largest_size = refl

the_last_day : period_of_text (codes "9999-12-31") ≡ Ok (days 7_304_849 1)
unfolding day_count days_of_years days_of_months
the_last_day = refl

past_the_last_day : period_of_text (codes "day:9999-12-31:2") ≡ Err OutOfRange
unfolding day_count days_of_years days_of_months
past_the_last_day = refl

no_such_day : period_of_text (codes "2016-02-30") ≡ Err OutOfRange
no_such_day = refl

no_leap_day : period_of_text (codes "1900-02-29") ≡ Err OutOfRange
no_leap_day = refl

too_many : period_of_text (codes "day:2016-01-01:1201") ≡ Err OutOfRange
too_many = refl

no_days : period_of_text (codes "day:2016-01-01:0") ≡ Err OutOfRange
no_days = refl

too_many_months : period_of_text (codes "month:2010-04:1201") ≡ Err OutOfRange
too_many_months = refl

past_the_last_month : period_of_text (codes "year:9999-02") ≡ Err OutOfRange
past_the_last_month = refl

no_such_month : period_of_text (codes "2014-13") ≡ Err OutOfRange
no_such_month = refl

no_such_month_of_a_day : period_of_text (codes "2014-13-01") ≡ Err OutOfRange
no_such_month_of_a_day = refl

no_such_year : period_of_text (codes "0000") ≡ Err OutOfRange
no_such_year = refl

days_from_a_month : period_of_text (codes "day:2010-04") ≡ Err BadText
days_from_a_month = refl

months_from_a_day : period_of_text (codes "month:2010-04-05") ≡ Err BadText
months_from_a_day = refl

years_from_a_day : period_of_text (codes "year:2010-04-05") ≡ Err BadText
years_from_a_day = refl

a_month_without_its_number : period_of_text (codes "month:2014") ≡ Err BadText
a_month_without_its_number = refl

months_without_a_number : period_of_text (codes "month:2014:3") ≡ Err BadText
months_without_a_number = refl

no_size : period_of_text (codes "year:2010:") ≡ Err BadText
no_size = refl

a_size_without_a_unit : period_of_text (codes "2010:3") ≡ Err BadText
a_size_without_a_unit = refl

the_form_first : period_of_text (codes "month:0000-13:0x") ≡ Err BadText
the_form_first = refl

all_of_time : period_of_text (codes "eternity") ≡ Ok eternity
all_of_time = refl

all_of_time_in_capitals : period_of_text (codes "ETERNITY") ≡ Ok eternity
all_of_time_in_capitals = refl

instants_are_strict : instant_of_text (codes "2016-1-1") ≡ Err BadText
instants_are_strict = refl

an_instant : instant_of_text (codes "2016-02-29") ≡ Ok (date 2016 2 29)
an_instant = refl

no_such_instant : instant_of_text (codes "2015-02-29") ≡ Err OutOfRange
no_such_instant = refl

no_instant_in_the_year_0 : instant_of_text (codes "0000-01-01") ≡ Err OutOfRange
no_instant_in_the_year_0 = refl

a_year_written : text_of (months Year 24_120 1) ≡ codes "2010"
unfolding digits
a_year_written = refl

a_month_written : text_of (months Month 24_123 1) ≡ codes "2010-04"
unfolding digits
a_month_written = refl

a_year_from_april_written : text_of (months Year 24_123 1) ≡ codes "year:2010-04"
unfolding digits
a_year_from_april_written = refl

three_calendar_years_written : text_of (months Year 24_120 3) ≡ codes "year:2010:3"
unfolding digits
three_calendar_years_written = refl

three_years_written : text_of (months Year 24_123 3) ≡ codes "year:2010-04:3"
unfolding digits
three_years_written = refl

twelve_months_written : text_of (months Month 24_120 12) ≡ codes "month:2010-01:12"
unfolding digits
twelve_months_written = refl

a_day_written : text_of (days 4_388_754 1) ≡ codes "2016-01-01"
unfolding digits
a_day_written = rw new_year_back refl

two_days_written : text_of (days 4_388_813 2) ≡ codes "day:2016-02-29:2"
unfolding digits
two_days_written = rw leap_day_back refl

all_of_time_written : text_of eternity ≡ codes "ETERNITY"
all_of_time_written = refl

-- ---- moves

one_day_on : moved_by (pos 1) Day (days 4_388_812 2) ≡ Ok (days 4_388_813 2)
one_day_on = refl

a_month_back : moved_by (negsuc 0) Month (months Month 24_124 3) ≡ Ok (months Month 24_123 3)
a_month_back = refl

three_months_on : moved_by (pos 1) Month (months Month 24_170 3) ≡ Ok (months Month 24_171 3)
three_months_on = refl

-- 2016-01-31 by one month is 2016-02-29
to_the_last_day : moved_by (pos 1) Month (days 4_388_784 1) ≡ Ok (days 4_388_813 1)
to_the_last_day = rw (january_31_back, leap_day) refl

-- 2016-02-29 by one year is 2017-02-28
to_the_last_day_of_a_shorter_year : moved_by (pos 1) Year (days 4_388_813 2) ≡ Ok (days 4_389_178 2)
to_the_last_day_of_a_shorter_year = rw (leap_day_back, february_28_number) refl

-- 2016-01-01 by one month is 2016-02-01
to_its_day : moved_by (pos 1) Month (days 4_388_754 1) ≡ Ok (days 4_388_785 1)
to_its_day = rw (new_year_back, february_1_number) refl

months_not_by_days : moved_by (pos 0) Day (months Month 24_123 1) ≡ Err OutOfRange
months_not_by_days = refl

years_not_by_days : moved_by (pos 1) Day (months Year 24_120 1) ≡ Err OutOfRange
years_not_by_days = refl

not_by_eternities : moved_by (pos 0) Eternity (months Month 24_123 1) ≡ Err OutOfRange
not_by_eternities = refl

days_not_by_eternities : moved_by (pos 0) Eternity (days 4_388_754 1) ≡ Err OutOfRange
days_not_by_eternities = refl

past_the_calendar : moved_by (pos 1) Day (days 7_304_849 1) ≡ Err OutOfRange
past_the_calendar = refl

before_the_calendar : moved_by (negsuc 0) Day (days 3_652_791 1) ≡ Err OutOfRange
before_the_calendar = refl

months_past_the_calendar : moved_by (pos 1) Month (months Month 119_999 1) ≡ Err OutOfRange
months_past_the_calendar = refl

not_moved : moved_by (pos 0) Day eternity ≡ Err OutOfRange
not_moved = refl

its_year : this_year_of (days 4_388_813 2) ≡ Ok (months Year 24_192 1)
its_year = rw leap_day_back refl

its_month : first_month_of (days 4_388_813 2) ≡ Ok (months Month 24_193 1)
its_month = rw leap_day_back refl

its_first_day : first_day_of (days 4_388_813 2) ≡ Ok (days 4_388_813 1)
its_first_day = refl

the_first_day_of_a_month : first_day_of (months Month 24_193 1) ≡ Ok (days 4_388_785 1)
the_first_day_of_a_month = rw february_1_number refl

the_month_before : last_month_of (days 4_388_813 2) ≡ Ok (months Month 24_192 1)
the_month_before = rw leap_day_back refl

the_year_before : last_year_of (days 4_388_813 2) ≡ Ok (months Year 24_180 1)
the_year_before = rw leap_day_back refl

two_years_before : n_2_of (days 4_388_813 2) ≡ Ok (months Year 24_168 1)
two_years_before = rw leap_day_back refl

three_before : last_3_months_of (months Month 24_193 1) ≡ Ok (months Month 24_190 3)
three_before = refl

no_first_day : first_day_of eternity ≡ Err OutOfRange
no_first_day = refl

the_three_months_before : last_3_months_of (months Month 24_204 1) ≡ Ok (months Month 24_201 3)
the_three_months_before = refl

no_year : this_year_of eternity ≡ Err OutOfRange
no_year = refl

no_month : first_month_of eternity ≡ Err OutOfRange
no_month = refl

-- ---- parts

february_2016 : days_of (months Month 24_193 1) ≡ 29
unfolding day_count days_of_years days_of_months
february_2016 = refl

the_year_2015 : days_of (months Year 24_180 1) ≡ 365
unfolding day_count days_of_years days_of_months
the_year_2015 = refl

two_days_of_two : subs (days 4_388_812 2) Day ≡ days 4_388_812 1 ∷ days 4_388_813 1 ∷ []
two_days_of_two = refl

twelve_months : months_of (months Year 24_123 1) ≡ 12
twelve_months = refl

months_of_months : subs (months Month 24_123 2) Month ≡ months Month 24_123 1 ∷ months Month 24_124 1 ∷ []
months_of_months = refl

-- the calendar years from that of the start on
years_of_years : subs (months Year 24_123 2) Year ≡ months Year 24_120 1 ∷ months Year 24_132 1 ∷ []
years_of_years = refl

no_months_of_days : subs (days 4_388_812 2) Month ≡ []
no_months_of_days = refl

no_years_of_days : subs (days 4_388_754 366) Year ≡ []
no_years_of_days = refl

no_years_of_months : subs (months Month 24_120 12) Year ≡ []
no_years_of_months = refl

no_eternities : subs (months Year 24_120 1) Eternity ≡ []
no_eternities = refl

no_days_of_eternity : subs eternity Day ≡ []
no_days_of_eternity = refl

february_starts : month_start 24_193 ≡ 4_388_785
unfolding day_count days_of_years days_of_months
february_starts = refl

march_starts : month_start 24_194 ≡ 4_388_814
unfolding day_count days_of_years days_of_months
march_starts = refl

-- 2016-02-29 lies in February 2016, and not in March
in_its_month : Overlaps (days 4_388_813 1) (months Month 24_193 1)
in_its_month = (4_388_813, (omega arith, omega arith), (omega (arith, february_starts), omega (arith, march_starts)))

before_march : Overlaps (days 4_388_813 1) (months Month 24_194 1) → ⊥
before_march both = omega (arith, both.1.1, both.2.0, march_starts)

in_eternity : Overlaps (days 4_388_813 1) eternity
in_eternity = (4_388_813, (omega arith, omega arith), tt)

days_before_months : span_cmp (days 7_304_849 1) (months Month 12 1) ≡ Less
days_before_months = refl

by_the_start : span_cmp (days 4_388_812 2) (days 4_388_813 1) ≡ Less
by_the_start = refl

then_by_the_size : span_cmp (days 4_388_812 1) (days 4_388_812 2) ≡ Less
then_by_the_size = refl
