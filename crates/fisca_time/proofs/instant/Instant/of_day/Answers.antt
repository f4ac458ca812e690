use Rattle.std.proofs.Common.{◌≡◌, ◌-◌, arith, ◌∙◌, unsigned_abs}
use Rattle.jiff_core.specs.Calendar.{day_count}
use Rattle.fisca_time.proofs.Days.{number_from_min, year_from_count, date_from_count, same_parts}
use Rattle.fisca_time.proofs.instant.Instant.of_day.Goals as goal

pub of_date-requires : goal.of_date-requires
of_date-requires c =
    let d = c.from_days_since_min.result in
    let is : day_count d.year d.month d.day ≡ c.args.day = omega (arith, number_from_min d.year d.month d.day (c.args.day - 366) c.from_days_since_min.ensures, c.requires.from) in
    year_from_count d.year d.month d.day c.args.day (d.year_in, d.month_in, d.day_in) is c.requires.from

pub returns : goal.returns
returns c =
    let d = c.from_days_since_min.result in
    let is : day_count d.year d.month d.day ≡ c.args.day = omega (arith, number_from_min d.year d.month d.day (c.args.day - 366) c.from_days_since_min.ensures, c.requires.from) in
    same_parts c.of_date.result (unsigned_abs d.year) d.month d.day c.of_date.ensures.value c.of_date.ensures.month c.of_date.ensures.day
    ∙ date_from_count d.year d.month d.day c.args.day (d.year_in, d.month_in, d.day_in) is c.requires.from c.requires.to
