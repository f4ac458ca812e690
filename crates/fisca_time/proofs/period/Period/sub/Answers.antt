use Rattle.std.proofs.Common.{arith}
use Rattle.fisca_time.proofs.Spans.{IsDaySub, IsMonthSub, IsYearSub, day_sub, month_sub, year_sub}
use Rattle.fisca_time.proofs.period.Period.sub.Goals as goal

pub overflow_add-start_day : goal.overflow_add-start_day
overflow_add-start_day c =
    let requires = rw c.in-Day.is at c.requires in
    let k : IsDaySub c.args.self c.args.i = day_sub c.args.self c.args.i c.start_day.ensures.period requires in
    omega (arith, k.to, c.start_day.ensures.value)

pub day_at-requires-clause-from : goal.day_at-requires-clause-from
day_at-requires-clause-from c =
    let requires = rw c.in-Day.is at c.requires in
    let k : IsDaySub c.args.self c.args.i = day_sub c.args.self c.args.i c.start_day.ensures.period requires in
    omega (arith, k.from, c.start_day.ensures.value)

pub day_at-requires-clause-to : goal.day_at-requires-clause-to
day_at-requires-clause-to c =
    let requires = rw c.in-Day.is at c.requires in
    let k : IsDaySub c.args.self c.args.i = day_sub c.args.self c.args.i c.start_day.ensures.period requires in
    omega (arith, k.to, c.start_day.ensures.value)

pub returns-in-Day : goal.returns-in-Day
returns-in-Day c =
    let requires = rw c.in-Day.is at c.requires in
    let k : IsDaySub c.args.self c.args.i = day_sub c.args.self c.args.i c.start_day.ensures.period requires in
    rw (c.in-Day.is, c.day_at.ensures, c.start_day.ensures.value) k.at

pub overflow_add-first : goal.overflow_add-first
overflow_add-first c =
    let m : IsMonthSub c.args.self c.args.i = month_sub c.args.self c.args.i c.first.ensures.period (rw c.in-Month.is at c.requires) in
    omega (arith, m.to, c.first.ensures.value)

pub month_at-requires : goal.month_at-requires
month_at-requires c =
    let m : IsMonthSub c.args.self c.args.i = month_sub c.args.self c.args.i c.first.ensures.period (rw c.in-Month.is at c.requires) in
    record { from = omega (arith, m.from, c.first.ensures.value); to = omega (arith, m.to, c.first.ensures.value) }

pub returns-in-Month : goal.returns-in-Month
returns-in-Month c =
    let m : IsMonthSub c.args.self c.args.i = month_sub c.args.self c.args.i c.first.ensures.period (rw c.in-Month.is at c.requires) in
    rw (c.in-Month.is, c.month_at.ensures, c.first.ensures.value) m.at

pub overflow_add-first-in-Year : goal.overflow_add-first-in-Year
overflow_add-first-in-Year c =
    let y : IsYearSub c.args.self c.args.i = year_sub c.args.self c.args.i c.first-in-Year.ensures.period (rw c.in-Year.is at c.requires) in
    omega (arith, y.to, c.first-in-Year.ensures.value)

pub year_at-requires : goal.year_at-requires
year_at-requires c =
    let y : IsYearSub c.args.self c.args.i = year_sub c.args.self c.args.i c.first-in-Year.ensures.period (rw c.in-Year.is at c.requires) in
    record { from = omega (arith, y.from, c.first-in-Year.ensures.value); to = omega (arith, y.to, c.first-in-Year.ensures.value) }

pub returns-in-Year : goal.returns-in-Year
returns-in-Year c =
    let y : IsYearSub c.args.self c.args.i = year_sub c.args.self c.args.i c.first-in-Year.ensures.period (rw c.in-Year.is at c.requires) in
    rw (c.in-Year.is, c.year_at.ensures, c.first-in-Year.ensures.value) y.at
