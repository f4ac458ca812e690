use Rattle.std.proofs.Common.{◌∙◌, sym, arith, refl}
use Rattle.fisca_time.proofs.Spans.{start_le_stop, length-days, length-months, length-years}
use Rattle.fisca_time.proofs.period.Period.length_in.Goals as goal

pub overflow_sub-result : goal.overflow_sub-result
overflow_sub-result c = omega (arith, start_le_stop c.args.self c.start_day.ensures.period, c.start_day.ensures.value, c.stop_day.ensures)

pub returns-in-Day : goal.returns-in-Day
returns-in-Day c = rw (c.in-Day.is, length-days, c.start_day.ensures.value, c.stop_day.ensures) refl

pub returns-in-Month : goal.returns-in-Month
returns-in-Month c = rw c.in-Month.is (c.month_count.ensures ∙ sym (length-months c.args.self))

pub returns-in-Year-unit : goal.returns-in-Year-unit
returns-in-Year-unit c = rw (← c.parts-parts.ensures.span, c.in-Year.is, c.in-Year-unit.is) (c.from.ensures ∙ sym (length-years c.parts-parts.result.first c.parts-parts.result.size))
