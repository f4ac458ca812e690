use Rattle.std.proofs.Common.{sym, ap, ◌∙◌}
use Rattle.fisca_time.specs.Period.{month_start}
use Rattle.fisca_time.proofs.Days.{month_start-end}
use Rattle.fisca_time.proofs.period.month_start.Goals as goal

pub returns-then-month-eq-END_MONTH : goal.returns-then-month-eq-END_MONTH
returns-then-month-eq-END_MONTH c = sym (ap month_start c.if-month-eq-END_MONTH.true ∙ month_start-end)
