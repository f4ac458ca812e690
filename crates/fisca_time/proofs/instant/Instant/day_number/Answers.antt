use Rattle.std.proofs.Common.{◌≡◌, ◌+◌, arith}
use Rattle.fisca_time.specs.Calendar.{day_number}
use Rattle.fisca_time.specs.Instant.{CivilDate}
use Rattle.fisca_time.proofs.Days.{day_number_bounds, number_from_bits, real}
use Rattle.fisca_time.proofs.instant.Instant.day_number.Goals as goal

pub returns-clause-value : goal.returns-clause-value
returns-clause-value c =
    let d : CivilDate = record { year = c.self.inside.year; month = c.self.inside.month; day = c.self.inside.day } in
    let years = (real d c.self.invariant).1 in
    rw (← c.self.view_is) (number_from_bits d.year d.month d.day c.days_since_min.result (omega (arith, years)) c.days_since_min.ensures.value)

pub returns-clause-from : goal.returns-clause-from
returns-clause-from c =
    let d : CivilDate = record { year = c.self.inside.year; month = c.self.inside.month; day = c.self.inside.day } in
    let years = (real d c.self.invariant).1 in
    let is : c.days_since_min.result + 366 ≡ day_number d =
    number_from_bits d.year d.month d.day c.days_since_min.result (omega (arith, years)) c.days_since_min.ensures.value in
    omega (arith, is, (day_number_bounds d c.self.invariant).0)
