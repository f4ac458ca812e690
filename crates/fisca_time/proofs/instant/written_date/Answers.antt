use Rattle.std.proofs.Common.{arith}
use Rattle.std.proofs.lemmas.Grind.{common_steps}
use Rattle.fisca_time.proofs.Splits.{date_of_pieces-text}
use Rattle.fisca_time.proofs.instant.written_date.Goals as goal

pub returns-in_err-numeral-3-clause-date : goal.returns-in_err-numeral-3-clause-date
returns-in_err-numeral-3-clause-date c =
    let whole = date_of_pieces-text c.args.text.now c.in_ok-year.year.now c.in_ok-year.rest.now c.in_ok-month.month.now c.in_ok-month.day.now c.in_ok-year.ensures c.in_ok-month.ensures in
    rw whole (grind (arith, common_steps, c.in_err-numeral-3.ensures.value))

pub returns-clause-date : goal.returns-clause-date
returns-clause-date c =
    let whole = date_of_pieces-text c.args.text.now c.in_ok-year.year.now c.in_ok-year.rest.now c.in_ok-month.month.now c.in_ok-month.day.now c.in_ok-year.ensures c.in_ok-month.ensures in
    rw whole (grind (arith, common_steps, c.in_ok-numeral.ensures.value, c.in_ok-numeral-2.ensures.value, c.in_ok-numeral-3.ensures.value))
