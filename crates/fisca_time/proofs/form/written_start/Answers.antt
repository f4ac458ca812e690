use Rattle.std.proofs.Common.{arith}
use Rattle.std.proofs.lemmas.Grind.{common_steps}
use Rattle.fisca_time.proofs.Forms.{one_piece, start_of_text-month, start_of_text-day}
use Rattle.fisca_time.proofs.form.written_start.Goals as goal

pub returns-in-Some-short_numeral-clause-form : goal.returns-in-Some-short_numeral-clause-form
returns-in-Some-short_numeral-clause-form c =
    let one = one_piece c.in-Some.rest.now c.short_numeral.result c.in-Some-short_numeral.month c.short_numeral.ensures.value c.in-Some-short_numeral.is in
    let whole = start_of_text-month c.args.text.now c.in-Some.year.now c.in-Some.rest.now c.in-Some.ensures one in
    rw whole (grind (arith, common_steps, c.in_ok-year-2.ensures.value, c.in-Some-short_numeral.ensures.value))

pub returns-in_err-day-clause-form : goal.returns-in_err-day-clause-form
returns-in_err-day-clause-form c =
    let whole = start_of_text-day c.args.text.now c.in-Some.year.now c.in-Some.rest.now c.in_ok-month.month.now c.in_ok-month.day.now c.in-Some.ensures c.in_ok-month.ensures in
    rw whole (grind (arith, common_steps, c.in_err-day.ensures.value))

pub returns-clause-form : goal.returns-clause-form
returns-clause-form c =
    let whole = start_of_text-day c.args.text.now c.in-Some.year.now c.in-Some.rest.now c.in_ok-month.month.now c.in_ok-month.day.now c.in-Some.ensures c.in_ok-month.ensures in
    rw whole (grind (arith, common_steps, c.in_ok-year-2.ensures.value, c.in_ok-month-2.ensures.value, c.in_ok-day.ensures.value))
