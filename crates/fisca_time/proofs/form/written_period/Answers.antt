use Rattle.std.proofs.Common.{sym}
use Rattle.fisca_time.proofs.Forms.{form_of_text-size, form_of_text-unknown, sized_form}
use Rattle.fisca_time.proofs.form.written_period.Goals as goal

pub returns-in_err-unit-clause-form : goal.returns-in_err-unit-clause-form
returns-in_err-unit-clause-form c =
    rw (form_of_text-unknown c.args.text.now c.in-Some.word.now c.in-Some.rest.now c.in-Some.ensures (sym c.in_err-unit.ensures)) c.from_residual.ensures

pub returns-in_err-size-clause-form : goal.returns-in_err-size-clause-form
returns-in_err-size-clause-form c =
    let whole = form_of_text-size c.args.text.now c.in-Some.word.now c.in-Some.rest.now c.in-Some-split.start.now c.in-Some-split.size.now c.in-Some.ensures c.in-Some-split.ensures in
    rw (whole, c.in_err-size.ensures) c.from_residual-in_err-size.ensures

pub returns-clause-form : goal.returns-clause-form
returns-clause-form c =
    let whole = form_of_text-size c.args.text.now c.in-Some.word.now c.in-Some.rest.now c.in-Some-split.start.now c.in-Some-split.size.now c.in-Some.ensures c.in-Some-split.ensures in
    rw whole
    (sized_form c.in-Some.word.now c.in-Some-split.start.now c.in-Some-split.size.now c.in_ok-unit.unit c.in_ok-written_start-2.field-0 c.in_ok-form.form c.in_ok-size.size
    c.in_ok-unit.ensures c.in_ok-written_start-2.ensures.form c.in_ok-form.ensures c.in_ok-size.ensures.0 c.in_ok-size.ensures.1)
