use Rattle.std.proofs.Common.{◌∙◌, sym}
use Rattle.fisca_time.proofs.Forms.{period_of_limited}
use Rattle.fisca_time.proofs.period.Period.read.Goals as goal

pub returns-in-Some : goal.returns-in-Some
returns-in-Some c =
    let capitals = sym c.eq.ensures ∙ c.if-eq.false in
    let small = sym c.eq-else-eq.ensures ∙ c.if-eq-2.false in
    rw (capitals, small) (c.of_form.ensures ∙ period_of_limited _ c.in-Some.form c.in-Some.ensures.form)
