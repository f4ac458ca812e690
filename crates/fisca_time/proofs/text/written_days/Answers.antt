use Rattle.std.proofs.Common.{◌≡◌, arith}
use Rattle.std.proofs.lemmas.Result.{IfOk-weaker}
use Rattle.fisca_time.proofs.Texts.{day_alone, days_sized}
use Rattle.fisca_time.proofs.text.written_days.Goals as goal

pub returns-in-1 : goal.returns-in-1
returns-in-1 c =
    IfOk-weaker c.format.result _ _ (λ _ is. day_alone c.args.start c.args.size _ _ _ _ c.laid_out.ensures c.laid_out-in-1.ensures c.laid_out-in-1-2.ensures c.in-1.is
    (rw (c.year-year.ensures.value, c.month-month.ensures.value, c.day-day.ensures.value) at is)) c.format.ensures.ok

pub returns-in_default : goal.returns-in_default
returns-in_default c =
    let more : c.args.size ≡ 1 → ⊥ = λ e. omega arith in
    IfOk-weaker c.format-in_default.result _ _ (λ _ is. days_sized c.args.start c.args.size _ _ _ _ c.laid_out-in_default.ensures c.laid_out-in_default-2.ensures c.laid_out-in_default-3.ensures more
    (rw (c.year-year.ensures.value, c.month-month.ensures.value, c.day-day.ensures.value) at is)) c.format-in_default.ensures.ok
