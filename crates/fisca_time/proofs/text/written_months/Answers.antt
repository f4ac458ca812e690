use Rattle.std.proofs.Common.{◌≡◌, arith}
use Rattle.std.proofs.lemmas.Result.{IfOk-weaker}
use Rattle.fisca_time.proofs.Texts.{month_alone, months_sized}
use Rattle.fisca_time.proofs.text.written_months.Goals as goal

pub returns-in-1 : goal.returns-in-1
returns-in-1 c =
    IfOk-weaker c.month_alone.result _ _ (λ _ is. month_alone c.args.first c.args.size _ c.in-1.is is) c.month_alone.ensures

pub returns-in_default : goal.returns-in_default
returns-in_default c =
    let more : c.args.size ≡ 1 → ⊥ = λ e. omega arith in
    IfOk-weaker c.format.result _ _ (λ _ is. months_sized c.args.first c.args.size _ _ _ c.laid_out.ensures c.laid_out-in_default.ensures more is) c.format.ensures.ok
