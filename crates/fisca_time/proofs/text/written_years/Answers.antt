use Rattle.std.proofs.Common.{◌≡◌, ◌+◌, ◌%◌, arith}
use Rattle.std.proofs.lemmas.Result.{IfOk-weaker}
use Rattle.fisca_time.proofs.Texts.{year_alone, years_sized, year_from_month, years_from_month}
use Rattle.fisca_time.proofs.text.written_years.Goals as goal

pub returns-in-1-eq1 : goal.returns-in-1-eq1
returns-in-1-eq1 c =
    IfOk-weaker c.year_alone.result _ _ (λ _ is. year_alone c.args.first c.args.size _ c.in-1-eq1.is-0 c.in-1-eq1.is-1 is) c.year_alone.ensures

pub returns-in-1-default : goal.returns-in-1-default
returns-in-1-default c =
    let more : c.args.size ≡ 1 → ⊥ = λ e. omega arith in
    IfOk-weaker c.format.result _ _ (λ _ is. years_sized c.args.first c.args.size _ _ c.laid_out.ensures c.in-1-default.is-0 more is) c.format.ensures.ok

pub returns-in_default-eq1 : goal.returns-in_default-eq1
returns-in_default-eq1 c =
    let later : c.args.first % 12 + 1 ≡ 1 → ⊥ = λ e. omega arith in
    IfOk-weaker c.format-in_default-eq1.result _ _ (λ _ is. year_from_month c.args.first c.args.size _ _ _ c.laid_out-in_default-eq1.ensures c.laid_out-in_default-eq1-2.ensures later c.in_default-eq1.is-1 is) c.format-in_default-eq1.ensures.ok

pub returns-in_default : goal.returns-in_default
returns-in_default c =
    let later : c.args.first % 12 + 1 ≡ 1 → ⊥ = λ e. omega arith in
    let more : c.args.size ≡ 1 → ⊥ = λ e. omega arith in
    IfOk-weaker c.format-in_default.result _ _ (λ _ is. years_from_month c.args.first c.args.size _ _ _ c.laid_out-in_default.ensures c.laid_out-in_default-2.ensures later more is) c.format-in_default.ensures.ok
