use Rattle.std.proofs.Common.{◌∙◌, ap, Ok}
use Rattle.std.proofs.lemmas.Result.{err_from_is_err_and}
use Rattle.fisca_rows.proofs.Asking.{handed_on, row_fault, row_written}
use Rattle.fisca_rows.proofs.row.write_row.Goals as goal

pub returns-in_err-all_met-clause-asked : goal.returns-in_err-all_met-clause-asked
returns-in_err-all_met-clause-asked g c =
    let p = err_from_is_err_and c.from_residual.result c.from_residual.ensures.1 in
    handed_on g.A.Answers.worked g.A.Answers.refused _ _ _ c.from_residual.result p.0 c.in_err-all_met.field-0.0 p.1 p.2
    (row_fault g.A.Answers.worked g.A.Answers.refused (g.A.Answers.answer c.args.answers.now) c.args.asked.now.conditions.now c.args.asked.now.columns.now c.in_err-all_met.field-0.0 _ _
    c.in_err-all_met.ensures.met c.in_err-all_met.ensures.asked)

pub returns-clause-asked : goal.returns-clause-asked
returns-clause-asked g c =
    row_written g.A.Answers.worked g.A.Answers.refused (g.A.Answers.answer c.args.answers.now) c.args.asked.now.conditions.now c.args.asked.now.columns.now _ (g.A.Answers.answer c.all_met.new.answers) _ _ _
    (c.in_ok-all_met.ensures.met ∙ ap Ok c.if-not-branch.false) c.all_met.ensures.same_answers c.in_ok-all_met.ensures.asked c.write_line_in.ensures.asked
