use Rattle.std.proofs.Common.{Bool, Err, Ok, ap, subst, ◌∙◌}
use Rattle.std.proofs.lemmas.Result.{err_from_is_err_and}
use Rattle.fisca_situations.proofs.Asking.{some_all, some_first}
use Rattle.fisca_situations.specs.Asked.{HaveAsked}
use Rattle.fisca_rows.proofs.Asking.{handed_on, row_fault, row_written}
use Rattle.fisca_rows.specs.Asked.{keys_if_met, keys_met, keys_written}
use Rattle.fisca_rows.specs.Met.{all_met as are_met}
use Rattle.fisca_rows.specs.Outcomes.{IsOutcome}
use Rattle.fisca_grid_run.proofs.kept_rows.write_met_row.Goals as goal

pub returns-in_err-all_met-clause-asked : goal.returns-in_err-all_met-clause-asked
returns-in_err-all_met-clause-asked g c =
    let r = c.args.request.now in
    let answer = g.A.Answers.answer c.args.answers.now in
    let p = err_from_is_err_and c.from_residual.result c.from_residual.ensures.1 in
    handed_on g.A.Answers.worked g.A.Answers.refused _ _ _ c.from_residual.result p.0 c.in_err-all_met.field-0.0 p.1 p.2
    (row_fault g.A.Answers.worked g.A.Answers.refused answer r.conditions r.columns c.in_err-all_met.field-0.0 _ _
    (subst (λ xs. IsOutcome {X = Bool} (are_met answer xs) (Err c.in_err-all_met.field-0.0)) c.as_slice.ensures c.in_err-all_met.ensures.met)
    (subst (λ xs. HaveAsked {X = Bool} g.A.Answers.worked g.A.Answers.refused (keys_met answer xs) c.args.answers.now c.all_met.new.answers (Err c.in_err-all_met.field-0.0)) c.as_slice.ensures c.in_err-all_met.ensures.asked))

pub returns-in-Ok-clause-asked : goal.returns-in-Ok-clause-asked
returns-in-Ok-clause-asked g c =
    let r = c.args.request.now in
    row_written g.A.Answers.worked g.A.Answers.refused (g.A.Answers.answer c.args.answers.now) r.conditions r.columns c.write_line_in.result (g.A.Answers.answer c.all_met.new.answers) _ c.all_met.new.answers _
    (rw c.as_slice.ensures at c.in_ok-all_met.ensures.met ∙ ap Ok c.if-not-branch.false) c.all_met.ensures.same_answers (rw c.as_slice.ensures at c.in_ok-all_met.ensures.asked) (rw c.as_slice-in-Ok-3.ensures at c.write_line_in.ensures.asked)

pub returns-in-Err-clause-asked : goal.returns-in-Err-clause-asked
returns-in-Err-clause-asked g c =
    let r = c.args.request.now in
    let answer = g.A.Answers.answer c.args.answers.now in
    some_first g.A.Answers.worked g.A.Answers.refused c.args.answers.now c.all_met.new.answers (keys_met answer r.conditions) (keys_if_met (are_met answer r.conditions) (keys_written answer r.columns))
    (some_all g.A.Answers.worked g.A.Answers.refused c.args.answers.now c.all_met.new.answers (keys_met answer r.conditions) (rw c.as_slice.ensures at c.in_ok-all_met.ensures.asked))
