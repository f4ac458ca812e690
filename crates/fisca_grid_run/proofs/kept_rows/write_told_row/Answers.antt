use Rattle.std.proofs.Common.{◌≡◌, ◌∙◌, ◌||◌, Result, Ok, false, refl, sym, ap, subst}
use Rattle.fisca_situations.proofs.Asking.{asked_on, some_all, some_first}
use Rattle.fisca_situations.specs.Asked.{HaveAsked}
use Rattle.fisca_model.specs.declared.eval_fault.EvalFault.{EvalFault}
use Rattle.fisca_writer.specs.declared.fault.RowFault.{RowFault}
use Rattle.fisca_writer.specs.declared.rows.Selection.{Selection}
use Rattle.fisca_writer.specs.declared.rows.Selection.TheVariants.{Dropped}
use Rattle.fisca_symbols.specs.Known.{tables as known}
use Rattle.fisca_grid_run.proofs.Lacking.{or_none}
use Rattle.fisca_rows.specs.Asked.{keys_met}
use Rattle.fisca_rows.specs.Met.{all_met as are_met}
use Rattle.fisca_rows.specs.Going.{columns_if_met, going_row_by, lacks_by}
use Rattle.fisca_grid_run.proofs.kept_rows.write_told_row.Goals as goal

pub returns-in_default-clause-asked : goal.returns-in_default-clause-asked
returns-in_default-clause-asked g c =
    let r = c.args.request.now in
    let answer = g.A.Answers.answer c.args.answers.now in
    some_first g.A.Answers.worked g.A.Answers.refused c.args.answers.now c.met_or_fault.new.answers (keys_met answer r.conditions) (columns_if_met (are_met answer r.conditions) r.columns)
    (rw c.as_slice.ensures at c.in_default.ensures.some)

pub returns-then-is_unmet-clause-row : goal.returns-then-is_unmet-clause-row
returns-then-is_unmet-clause-row g c =
    let r = c.args.request.now in
    let answer = g.A.Answers.answer c.args.answers.now in
    let met : are_met answer r.conditions ≡ Ok false = sym (rw c.as_slice.ensures at c.in-Ok.ensures.met) ∙ c.is_unmet.ensures.0 c.if-is_unmet.true in
    λ moved at. ap (λ m. going_row_by m c.args.form.now (known c.args.tables.now) answer r.columns c.args.position moved) met

pub returns-then-is_unmet-clause-asked : goal.returns-then-is_unmet-clause-asked
returns-then-is_unmet-clause-asked g c =
    let r = c.args.request.now in
    let answer = g.A.Answers.answer c.args.answers.now in
    let met : are_met answer r.conditions ≡ Ok false = sym (rw c.as_slice.ensures at c.in-Ok.ensures.met) ∙ c.is_unmet.ensures.0 c.if-is_unmet.true in
    let dropped : Result Selection (RowFault EvalFault) = Ok Dropped in
    asked_on g.A.Answers.worked g.A.Answers.refused c.args.answers.now c.met_or_fault.new.answers c.met_or_fault.new.answers (keys_met answer r.conditions)
    (columns_if_met (are_met answer r.conditions) r.columns) dropped (rw c.as_slice.ensures at c.in-Ok.ensures.all)
    (subst (λ m. HaveAsked g.A.Answers.worked g.A.Answers.refused (columns_if_met m r.columns) c.met_or_fault.new.answers c.met_or_fault.new.answers dropped) (sym met) refl)

pub returns-then-is_unmet-clause-lacks : goal.returns-then-is_unmet-clause-lacks
returns-then-is_unmet-clause-lacks g c =
    let r = c.args.request.now in
    let answer = g.A.Answers.answer c.args.answers.now in
    let met : are_met answer r.conditions ≡ Ok false = sym (rw c.as_slice.ensures at c.in-Ok.ensures.met) ∙ c.is_unmet.ensures.0 c.if-is_unmet.true in
    or_none c.args.lacks.now ∙ ap (λ m. c.args.lacks.now || lacks_by m answer r.columns) (sym met)

pub returns-in-Ok-moved_into-clause-asked : goal.returns-in-Ok-moved_into-clause-asked
returns-in-Ok-moved_into-clause-asked g c =
    let r = c.args.request.now in
    let answer = g.A.Answers.answer c.args.answers.now in
    let met : c.in-Ok.met ≡ are_met answer r.conditions = rw c.as_slice.ensures at c.in-Ok.ensures.met in
    asked_on g.A.Answers.worked g.A.Answers.refused c.args.answers.now c.met_or_fault.new.answers c.write_going_line.new.answers (keys_met answer r.conditions)
    (columns_if_met (are_met answer r.conditions) r.columns) c.write_going_line.result (rw c.as_slice.ensures at c.in-Ok.ensures.all)
    (subst (λ m. HaveAsked g.A.Answers.worked g.A.Answers.refused (columns_if_met m r.columns) c.met_or_fault.new.answers c.write_going_line.new.answers c.write_going_line.result) met
    (subst (λ ks. HaveAsked g.A.Answers.worked g.A.Answers.refused (columns_if_met c.in-Ok.met ks) c.met_or_fault.new.answers c.write_going_line.new.answers c.write_going_line.result)
    c.as_slice-in-Ok-moved_into-3.ensures c.write_going_line.ensures.asked))

pub returns-in-Err-clause-asked : goal.returns-in-Err-clause-asked
returns-in-Err-clause-asked g c =
    let r = c.args.request.now in
    let answer = g.A.Answers.answer c.args.answers.now in
    some_first g.A.Answers.worked g.A.Answers.refused c.args.answers.now c.met_or_fault.new.answers (keys_met answer r.conditions) (columns_if_met (are_met answer r.conditions) r.columns)
    (some_all g.A.Answers.worked g.A.Answers.refused c.args.answers.now c.met_or_fault.new.answers (keys_met answer r.conditions) (rw c.as_slice.ensures at c.in-Ok.ensures.all))
