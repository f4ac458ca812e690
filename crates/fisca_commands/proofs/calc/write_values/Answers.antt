use Rattle.std.proofs.Common.{◌∙◌, inl, inr, Err, refl, ap, subst}
use Rattle.fisca_columns.specs.Views.{calc}
use Rattle.fisca_evaluator.specs.Evaluators.{simulation_of}
use Rattle.fisca_situations.specs.Situations.{Situation}
use Rattle.fisca_simulation.specs.Simulations.{Simulation}
use Rattle.fisca_commands.specs.Calc.{Calculation, IsColumnsRun, IsKeyTold}
use Rattle.fisca_grid_run.specs.Forms.{shown_form}
use Rattle.fisca_commands.proofs.Calculated.{columns_run, ended, out_of_memory, without_value}
use Rattle.fisca_commands.proofs.calc.write_values.Goals as goal

pub returns-in-Ok-clause-answer : goal.returns-in-Ok-clause-answer
returns-in-Ok-clause-answer g c =
    let asked : Calculation = record { rules = c.args.rules.now; asked = calc c.args.file } in
    let run = columns_run asked _ (shown_form c.args.form.now) c.args.lead (simulation_of c.new-evaluator.result) c.as_slice-columns.result.now _ _ _ c.shown_of-shown.ensures
    c.new-evaluator.ensures.simulation c.as_slice-columns.ensures c.write_columns-evaluator.ensures.run in
    ended asked (shown_form c.args.form.now) c.args.lead _ _ c.in-Ok.field-0 (subst (IsColumnsRun asked (shown_form c.args.form.now) c.args.lead _ _) c.in-Ok.is run)

pub returns-in-Err-Eval-clause-answer : goal.returns-in-Err-Eval-clause-answer
returns-in-Err-Eval-clause-answer g c =
    let asked : Calculation = record { rules = c.args.rules.now; asked = calc c.args.file } in
    let run = columns_run asked _ (shown_form c.args.form.now) c.args.lead (simulation_of c.new-evaluator.result) c.as_slice-columns.result.now _ _ _ c.shown_of-shown.ensures
    c.new-evaluator.ensures.simulation c.as_slice-columns.ensures c.write_columns-evaluator.ensures.run in
    let members = ap (λ (s : Situation). s.members) c.situation.ensures ∙ c.write_columns-evaluator.ensures.members ∙ ap (λ (m : Simulation). m.situation.members) c.new-evaluator.ensures.simulation in
    without_value asked (shown_form c.args.form.now) c.args.lead _ _ c.in-Err-Eval.field-0-0 c.in-Err-Eval.fault c.tell.result (subst (IsColumnsRun asked (shown_form c.args.form.now) c.args.lead _ _) (c.in-Err-Eval.is ∙ ap Err c.in-Err-Eval.field-0-is) run)
    (subst (λ ms. IsKeyTold c.args.rules.now ms c.in-Err-Eval.fault c.tell.result) members c.tell.ensures)

pub returns-in-Err-Write-clause-answer : goal.returns-in-Err-Write-clause-answer
returns-in-Err-Write-clause-answer g c =
    let asked : Calculation = record { rules = c.args.rules.now; asked = calc c.args.file } in
    let run = columns_run asked _ (shown_form c.args.form.now) c.args.lead (simulation_of c.new-evaluator.result) c.as_slice-columns.result.now _ _ _ c.shown_of-shown.ensures
    c.new-evaluator.ensures.simulation c.as_slice-columns.ensures c.write_columns-evaluator.ensures.run in
    inl (refl, (c.in-Err-Write.field-0-0, subst (IsColumnsRun asked (shown_form c.args.form.now) c.args.lead _ _) (c.in-Err-Write.is ∙ ap Err c.in-Err-Write.field-0-is) run))

pub returns-in-Err-Memory-clause-answer : goal.returns-in-Err-Memory-clause-answer
returns-in-Err-Memory-clause-answer g c =
    let asked : Calculation = record { rules = c.args.rules.now; asked = calc c.args.file } in
    let run = columns_run asked _ (shown_form c.args.form.now) c.args.lead (simulation_of c.new-evaluator.result) c.as_slice-columns.result.now _ _ _ c.shown_of-shown.ensures
    c.new-evaluator.ensures.simulation c.as_slice-columns.ensures c.write_columns-evaluator.ensures.run in
    inr (inr (refl, out_of_memory asked (shown_form c.args.form.now) c.args.lead _ _ c.in-Err-Memory.field-0-0 (subst (IsColumnsRun asked (shown_form c.args.form.now) c.args.lead _ _) (c.in-Err-Memory.is ∙ ap Err c.in-Err-Memory.field-0-is) run)))
