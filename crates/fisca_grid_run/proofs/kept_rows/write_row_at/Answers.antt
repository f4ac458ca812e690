use Rattle.std.proofs.Common.{◌≡◌, ◌||◌, false, sym, subst, string_bytes}
use Rattle.std.specs.Prelude.{⊤}
use Rattle.fisca_situations.specs.Asked.{HaveAsked}
use Rattle.fisca_simulation.specs.Told.{IsReady, told_in}
use Rattle.fisca_evaluator.specs.Asked.{HasRefused, HasWorked}
use Rattle.fisca_evaluator.specs.Evaluators.{simulation_of}
use Rattle.fisca_writer.specs.Came.{IsStep}
use Rattle.fisca_writer.specs.Row.{IsWorkedOut}
use Rattle.fisca_grid_run.proofs.Fitting.{ready_at}
use Rattle.fisca_grid_run.proofs.Lacking.{or_none, row_there, step_always}
use Rattle.fisca_grid_run.specs.Begun.{file_in}
use Rattle.fisca_rows.specs.Going.{keys_styled, lacks_in}
use Rattle.fisca_grid_run.specs.Runs.{run_row}
use Rattle.fisca_rows.specs.declared.style.RowStyle.TheVariants.{Plain, Formed, Going}
use Rattle.fisca_grid_run.proofs.kept_rows.write_row_at.Goals as goal

pub write_met_row-requires-clause-ready : goal.write_met_row-requires-clause-ready
write_met_row-requires-clause-ready g c =
    let s = c.requires.situated in
    let a = c.requires.accepted in
    record {
      ready = subst IsReady (sym s.same) (ready_at c.args.rules.now a.tree (file_in (simulation_of c.args.evaluator.now) c.args.request.now) a.asked c.args.position s.moved s.situation s.moves.1 s.is);
      memory = c.requires.memory;
    }

pub write_met_row-requires-in-Formed-clause-ready : goal.write_met_row-requires-in-Formed-clause-ready
write_met_row-requires-in-Formed-clause-ready g c =
    let s = c.requires.situated in
    let a = c.requires.accepted in
    record {
      ready = subst IsReady (sym s.same) (ready_at c.args.rules.now a.tree (file_in (simulation_of c.args.evaluator.now) c.args.request.now) a.asked c.args.position s.moved s.situation s.moves.1 s.is);
      memory = c.requires.memory;
    }

pub write_told_row-requires-clause-ready : goal.write_told_row-requires-clause-ready
write_told_row-requires-clause-ready g c =
    let s = c.requires.situated in
    let a = c.requires.accepted in
    record {
      ready = subst IsReady (sym s.same) (ready_at c.args.rules.now a.tree (file_in (simulation_of c.args.evaluator.now) c.args.request.now) a.asked c.args.position s.moved s.situation s.moves.1 s.is);
      memory = c.requires.memory;
    }

pub returns-in-Plain-clause-row : goal.returns-in-Plain-clause-row
returns-in-Plain-clause-row g c =
    let rules = c.args.rules.now in
    let m = simulation_of c.args.evaluator.now in
    let f = file_in m c.args.request.now in
    let s = c.requires.situated in
    let text = string_bytes c.write_met_row.new.line in
    subst (λ style. IsWorkedOut (run_row rules style f c.args.position) c.write_met_row.result text) (sym c.in-Plain.is)
    (subst (λ row. IsWorkedOut row c.write_met_row.result text) (sym (row_there rules Plain f c.args.position m s)) (c.write_met_row.ensures.row s.moved s.moves.1))

pub returns-in-Plain-clause-asked : goal.returns-in-Plain-clause-asked
returns-in-Plain-clause-asked g c =
    let find = g.R.Recall.find in
    let m = simulation_of c.args.evaluator.now in
    let r = c.args.request.now in
    subst (λ style. HaveAsked (HasWorked find) (HasRefused find) (keys_styled style (told_in m) r.conditions r.columns) c.args.evaluator.now c.write_met_row.new.answers c.write_met_row.result)
    (sym c.in-Plain.is) c.write_met_row.ensures.asked

pub returns-in-Plain-clause-lacks : goal.returns-in-Plain-clause-lacks
returns-in-Plain-clause-lacks g c =
    let m = simulation_of c.args.evaluator.now in
    let r = c.args.request.now in
    subst (λ style. IsStep (c.args.lacks.now ≡ (c.args.lacks.now || lacks_in style (told_in m) r.conditions r.columns)) ⊤ c.write_met_row.result)
    (sym c.in-Plain.is) (step_always (c.args.lacks.now ≡ (c.args.lacks.now || false)) c.write_met_row.result (or_none c.args.lacks.now))

pub returns-in-Formed-clause-row : goal.returns-in-Formed-clause-row
returns-in-Formed-clause-row g c =
    let rules = c.args.rules.now in
    let m = simulation_of c.args.evaluator.now in
    let f = file_in m c.args.request.now in
    let s = c.requires.situated in
    let text = string_bytes c.write_met_row-in-Formed.new.line in
    subst (λ style. IsWorkedOut (run_row rules style f c.args.position) c.write_met_row-in-Formed.result text) (sym c.in-Formed.is)
    (subst (λ row. IsWorkedOut row c.write_met_row-in-Formed.result text) (sym (row_there rules (Formed c.in-Formed.form) f c.args.position m s)) (c.write_met_row-in-Formed.ensures.row s.moved s.moves.1))

pub returns-in-Formed-clause-asked : goal.returns-in-Formed-clause-asked
returns-in-Formed-clause-asked g c =
    let find = g.R.Recall.find in
    let m = simulation_of c.args.evaluator.now in
    let r = c.args.request.now in
    subst (λ style. HaveAsked (HasWorked find) (HasRefused find) (keys_styled style (told_in m) r.conditions r.columns) c.args.evaluator.now c.write_met_row-in-Formed.new.answers c.write_met_row-in-Formed.result)
    (sym c.in-Formed.is) c.write_met_row-in-Formed.ensures.asked

pub returns-in-Formed-clause-lacks : goal.returns-in-Formed-clause-lacks
returns-in-Formed-clause-lacks g c =
    let m = simulation_of c.args.evaluator.now in
    let r = c.args.request.now in
    subst (λ style. IsStep (c.args.lacks.now ≡ (c.args.lacks.now || lacks_in style (told_in m) r.conditions r.columns)) ⊤ c.write_met_row-in-Formed.result)
    (sym c.in-Formed.is) (step_always (c.args.lacks.now ≡ (c.args.lacks.now || false)) c.write_met_row-in-Formed.result (or_none c.args.lacks.now))

pub returns-in-Going-clause-row : goal.returns-in-Going-clause-row
returns-in-Going-clause-row g c =
    let rules = c.args.rules.now in
    let m = simulation_of c.args.evaluator.now in
    let f = file_in m c.args.request.now in
    let s = c.requires.situated in
    let text = string_bytes c.write_told_row.new.line in
    subst (λ style. IsWorkedOut (run_row rules style f c.args.position) c.write_told_row.result text) (sym c.in-Going.is)
    (subst (λ row. IsWorkedOut row c.write_told_row.result text) (sym (row_there rules (Going c.in-Going.form) f c.args.position m s)) (c.write_told_row.ensures.row s.moved s.moves.1))

pub returns-in-Going-clause-asked : goal.returns-in-Going-clause-asked
returns-in-Going-clause-asked g c =
    let find = g.R.Recall.find in
    let m = simulation_of c.args.evaluator.now in
    let r = c.args.request.now in
    subst (λ style. HaveAsked (HasWorked find) (HasRefused find) (keys_styled style (told_in m) r.conditions r.columns) c.args.evaluator.now c.write_told_row.new.answers c.write_told_row.result)
    (sym c.in-Going.is) c.write_told_row.ensures.asked

pub returns-in-Going-clause-lacks : goal.returns-in-Going-clause-lacks
returns-in-Going-clause-lacks g c =
    let m = simulation_of c.args.evaluator.now in
    let r = c.args.request.now in
    subst (λ style. IsStep (c.write_told_row.new.lacks ≡ (c.args.lacks.now || lacks_in style (told_in m) r.conditions r.columns)) ⊤ c.write_told_row.result)
    (sym c.in-Going.is) c.write_told_row.ensures.lacks
