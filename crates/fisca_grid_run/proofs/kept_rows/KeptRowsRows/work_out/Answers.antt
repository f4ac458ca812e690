use Rattle.std.proofs.Common.{◌≡◌, ◌||◌, Some, refl, sym, ap, subst, ◌∙◌, string_bytes}
use Rattle.std.specs.Prelude.{⊤}
use Rattle.fisca_groups.specs.declared.entity_members.EntityMembers.{EntityMembers}
use Rattle.fisca_simulation.specs.Simulations.{Simulation}
use Rattle.fisca_simulation.specs.Told.{told_in}
use Rattle.fisca_evaluator.specs.Evaluators.{marks_in, simulation_of}
use Rattle.fisca_writer.specs.Came.{IsStep}
use Rattle.fisca_writer.specs.Row.{IsWorkedOut}
use Rattle.fisca_grid_run.proofs.Stepping.{kept_there, many_slots, row_step, situated_there, stays, with_same}
use Rattle.fisca_grid_run.proofs.Lacking.{lacks_there, step_for}
use Rattle.fisca_grid_run.proofs.Placing.{situated_members}
use Rattle.fisca_rows.specs.Going.{keys_styled, lacks_in}
use Rattle.fisca_grid_run.specs.Kept.{IsKept, IsRunFile, IsSituated}
use Rattle.fisca_grid_run.specs.Remembered.{IsPassed, IsRefused}
use Rattle.fisca_grid_run.specs.Runs.{lacks_at, run_row}
use Rattle.fisca_run_file.specs.Views.{file_with}
use Rattle.fisca_grid_run.specs.Begun.{file_in}
use Rattle.fisca_grid_run.proofs.kept_rows.KeptRowsRows.work_out.Goals as goal

pub turn_slots-requires-clause-many : goal.turn_slots-requires-clause-many
turn_slots-requires-clause-many g c =
    let r = c.args.self.now in
    let e = r.evaluator.now in
    many_slots r.rules.now (file_in (simulation_of e) r.request.now) r.slots.now r.here (marks_in e) (simulation_of e) (g.R.Recall.find e.store.recall) e.store.counts.free c.requires.ready

pub write_row_at-requires-clause-accepted : goal.write_row_at-requires-clause-accepted
write_row_at-requires-clause-accepted g c =
    let r = c.args.self.now in
    let e = r.evaluator.now in
    let f = file_in (simulation_of e) r.request.now in
    let turned = simulation_of c.turn_slots.new.evaluator in
    let there = situated_there r.rules.now f r.slots.now r.here (marks_in e) (simulation_of e) (g.R.Recall.find e.store.recall) e.store.counts.free c.requires.ready
    c.args.position c.args.turned turned c.requires.position c.requires.turned c.turn_slots.ensures.turned in
    subst (λ members. IsRunFile r.rules.now (file_with members r.request.now)) (sym (situated_members r.rules.now f (Some c.args.position) turned there)) c.requires.ready.accepted

pub write_row_at-requires-clause-situated : goal.write_row_at-requires-clause-situated
write_row_at-requires-clause-situated g c =
    let r = c.args.self.now in
    let e = r.evaluator.now in
    let f = file_in (simulation_of e) r.request.now in
    let turned = simulation_of c.turn_slots.new.evaluator in
    let there = situated_there r.rules.now f r.slots.now r.here (marks_in e) (simulation_of e) (g.R.Recall.find e.store.recall) e.store.counts.free c.requires.ready
    c.args.position c.args.turned turned c.requires.position c.requires.turned c.turn_slots.ensures.turned in
    subst (λ members. IsSituated r.rules.now (file_with members r.request.now) (Some c.args.position) turned) (sym (situated_members r.rules.now f (Some c.args.position) turned there)) there

pub returns-clause-worked_out : goal.returns-clause-worked_out
returns-clause-worked_out g c =
    let r = c.args.self.now in
    let e = r.evaluator.now in
    let f = file_in (simulation_of e) r.request.now in
    let turned = simulation_of c.turn_slots.new.evaluator in
    let there = situated_there r.rules.now f r.slots.now r.here (marks_in e) (simulation_of e) (g.R.Recall.find e.store.recall) e.store.counts.free c.requires.ready
    c.args.position c.args.turned turned c.requires.position c.requires.turned c.turn_slots.ensures.turned in
    subst (λ members. IsWorkedOut (run_row r.rules.now r.style.now (file_with members r.request.now) c.args.position) c.write_row_at.result (string_bytes c.write_row_at.new.line))
    (situated_members r.rules.now f (Some c.args.position) turned there) c.write_row_at.ensures.row

pub returns-clause-step : goal.returns-clause-step
returns-clause-step g c =
    let r = c.args.self.now in
    let e = r.evaluator.now in
    let f = file_in (simulation_of e) r.request.now in
    let turned = c.turn_slots.new.evaluator in
    let m = simulation_of turned in
    let there = situated_there r.rules.now f r.slots.now r.here (marks_in e) (simulation_of e) (g.R.Recall.find e.store.recall) e.store.counts.free c.requires.ready
    c.args.position c.args.turned m c.requires.position c.requires.turned c.turn_slots.ensures.turned in
    let after = c.write_row_at.new.evaluator in
    let find = g.R.Recall.find in
    let same = stays find r.rules.now r.style.now f c.args.position e turned after (keys_styled r.style.now (told_in m) f.conditions f.columns)
    c.turn_slots.ensures.marks c.turn_slots.ensures.counts c.turn_slots.ensures.just (c.turn_slots.ensures.memory c.requires.ready.memory) c.write_row_at.result
    c.write_row_at.ensures.asked in
    let members = ap (λ (m : Simulation). m.situation.members) same.0 ∙ situated_members r.rules.now f (Some c.args.position) m there in
    let lacked : Type 0 = c.write_row_at.new.lacks ≡ (r.lacks || lacks_at r.rules.now r.style.now f c.args.position) in
    let lacks : IsStep lacked ⊤ c.write_row_at.result =
    step_for (c.write_row_at.new.lacks ≡ (r.lacks || lacks_in r.style.now (told_in m) f.conditions f.columns)) lacked c.write_row_at.result
    (λ is. is ∙ ap (λ b. r.lacks || b) (sym (lacks_there r.rules.now r.style.now f c.args.position m there))) c.write_row_at.ensures.lacks in
    with_same (IsPassed find r.rules.now r.style.now f e c.args.position after) lacked (IsRefused find e after) refl refl refl refl members refl c.write_row_at.result
    (row_step find r.rules.now r.style.now f c.args.position e turned after (keys_styled r.style.now (told_in m) f.conditions f.columns)
    c.turn_slots.ensures.marks c.turn_slots.ensures.counts c.turn_slots.ensures.just (c.turn_slots.ensures.memory c.requires.ready.memory) c.write_row_at.result there refl
    c.write_row_at.ensures.memory c.write_row_at.ensures.asked)
    lacks

pub returns-clause-ready : goal.returns-clause-ready
returns-clause-ready g c =
    let r = c.args.self.now in
    let e = r.evaluator.now in
    let f = file_in (simulation_of e) r.request.now in
    let turned = c.turn_slots.new.evaluator in
    let after = c.write_row_at.new.evaluator in
    let find = g.R.Recall.find in
    let there = situated_there r.rules.now f r.slots.now r.here (marks_in e) (simulation_of e) (find e.store.recall) e.store.counts.free c.requires.ready c.args.position
    c.args.turned (simulation_of turned) c.requires.position c.requires.turned c.turn_slots.ensures.turned in
    let same = stays find r.rules.now r.style.now f c.args.position e turned after (keys_styled r.style.now (told_in (simulation_of turned)) f.conditions f.columns)
    c.turn_slots.ensures.marks c.turn_slots.ensures.counts c.turn_slots.ensures.just (c.turn_slots.ensures.memory c.requires.ready.memory) c.write_row_at.result
    c.write_row_at.ensures.asked in
    let members = ap (λ (m : Simulation). m.situation.members) same.0 ∙ situated_members r.rules.now f (Some c.args.position) (simulation_of turned) there in
    subst (λ members. IsKept r.rules.now (file_with members r.request.now) r.slots.now (Some c.args.position) (marks_in after) (simulation_of after) (find after.store.recall) after.store.counts.free)
    (sym members)
    (kept_there r.rules.now f r.slots.now r.here (marks_in e) (simulation_of e) (find e.store.recall) e.store.counts.free c.requires.ready c.args.position
    after.store.counts.free (marks_in after) (simulation_of after) (find after.store.recall) (same.1 ∙ c.turn_slots.ensures.marks)
    (subst (IsSituated r.rules.now f (Some c.args.position)) (sym same.0) there) c.write_row_at.ensures.memory)

pub returns-clause-same_row : goal.returns-clause-same_row
returns-clause-same_row g c =
    let r = c.args.self.now in
    let e = r.evaluator.now in
    let f = file_in (simulation_of e) r.request.now in
    let turned = c.turn_slots.new.evaluator in
    let after = c.write_row_at.new.evaluator in
    let find = g.R.Recall.find in
    let there = situated_there r.rules.now f r.slots.now r.here (marks_in e) (simulation_of e) (find e.store.recall) e.store.counts.free c.requires.ready c.args.position
    c.args.turned (simulation_of turned) c.requires.position c.requires.turned c.turn_slots.ensures.turned in
    let same = stays find r.rules.now r.style.now f c.args.position e turned after (keys_styled r.style.now (told_in (simulation_of turned)) f.conditions f.columns)
    c.turn_slots.ensures.marks c.turn_slots.ensures.counts c.turn_slots.ensures.just (c.turn_slots.ensures.memory c.requires.ready.memory) c.write_row_at.result
    c.write_row_at.ensures.asked in
    let members = ap (λ (m : Simulation). m.situation.members) same.0 ∙ situated_members r.rules.now f (Some c.args.position) (simulation_of turned) there in
    ap (λ members. run_row r.rules.now r.style.now (file_with members r.request.now)) members
