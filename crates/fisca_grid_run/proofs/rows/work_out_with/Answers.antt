use Rattle.std.proofs.Common.{Ok, ap, sym, subst, string_bytes}
use Rattle.fisca_num.specs.Results.{and_then}
use Rattle.fisca_situations.specs.Situations.{Situation}
use Rattle.fisca_writer.specs.Row.{IsWorkedOut}
use Rattle.fisca_run_file.specs.Views.{file_with}
use Rattle.fisca_grid_run.proofs.Fitting.{ready_at}
use Rattle.fisca_grid_run.specs.Runs.{row_in}
use Rattle.fisca_grid_run.proofs.rows.work_out_with.Goals as goal

pub work_out_in-requires-clause-ready : goal.work_out_in-requires-clause-ready
work_out_in-requires-clause-ready c =
    let members = c.args.members in
    let s : Situation = record { members = members; inputs = c.in-Ok.inputs } in
    let is = ap (λ r. and_then r (λ es. Ok (record { members = members; inputs = es }))) c.in-Ok.ensures in
    ready_at c.args.rules.now c.requires.accepted.tree (file_with members c.args.request.now) c.requires.accepted.asked c.args.position c.args.moved.now s c.requires.moved is

pub returns-in-Ok-clause-row : goal.returns-in-Ok-clause-row
returns-in-Ok-clause-row c =
    let members = c.args.members in
    let is = ap (λ r. and_then r (λ es. Ok (record { members = members; inputs = es }))) c.in-Ok.ensures in
    subst (λ r. IsWorkedOut (row_in c.args.rules.now c.args.style (file_with members c.args.request.now) c.args.position c.args.moved.now r) c.work_out_in.result.0 (string_bytes c.work_out_in.new.line)) (sym is)
    c.work_out_in.ensures.row
