use Rattle.std.proofs.Common.{◌<◌, ◌≤◌, arith, subst}
use Rattle.fisca_model.specs.declared.eval_fault.EvalFault.{EvalFault}
use Rattle.fisca_writer.specs.Ranges.{IsInside, stop_of}
use Rattle.fisca_writer.specs.declared.fault.RunFault.{RunFault}
use Rattle.fisca_grid_run.proofs.AtOnce.{counted_at_once, lacked_at_once, refused_run, run_at_once}
use Rattle.fisca_grid_run.specs.Ends.{IsAtOnce}
use Rattle.fisca_grid_run.specs.Runs.{positions, run_row}
use Rattle.fisca_run_file.specs.Views.{run_file}
use Rattle.fisca_grid_run.proofs.grid_run.run_grid.Goals as goal

pub returns-in-Some-clause-run : goal.returns-in-Some-clause-run
returns-in-Some-clause-run g c =
    let f = run_file c.args.run in
    let ending = c.in-Some.end in
    let at : IsAtOnce (positions f) c.args.from c.args.limit ending = subst (λ size. IsAtOnce size c.args.from c.args.limit ending) c.size-size.ensures c.in-Some.ensures.some in
    let low : c.args.from ≤ c.size-size.result = omega arith in
    let high : c.unwrap_or.result ≤ c.size-size.result = omega arith in
    let inside = subst (λ size. IsInside size c.args.from c.args.limit) c.size-size.ensures (low, subst (λ stop. stop ≤ c.size-size.result) c.unwrap_or.ensures high) in
    run_at_once (run_row c.args.rules.now c.args.style f) (positions f) c.args.from c.args.limit (g.S.RowSink.taken c.args.sink.now) ending inside at

pub returns-in-Some-clause-counts : goal.returns-in-Some-clause-counts
returns-in-Some-clause-counts g c =
    let f = run_file c.args.run in
    let ending = c.in-Some.end in
    let at : IsAtOnce (positions f) c.args.from c.args.limit ending = subst (λ size. IsAtOnce size c.args.from c.args.limit ending) c.size-size.ensures c.in-Some.ensures.some in
    counted_at_once c.args.rules.now c.args.style f c.args.from c.args.limit ending c.new.result at c.new.ensures

pub returns-in-Err-clause-run : goal.returns-in-Err-clause-run
returns-in-Err-clause-run g c =
    let f = run_file c.args.run in
    let within : c.args.from < stop_of (positions f) c.args.limit = subst (λ size. c.args.from < stop_of size c.args.limit) c.size-size.ensures c.in_default.ensures.none.0 in
    let high : c.unwrap_or.result ≤ c.size-size.result = omega arith in
    let room = subst (λ size. stop_of size c.args.limit ≤ size) c.size-size.ensures (subst (λ stop. stop ≤ c.size-size.result) c.unwrap_or.ensures high) in
    refused_run (run_row c.args.rules.now c.args.style f) (positions f) c.args.from c.args.limit (g.S.RowSink.taken c.args.sink.now) room within c.in_default.ensures.none.1

pub returns-in-Some-clause-lacks : goal.returns-in-Some-clause-lacks
returns-in-Some-clause-lacks g c =
    let f = run_file c.args.run in
    let ending = c.in-Some.end in
    let at : IsAtOnce (positions f) c.args.from c.args.limit ending = subst (λ size. IsAtOnce size c.args.from c.args.limit ending) c.size-size.ensures c.in-Some.ensures.some in
    lacked_at_once (RunFault EvalFault) c.args.rules.now c.args.style f c.args.from c.args.limit ending c.args.lacks.now at
