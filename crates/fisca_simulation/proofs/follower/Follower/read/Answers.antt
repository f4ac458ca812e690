use Rattle.std.proofs.lemmas.Result.{err_from_is_err_and}
use Rattle.fisca_simulation.specs.NotedFormulas.{parameter_read}
use Rattle.fisca_simulation.specs.declared.note.Note.TheVariants as note
use Rattle.fisca_simulation.proofs.FollowedSteps.{at_once, noted_first}
use Rattle.fisca_simulation.proofs.follower.Follower.read.Goals as goal

pub unreachable-requires : goal.unreachable-requires
unreachable-requires g c = rw c.in_default.ensures at c.requires.moving

pub returns : goal.returns
returns g c =
    let W = g.A.Answering.answers c.args.self.now.answers.now in
    let place = c.in-Some.place in
    rw c.in-Some.ensures (noted_first W (note.Read (parameter_read place c.args.day)) _ c.ended.result c.args.notes.now c.push.new.self c.push.new.self c.in_ok-push.ensures.ok (at_once W c.ended.result c.parameter_at.result _ c.push.new.self c.parameter_at.ensures c.ended.ensures))

pub returns-in_err-push : goal.returns-in_err-push
returns-in_err-push g c =
    let p = err_from_is_err_and c.from_residual.result c.from_residual.ensures.1 in
    rw (p.1, p.2, c.in_err-push.ensures.err) tt
