use Rattle.std.proofs.Common.{sym, subst}
use Rattle.std.proofs.lemmas.Result.{err_from_is_err_and}
use Rattle.fisca_model.specs.Seen.{value_seen}
use Rattle.fisca_simulation.specs.NotedFormulas.{scale_read}
use Rattle.fisca_simulation.specs.Played.{Plays, played}
use Rattle.fisca_simulation.specs.declared.note.Note.TheVariants as note
use Rattle.fisca_simulation.proofs.Operands.{number_is, number_moving}
use Rattle.fisca_simulation.proofs.FollowedSteps.{at_once, noted_first}
use Rattle.fisca_simulation.proofs.follower.Follower.sum_for.Goals as goal

pub number_of-base-requires : goal.number_of-base-requires
number_of-base-requires g c = number_moving (g.A.Answering.answers c.args.self.now.answers.now) (value_seen c.args.value) _ c.requires.moving

pub returns : goal.returns
returns g c =
    let W = g.A.Answering.answers c.args.self.now.answers.now in
    let base = c.number_of-base.result in
    let read = noted_first W (note.Read (scale_read c.args.x.now.place c.args.day base)) _ c.ended.result c.args.notes.now c.push.new.self c.push.new.self c.in_ok-push.ensures.ok (at_once W c.ended.result c.scale_sum_at.result _ c.push.new.self c.scale_sum_at.ensures c.ended.ensures) in
    subst (λ d. Plays c.ended.result c.args.notes.now c.push.new.self (played W d)) (sym (number_is (value_seen c.args.value) base c.number_of-base.ensures _)) read

pub returns-in_err-push : goal.returns-in_err-push
returns-in_err-push g c =
    let p = err_from_is_err_and c.from_residual.result c.from_residual.ensures.1 in
    rw (p.1, p.2, c.in_err-push.ensures.err) tt
