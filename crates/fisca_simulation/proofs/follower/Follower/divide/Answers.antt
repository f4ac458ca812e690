use Rattle.std.proofs.Common.{append-nil, refl, sym}
use Rattle.std.proofs.lemmas.Result.{err_from_is_err_and}
use Rattle.fisca_key_semantics.specs.Dialogues as plain
use Rattle.fisca_model.specs.Seen.{key_seen}
use Rattle.fisca_ops.specs.Parts.{shared}
use Rattle.fisca_simulation.specs.Noted.{unread}
use Rattle.fisca_simulation.proofs.Playing.{plays_end}
use Rattle.fisca_simulation.proofs.FollowedSteps.{one_ended, one_moving}
use Rattle.fisca_simulation.proofs.follower.Follower.divide.Goals as goal

pub share_of-requires : goal.share_of-requires
share_of-requires g c =
    let W = g.A.Answering.answers c.args.self.now.answers.now in
    let part = c.in-Ok.part in
    let moving = rw c.in-Ok.ensures at c.requires.moving in
    one_moving W (unread (plain.asks (key_seen part.key) plain.gives)) (shared part.share) c.in_ok-value-in-Ok.value c.args.notes.now c.asked.new.notes moving c.in_ok-value-in-Ok.ensures

pub returns-in_ok-value-in-Ok : goal.returns-in_ok-value-in-Ok
returns-in_ok-value-in-Ok g c =
    let W = g.A.Answering.answers c.args.self.now.answers.now in
    let part = c.in-Ok.part in
    rw c.in-Ok.ensures (one_ended W (unread (plain.asks (key_seen part.key) plain.gives)) (shared part.share) c.in_ok-value-in-Ok.value c.ended.result c.share_of.result c.args.notes.now c.asked.new.notes c.in_ok-value-in-Ok.ensures c.share_of.ensures c.ended.ensures)

pub returns-in_err-value-in-Ok : goal.returns-in_err-value-in-Ok
returns-in_err-value-in-Ok g c =
    let W = g.A.Answering.answers c.args.self.now.answers.now in
    let part = c.in-Ok.part in
    let p = err_from_is_err_and c.from_residual.result c.from_residual.ensures.1 in
    rw (p.1, p.2, c.in-Ok.ensures) (plays_end W (unread (plain.asks (key_seen part.key) plain.gives)) (λ x. unread (shared part.share x)) c.in_err-value-in-Ok.field-0.0 c.args.notes.now c.asked.new.notes c.in_err-value-in-Ok.ensures)

pub returns-in-Err : goal.returns-in-Err
returns-in-Err g c = rw c.in-Err.ensures (refl, sym (append-nil _))
