use Rattle.std.proofs.Common.{length, refl, sym, subst}
use Rattle.std.proofs.lemmas.Result.{err_from_is_err_and}
use Rattle.fisca_ops.specs.Casts.{cast}
use Rattle.fisca_simulation.specs.Followers.{tells_all}
use Rattle.fisca_simulation.specs.Noted.{behind, unread}
use Rattle.fisca_simulation.specs.Played.{Moves, Plays, played}
use Rattle.fisca_simulation.proofs.Below.{all_told}
use Rattle.fisca_simulation.proofs.Playing.{moves_first, plays_end}
use Rattle.fisca_simulation.proofs.FollowedSteps.{one_ended, one_moving}
use Rattle.fisca_simulation.proofs.follower.Follower.follow.Goals as goal

pub node-requires : goal.node-requires
node-requires g c =
    let s = c.args.self.now in
    let W = g.A.Answering.answers s.answers.now in
    record { moving = subst (Moves W) (all_told s c.args.returned.now (length s.locals.now) refl) (moves_first W (tells_all s c.args.returned.now) (λ x. unread (cast c.args.declared x)) c.requires.moving) }

pub cast-requires : goal.cast-requires
cast-requires g c =
    let s = c.args.self.now in
    let W = g.A.Answering.answers s.answers.now in
    let value = rw (sym (all_told s c.args.returned.now (length s.locals.now) refl)) at c.in_ok-value.ensures in
    one_moving W (tells_all s c.args.returned.now) (cast c.args.declared) c.in_ok-value.value c.args.notes.now c.node.new.notes c.requires.moving value

pub returns : goal.returns
returns g c =
    let s = c.args.self.now in
    let W = g.A.Answering.answers s.answers.now in
    let value = rw (sym (all_told s c.args.returned.now (length s.locals.now) refl)) at c.in_ok-value.ensures in
    one_ended W (tells_all s c.args.returned.now) (cast c.args.declared) c.in_ok-value.value c.ended.result c.cast.result c.args.notes.now c.node.new.notes value c.cast.ensures c.ended.ensures

pub returns-in_err-value : goal.returns-in_err-value
returns-in_err-value g c =
    let s = c.args.self.now in
    let W = g.A.Answering.answers s.answers.now in
    let p = err_from_is_err_and c.from_residual.result c.from_residual.ensures.1 in
    let none = rw (sym (all_told s c.args.returned.now (length s.locals.now) refl)) at c.in_err-value.ensures in
    rw (p.1, p.2) (plays_end W (tells_all s c.args.returned.now) (λ x. unread (cast c.args.declared x)) c.in_err-value.field-0.0 c.args.notes.now c.node.new.notes none)
