use Rattle.std.proofs.Common.{refl, sym}
use Rattle.std.proofs.lemmas.Result.{err_from_is_err_and}
use Rattle.fisca_simulation.proofs.follower.Follower.asked.Goals as goal

pub returns-in-Some : goal.returns-in-Some
returns-in-Some g c = rw (sym c.in-Some.ensures) (refl, c.in_ok-push.ensures.ok)

pub returns-in-None : goal.returns-in-None
returns-in-None g c = rw (sym c.in-None.ensures) (refl, c.in_ok-push.ensures.ok)

pub returns-in_err-push : goal.returns-in_err-push
returns-in_err-push g c =
    let p = err_from_is_err_and c.from_residual.result c.from_residual.ensures.1 in
    rw (p.1, p.2, c.in_err-push.ensures.err) tt
