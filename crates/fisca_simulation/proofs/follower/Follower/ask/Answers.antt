use Rattle.std.proofs.Common.{◌∙◌, Err, ap, append-nil, refl, subst, sym}
use Rattle.fisca_typing.specs.Questions.{in_range, moved_all}
use Rattle.fisca_ops.specs.declared.fault.OperationFault.TheVariants as fault
use Rattle.fisca_simulation.specs.Followers.{asks_at}
use Rattle.fisca_simulation.specs.Noted.{unread}
use Rattle.fisca_simulation.specs.Played.{Moves, Plays, played}
use Rattle.fisca_simulation.specs.declared.note.Halted.TheVariants as halted
use Rattle.fisca_simulation.proofs.follower.Follower.ask.Goals as goal

pub ask_known-requires : goal.ask_known-requires
ask_known-requires g c =
    let s = c.args.self.now in
    let W = g.A.Answering.answers s.answers.now in
    let is = c.in-Ok.ensures ∙ ap (λ ms. moved_all ms s.frame.period) c.as_slice.ensures.value in
    record { moving = subst (λ r. Moves W (unread (in_range r (asks_at s c.args.ask.now c.args.at)))) (sym is) c.requires.moving }

pub returns-in-Ok : goal.returns-in-Ok
returns-in-Ok g c =
    let s = c.args.self.now in
    let W = g.A.Answering.answers s.answers.now in
    let is = c.in-Ok.ensures ∙ ap (λ ms. moved_all ms s.frame.period) c.as_slice.ensures.value in
    subst (λ r. Plays c.ask_known.result c.args.notes.now c.ask_known.new.notes (played W (unread (in_range r (asks_at s c.args.ask.now c.args.at))))) is c.ask_known.ensures

pub returns-in-Err : goal.returns-in-Err
returns-in-Err g c =
    let s = c.args.self.now in
    let W = g.A.Answering.answers s.answers.now in
    let is = c.in-Err.ensures ∙ ap (λ ms. moved_all ms s.frame.period) c.as_slice.ensures.value in
    subst (λ r. Plays (Err (halted.Fault fault.PeriodOutOfRange)) c.args.notes.now c.args.notes.now (played W (unread (in_range r (asks_at s c.args.ask.now c.args.at))))) is (refl, sym (append-nil _))
