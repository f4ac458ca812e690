use Rattle.std.proofs.Common.{Ok, append-nil, ap, refl, subst, sym}
use Rattle.fisca_typing.specs.Questions.{ask_first}
use Rattle.fisca_simulation.specs.Noted.{unread}
use Rattle.fisca_simulation.specs.Played.{Moves, Plays, played, value}
use Rattle.fisca_simulation.proofs.follower.Follower.ask_holder.Goals as goal

pub ask_by-requires : goal.ask_by-requires
ask_by-requires g c =
    let W = g.A.Answering.answers c.args.self.now.answers.now in
    record { moving = subst (λ ps. Moves W (unread (ask_first c.args.asking c.args.variable c.args.unit c.args.value_type c.args.period ps))) c.in-Some.ensures c.requires.moving }

pub returns-in-Some : goal.returns-in-Some
returns-in-Some g c =
    let W = g.A.Answering.answers c.args.self.now.answers.now in
    subst (λ ps. Plays c.ask_by.result c.args.notes.now c.ask_by.new.notes (played W (unread (ask_first c.args.asking c.args.variable c.args.unit c.args.value_type c.args.period ps)))) (sym c.in-Some.ensures) c.ask_by.ensures

pub returns-in-None : goal.returns-in-None
returns-in-None g c =
    let W = g.A.Answering.answers c.args.self.now.answers.now in
    subst (λ ps. Plays (Ok c.default_by.result) c.args.notes.now c.args.notes.now (played W (unread (ask_first c.args.asking c.args.variable c.args.unit c.args.value_type c.args.period ps)))) (sym c.in-None.ensures)
    (ap value (sym c.default_by.ensures), sym (append-nil _))
