use Rattle.std.proofs.Common.{subst, sym}
use Rattle.fisca_typing.specs.Questions as questions
use Rattle.fisca_machine.specs.Context.{groups}
use Rattle.fisca_simulation.specs.Followers.{point_of}
use Rattle.fisca_simulation.specs.Noted.{unread}
use Rattle.fisca_simulation.specs.Played.{Moves, Plays, played}
use Rattle.fisca_simulation.proofs.follower.Follower.ask_known.Goals as goal

pub unreachable-requires : goal.unreachable-requires
unreachable-requires g c =
    let s = c.args.self.now in
    let a = c.args.ask.now in
    subst (λ o. Moves (g.A.Answering.answers s.answers.now) (unread (questions.ask_known (groups s.context) (point_of s c.args.at) a.whom a.asking a.variable c.args.period o))) c.in_default.ensures c.requires.moving

pub unreachable-requires-in_default-type_of : goal.unreachable-requires-in_default-type_of
unreachable-requires-in_default-type_of g c =
    let s = c.args.self.now in
    let a = c.args.ask.now in
    let v = c.in-Some.variable.now in
    let W = g.A.Answering.answers s.answers.now in
    let known = subst (λ o. Moves W (unread (questions.ask_known (groups s.context) (point_of s c.args.at) a.whom a.asking a.variable c.args.period o))) c.in-Some.ensures c.requires.moving in
    subst (λ t. Moves W (unread (questions.ask_typed (groups s.context) (point_of s c.args.at) a.whom a.asking a.variable v.definition_period c.args.period t))) (sym c.in_default-type_of.ensures) known

pub ask_of-requires : goal.ask_of-requires
ask_of-requires g c =
    let s = c.args.self.now in
    let a = c.args.ask.now in
    let v = c.in-Some.variable.now in
    let W = g.A.Answering.answers s.answers.now in
    let known = subst (λ o. Moves W (unread (questions.ask_known (groups s.context) (point_of s c.args.at) a.whom a.asking a.variable c.args.period o))) c.in-Some.ensures c.requires.moving in
    record { moving = subst (λ t. Moves W (unread (questions.ask_typed (groups s.context) (point_of s c.args.at) a.whom a.asking a.variable v.definition_period c.args.period t))) (sym c.in-Some-type_of.ensures) known }

pub returns : goal.returns
returns g c =
    let s = c.args.self.now in
    let a = c.args.ask.now in
    let v = c.in-Some.variable.now in
    let W = g.A.Answering.answers s.answers.now in
    subst (λ o. Plays c.ask_of.result c.args.notes.now c.ask_of.new.notes (played W (unread (questions.ask_known (groups s.context) (point_of s c.args.at) a.whom a.asking a.variable c.args.period o)))) (sym c.in-Some.ensures)
    (subst (λ t. Plays c.ask_of.result c.args.notes.now c.ask_of.new.notes (played W (unread (questions.ask_typed (groups s.context) (point_of s c.args.at) a.whom a.asking a.variable v.definition_period c.args.period t)))) c.in-Some-type_of.ensures
    c.ask_of.ensures)
