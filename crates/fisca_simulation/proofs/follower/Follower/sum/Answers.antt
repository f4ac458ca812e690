use Rattle.std.proofs.Common.{◌≡◌, [], ◌∷◌, ◌+◌, Ok, refl, sym, ap, append-nil, drop, subst}
use Rattle.std.proofs.lemmas.Result.{err_from_is_err_and}
use Rattle.fisca_typing.specs.Answers.{arithmetic_of}
use Rattle.fisca_typing.specs.Questions.{ask_all, key}
use Rattle.fisca_key_semantics.specs.Dialogues as plain
use Rattle.fisca_model.specs.Seen.{value_seen}
use Rattle.fisca_model.specs.Values.{number}
use Rattle.fisca_num.specs.Number.{zero_number}
use Rattle.fisca_time.specs.Period.{subs}
use Rattle.fisca_typing.specs.declared.operations.Arithmetic.TheVariants as arith
use Rattle.fisca_simulation.specs.Noted.{gives, unread}
use Rattle.fisca_simulation.specs.Played.{value}
use Rattle.fisca_simulation.proofs.Playing.{leads_plays}
use Rattle.fisca_simulation.proofs.Sums.{more, part_is, part_next}
use Rattle.fisca_simulation.proofs.Turns.{step_ends, step_moving, step_next, step_value, turn_ends}
use Rattle.fisca_simulation.proofs.follower.Follower.sum.Goals as goal

pub parts-init : goal.parts-init
parts-init g c = ([], zero_number, sym (append-nil _), ap number c.zero.ensures, (refl, refl))

pub arithmetic-requires : goal.arithmetic-requires
arithmetic-requires g c =
    let W = g.A.Answering.answers c.args.self.now.answers.now in
    let i = c.parts.invariant in
    let rest = drop (c.parts.next + 1) (subs c.args.period c.args.unit) in
    let whole = unread (ask_all c.args.variable c.args.member (subs c.args.period c.args.unit) zero_number) in
    let is = part_is c.args.variable c.args.member c.in-Some.part rest _ i.1 (value_seen c.parts.sum) c.in-Some.ensures i.3 in
    step_moving W whole (unread (plain.asks (key c.args.variable c.args.member c.in-Some.part) plain.gives)) _ (arithmetic_of arith.Add (value_seen c.parts.sum)) (more c.args.variable c.args.member rest) i.0 c.args.notes.now c.parts.notes i.4 is i.2 c.in_ok-value.value c.asked.new.notes c.in_ok-value.ensures c.requires.moving

pub parts-preserved : goal.parts-preserved
parts-preserved g c =
    let W = g.A.Answering.answers c.args.self.now.answers.now in
    let i = c.parts.invariant in
    let parts = subs c.args.period c.args.unit in
    let rest = drop c.in-Some-checked_add.after parts in
    let there = subst (λ k. drop c.parts.next parts ≡ c.in-Some.part ∷ drop k parts) (sym c.in-Some-checked_add.ensures.1) c.in-Some.ensures in
    let whole = unread (ask_all c.args.variable c.args.member (subs c.args.period c.args.unit) zero_number) in
    let question = unread (plain.asks (key c.args.variable c.args.member c.in-Some.part) plain.gives) in
    let is = part_is c.args.variable c.args.member c.in-Some.part rest _ i.1 (value_seen c.parts.sum) there i.3 in
    let next = step_next W whole question _ (arithmetic_of arith.Add (value_seen c.parts.sum)) (more c.args.variable c.args.member rest) i.0 c.args.notes.now c.parts.notes i.4 is i.2 c.in_ok-value.value c.asked.new.notes c.in_ok-value.ensures c.in_ok-sum.sum c.arithmetic.result c.arithmetic.ensures c.in_ok-sum.ensures in
    let added = step_value W whole question _ (arithmetic_of arith.Add (value_seen c.parts.sum)) (more c.args.variable c.args.member rest) i.0 c.args.notes.now c.parts.notes i.4 is i.2 c.in_ok-value.value c.asked.new.notes c.in_ok-value.ensures c.in_ok-sum.sum c.arithmetic.result c.arithmetic.ensures c.in_ok-sum.ensures in
    part_next W c.args.variable c.args.member rest i.1 whole (value_seen c.parts.sum) (value_seen c.in_ok-value.value) (value_seen c.in_ok-sum.sum) c.args.notes.now c.asked.new.notes i.3 added next

pub returns : goal.returns
returns g c =
    let W = g.A.Answering.answers c.args.self.now.answers.now in
    let i = c.parts.invariant in
    let whole = unread (ask_all c.args.variable c.args.member (subs c.args.period c.args.unit) zero_number) in
    let none = rw c.in_default.ensures at i.4 in
    leads_plays W whole (gives (number i.1)) i.0 c.args.notes.now c.parts.notes c.parts.notes (Ok c.parts.sum) none i.2 (ap value (sym i.3), sym (append-nil _))

pub returns-in_err-value : goal.returns-in_err-value
returns-in_err-value g c =
    let W = g.A.Answering.answers c.args.self.now.answers.now in
    let i = c.parts.invariant in
    let p = err_from_is_err_and c.from_residual.result c.from_residual.ensures.1 in
    let rest = drop (c.parts.next + 1) (subs c.args.period c.args.unit) in
    let whole = unread (ask_all c.args.variable c.args.member (subs c.args.period c.args.unit) zero_number) in
    let question = unread (plain.asks (key c.args.variable c.args.member c.in-Some.part) plain.gives) in
    let is = part_is c.args.variable c.args.member c.in-Some.part rest _ i.1 (value_seen c.parts.sum) c.in-Some.ensures i.3 in
    rw (p.1, p.2) (turn_ends W whole question _ (arithmetic_of arith.Add (value_seen c.parts.sum)) (more c.args.variable c.args.member rest) i.0 c.args.notes.now c.parts.notes i.4 is i.2 c.in_err-value.field-0.0 c.asked.new.notes c.in_err-value.ensures)

pub returns-in_err-sum : goal.returns-in_err-sum
returns-in_err-sum g c =
    let W = g.A.Answering.answers c.args.self.now.answers.now in
    let i = c.parts.invariant in
    let p = err_from_is_err_and c.from_residual-in_err-sum.result c.from_residual-in_err-sum.ensures.1 in
    let rest = drop (c.parts.next + 1) (subs c.args.period c.args.unit) in
    let whole = unread (ask_all c.args.variable c.args.member (subs c.args.period c.args.unit) zero_number) in
    let question = unread (plain.asks (key c.args.variable c.args.member c.in-Some.part) plain.gives) in
    let is = part_is c.args.variable c.args.member c.in-Some.part rest _ i.1 (value_seen c.parts.sum) c.in-Some.ensures i.3 in
    rw (p.1, p.2) (step_ends W whole question _ (arithmetic_of arith.Add (value_seen c.parts.sum)) (more c.args.variable c.args.member rest) i.0 c.args.notes.now c.parts.notes i.4 is i.2 c.in_ok-value.value c.asked.new.notes c.in_ok-value.ensures c.in_err-sum.field-0.0 c.arithmetic.result c.arithmetic.ensures c.in_err-sum.ensures)
