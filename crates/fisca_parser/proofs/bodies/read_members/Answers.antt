use Rattle.std.proofs.Common.{◌-◌, ap, ◌∙◌, arith, Ok}
use Rattle.std.proofs.lemmas.Result.{err_from_is_err_and}
use Rattle.fisca_parser.specs.Reading.{enum_line}
use Rattle.fisca_parser.proofs.Turns.{fails, ends, goes, stops}
use Rattle.fisca_parser.proofs.bodies.read_members.Goals as goal

pub returns-in_err-member : goal.returns-in_err-member
returns-in_err-member c =
    let l = c.loop-turn in
    let p = err_from_is_err_and c.from_residual.result c.from_residual.ensures.1 in
    rw (p.1, p.2) (λ k. fails c.args.indent (enum_line c.args.text.now) _ l.found.items (c.left-turn-end.result - l._turn) l.lines _ l.invariant (omega arith) (c.in_err-member.ensures k))

pub returns-in_default : goal.returns-in_default
returns-in_default c =
    let l = c.loop-turn in
    ends c.args.indent (enum_line c.args.text.now) _ l.found.items (c.left-turn-end.result - l._turn) l.lines c.next_member.new.lines l.invariant (omega arith) (c.in_ok-member.ensures ∙ ap (λ m. Ok (m, c.next_member.new.lines)) c.in_default.is)

pub loop-turn-preserved : goal.loop-turn-preserved
loop-turn-preserved c =
    let l = c.loop-turn in
    goes c.args.indent (enum_line c.args.text.now) _ l.found.items c.keep.new.found.items (c.left-turn-end.result - l._turn) _ l.lines c.next_member.new.lines c.in-Some.member l.invariant (omega arith) (c.in_ok-member.ensures ∙ ap (λ m. Ok (m, c.next_member.new.lines)) c.in-Some.is) c.in_ok-keep.ensures.value (omega arith)

pub returns : goal.returns
returns c = let l = c.loop-turn in stops c.args.indent (enum_line c.args.text.now) _ l.found.items (c.left-turn-end.result - l._turn) l.lines l.invariant (omega arith)
