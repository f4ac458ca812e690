use Rattle.std.proofs.Common.{◌-◌, ap, ◌∙◌, sym, arith, Ok, Err}
use Rattle.std.specs.Prelude.{map}
use Rattle.std.proofs.lemmas.Result.{err_from_is_err_and}
use Rattle.fisca_ast.specs.ModuleViews.{assigned, answer}
use Rattle.fisca_parser.specs.Views.{step}
use Rattle.fisca_parser.proofs.Turns.{body_fails, body_ends, body_goes, body_stops, pushed}
use Rattle.fisca_parser.proofs.bodies.read_body.Goals as goal

pub returns-in_err-local : goal.returns-in_err-local
returns-in_err-local c =
    let l = c.loop-turn in
    let p = err_from_is_err_and c.from_residual.result c.from_residual.ensures.1 in
    rw (p.1, p.2) (λ k. body_fails c.args.text.now c.args.end c.args.indent _ (map assigned l.locals.items) (c.left-turn-end.result - l._turn) l.lines _ l.invariant (omega arith) (c.in_err-local.ensures k))

pub returns-in-Result : goal.returns-in-Result
returns-in-Result c =
    let l = c.loop-turn in
    body_ends c.args.text.now c.args.end c.args.indent _ (map assigned l.locals.items) (c.left-turn-end.result - l._turn) l.lines c.next_step.new.lines (answer c.in-Result.returned) l.invariant (omega arith) (c.in_ok-local.ensures ∙ ap (λ s. Ok (step s, c.next_step.new.lines)) c.in-Result.is)

pub loop-turn-preserved : goal.loop-turn-preserved
loop-turn-preserved c =
    let l = c.loop-turn in
    body_goes c.args.text.now c.args.end c.args.indent _ (map assigned l.locals.items) (map assigned c.push.new.self.items) (c.left-turn-end.result - l._turn) _ l.lines c.next_step.new.lines (assigned c.in-Local.local) l.invariant (omega arith)
    (c.in_ok-local.ensures ∙ ap (λ s. Ok (step s, c.next_step.new.lines)) c.in-Local.is) (pushed assigned l.locals.items c.push.new.self.items c.in-Local.local c.in_ok-push-in-Local.ensures.items) (omega arith)

pub returns : goal.returns
returns c k = let l = c.loop-turn in body_stops c.args.text.now c.args.end c.args.indent _ (map assigned l.locals.items) (c.left-turn-end.result - l._turn) l.lines l.invariant (omega arith) ∙ ap Err (sym c.missing.ensures)
