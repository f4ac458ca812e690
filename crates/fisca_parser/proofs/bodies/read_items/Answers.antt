use Rattle.std.proofs.Common.{◌-◌, ap, ◌∙◌, arith, Ok}
use Rattle.std.specs.Prelude.{map, option_map}
use Rattle.std.proofs.lemmas.Result.{err_from_is_err_and}
use Rattle.fisca_ast.specs.ModuleViews.{item}
use Rattle.fisca_parser.specs.Reading.{variable_line}
use Rattle.fisca_parser.proofs.Turns.{fails, ends, goes, stops, kept}
use Rattle.fisca_parser.proofs.bodies.read_items.Goals as goal

pub returns-in_err-item : goal.returns-in_err-item
returns-in_err-item c =
    let l = c.loop-turn in
    let p = err_from_is_err_and c.from_residual.result c.from_residual.ensures.1 in
    rw (p.1, p.2) (λ k. fails c.args.indent (variable_line c.args.text.now c.args.end) _ (map item l.found.items) (c.left-turn-end.result - l._turn) l.lines _ l.invariant (omega arith) (c.in_err-item.ensures k))

pub returns-in_default : goal.returns-in_default
returns-in_default c =
    let l = c.loop-turn in
    ends c.args.indent (variable_line c.args.text.now c.args.end) _ (map item l.found.items) (c.left-turn-end.result - l._turn) l.lines c.next_item.new.lines l.invariant (omega arith) (c.in_ok-item.ensures ∙ ap (λ m. Ok (option_map (option_map item) m, c.next_item.new.lines)) c.in_default.is)

pub loop-turn-preserved : goal.loop-turn-preserved
loop-turn-preserved c =
    let l = c.loop-turn in
    goes c.args.indent (variable_line c.args.text.now c.args.end) _ (map item l.found.items) (map item c.keep.new.found.items) (c.left-turn-end.result - l._turn) _ l.lines c.next_item.new.lines (option_map item c.in-Some.item) l.invariant (omega arith)
    (c.in_ok-item.ensures ∙ ap (λ m. Ok (option_map (option_map item) m, c.next_item.new.lines)) c.in-Some.is) (kept item l.found.items c.keep.new.found.items c.in-Some.item c.in_ok-keep.ensures.value) (omega arith)

pub returns : goal.returns
returns c = let l = c.loop-turn in stops c.args.indent (variable_line c.args.text.now c.args.end) _ (map item l.found.items) (c.left-turn-end.result - l._turn) l.lines l.invariant (omega arith)
