use Rattle.std.proofs.Common.{◌-◌, ap, ◌∙◌, arith, Ok}
use Rattle.std.specs.Prelude.{map, option_map}
use Rattle.std.proofs.lemmas.Result.{err_from_is_err_and}
use Rattle.fisca_ast.specs.ModuleViews.{statement}
use Rattle.fisca_parser.specs.Reading.{module_line}
use Rattle.fisca_parser.proofs.Turns.{fails, ends, goes, stops, kept}
use Rattle.fisca_parser.proofs.declarations.read_statements.Goals as goal

pub returns-in_err-statement : goal.returns-in_err-statement
returns-in_err-statement c =
    let l = c.loop-turn in
    let p = err_from_is_err_and c.from_residual.result c.from_residual.ensures.1 in
    rw (p.1, p.2) (λ k. fails 0 (module_line c.args.text.now c.args.end) _ (map statement l.found.items) (c.left-turn-end.result - l._turn) l.lines _ l.invariant (omega arith) (c.in_err-statement.ensures k))

pub returns-in_default : goal.returns-in_default
returns-in_default c =
    let l = c.loop-turn in
    ends 0 (module_line c.args.text.now c.args.end) _ (map statement l.found.items) (c.left-turn-end.result - l._turn) l.lines c.next_statement.new.lines l.invariant (omega arith) (c.in_ok-statement.ensures ∙ ap (λ m. Ok (option_map (option_map statement) m, c.next_statement.new.lines)) c.in_default.is)

pub loop-turn-preserved : goal.loop-turn-preserved
loop-turn-preserved c =
    let l = c.loop-turn in
    goes 0 (module_line c.args.text.now c.args.end) _ (map statement l.found.items) (map statement c.keep.new.found.items) (c.left-turn-end.result - l._turn) _ l.lines c.next_statement.new.lines (option_map statement c.in-Some.statement) l.invariant (omega arith)
    (c.in_ok-statement.ensures ∙ ap (λ m. Ok (option_map (option_map statement) m, c.next_statement.new.lines)) c.in-Some.is) (kept statement l.found.items c.keep.new.found.items c.in-Some.statement c.in_ok-keep.ensures.value) (omega arith)

pub returns : goal.returns
returns c = let l = c.loop-turn in stops 0 (module_line c.args.text.now c.args.end) _ (map statement l.found.items) (c.left-turn-end.result - l._turn) l.lines l.invariant (omega arith)
