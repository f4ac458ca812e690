use Rattle.std.proofs.Common.{map}
use Rattle.std.proofs.lemmas.Result.{err_from_is_err_and}
use Rattle.fisca_ast.specs.ModuleViews.{item}
use Rattle.fisca_rules.proofs.Fitting.{lines_refused, lines_said}
use Rattle.fisca_rules.proofs.lines.items_read.Goals as goal

pub returns-in_err-said : goal.returns-in_err-said
returns-in_err-said c =
    let told = err_from_is_err_and c.from_residual.result c.from_residual.ensures.1 in
    rw (told.1, told.2) (λ known. lines_refused c.args.declared.now c.args.place (map item c.args.items.now) c.type_lines-types.result c.in_err-said.field-0.0 c.type_lines-types.ensures (c.in_err-said.ensures known))

pub returns : goal.returns
returns c = lines_said c.args.declared.now c.args.place (map item c.args.items.now) c.type_lines-types.result c.in_ok-said.said c.type_lines-types.ensures c.in_ok-said.ensures
