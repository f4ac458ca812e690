use Rattle.std.proofs.Common.{◌≡◌}
use Rattle.fisca_expr_parser.specs.Signs.{signs}
use Rattle.fisca_expr_parser.proofs.Laws.{expression_found}
use Rattle.fisca_expr_parser.proofs.reader.read_expression.Goals as goal

pub returns-in-Ok-clause-found : goal.returns-in-Ok-clause-found
returns-in-Ok-clause-found c =
    let is : c.new-cursor.result ≡ signs c.args.text.now c.args.tokens.now = c.new-cursor.ensures in
    rw (← is) (expression_found c.args.mode c.args.limit _ _ c.in-Ok.ensures)
