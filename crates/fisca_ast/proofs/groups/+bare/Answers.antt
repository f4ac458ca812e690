use Rattle.std.proofs.Common.{arith}
use Rattle.fisca_ast.proofs.Inside.{alone_comma, alone_many}
use Rattle.fisca_ast.proofs.groups.+bare.Goals as goal

pub alone_among-returns-then-comma : goal.alone_among-returns-then-comma
alone_among-returns-then-comma t c = alone_comma _ _ c.if-comma.true

pub alone_among-returns-then-items-ne1 : goal.alone_among-returns-then-items-ne1
alone_among-returns-then-items-ne1 t c = alone_many _ _ (λ e. omega arith)
