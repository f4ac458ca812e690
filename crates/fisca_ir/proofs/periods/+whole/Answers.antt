use Rattle.std.proofs.Common.{arith}
use Rattle.fisca_ir.proofs.Whole.{whole_comma, whole_many}
use Rattle.fisca_ir.proofs.periods.+whole.Goals as goal

pub whole_alone-returns-then-comma : goal.whole_alone-returns-then-comma
whole_alone-returns-then-comma t c = whole_comma _ _ _ c.if-comma.true

pub whole_alone-returns-then-items-ne1 : goal.whole_alone-returns-then-items-ne1
whole_alone-returns-then-items-ne1 t c = whole_many _ _ _ (λ e. omega arith)
