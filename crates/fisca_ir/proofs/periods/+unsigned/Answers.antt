use Rattle.std.proofs.Common.{arith}
use Rattle.fisca_ir.proofs.Whole.{unsigned_comma, unsigned_many}
use Rattle.fisca_ir.proofs.periods.+unsigned.Goals as goal

pub unsigned_alone-returns-then-comma : goal.unsigned_alone-returns-then-comma
unsigned_alone-returns-then-comma t c = unsigned_comma _ _ _ c.if-comma.true

pub unsigned_alone-returns-then-items-ne1 : goal.unsigned_alone-returns-then-items-ne1
unsigned_alone-returns-then-items-ne1 t c = unsigned_many _ _ _ (λ e. omega arith)
