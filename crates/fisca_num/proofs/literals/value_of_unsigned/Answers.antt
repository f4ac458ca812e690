use Rattle.std.specs.List.{before_first}
use Rattle.fisca_num.specs.Literal.{is_point}
use Rattle.fisca_num.proofs.Before.{leading_zero, not_whole}
use Rattle.fisca_num.proofs.Forms.{no_whole}
use Rattle.fisca_num.proofs.literals.value_of_unsigned.Goals as goal

pub returns-in_default : goal.returns-in_default
returns-in_default c = no_whole _ _ _ (not_whole (before_first is_point c.args.text.now) c.in_default.ensures)

pub returns-then-text-eq48 : goal.returns-then-text-eq48
returns-then-text-eq48 c = no_whole _ _ _ (leading_zero c.args.text.now c.in-Some.field-0.end c.in-Some.ensures.1 c.if-end-gt1.true c.if-text-eq48.true)
