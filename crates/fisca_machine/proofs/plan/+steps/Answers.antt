use Rattle.std.proofs.Common.{Some, None, refl}
use Rattle.fisca_ir.specs.Views.{node}
use Rattle.fisca_symbols.specs.Known.{tables as known}
use Rattle.fisca_machine.proofs.Boxed.{arithmetic_seen}
use Rattle.fisca_machine.proofs.Planned.{operand_has_plan, step_more}
use Rattle.fisca_machine.specs.Running.{point}
use Rattle.fisca_machine.specs.declared.pending.Operation.TheVariants as operation
use Rattle.fisca_machine.proofs.plan.+steps.Goals as goal

pub put_steps-returns-in-Some-clause-only : goal.put_steps-returns-in-Some-clause-only
put_steps-returns-in-Some-clause-only t c g ls = operand_has_plan (known c.args.tables.now) g ls (node c.args.e.now) (point c.args.frame.now (record { person = None; visible = 0 })) (c.in-Some.ensures.only g ls)

pub put_arithmetic-returns-clause-steps : goal.put_arithmetic-returns-clause-steps
put_arithmetic-returns-clause-steps t c g ls =
    rw (c.in_ok-push.ensures.items)
    (step_more (known c.args.tables.now) g ls c.args.kind (node c.args.left.now) (node c.args.right.now) (point c.args.frame.now (record { person = None; visible = 0 }))
    c.in-Some.operand c.put_steps.new.steps.items
    (λ k. (rw (c.if-not-branch.false) at c.in_ok-put_steps.ensures.steps) g ls k)
    (λ k. c.in-Some.ensures.some g ls k)
    (record { operation = Some (operation.Arithmetic c.args.kind); right = c.in-Some.operand }) refl)

pub put_steps-returns-in-Arithmetic-clause-steps : goal.put_steps-returns-in-Arithmetic-clause-steps
put_steps-returns-in-Arithmetic-clause-steps t c =
    rw (arithmetic_seen c.args.e.now c.in-Arithmetic.kind c.in-Arithmetic.pair c.in-Arithmetic.is)
    (rw (c.deref.ensures, c.deref-in-Arithmetic.ensures) at c.put_arithmetic.ensures.steps)
