use Rattle.std.proofs.Common.{None}
use Rattle.fisca_machine.specs.Context.{tables, groups}
use Rattle.fisca_ops.specs.Casts.{cast}
use Rattle.fisca_machine.proofs.Formulas.{formula_on}
use Rattle.fisca_machine.proofs.machine.Machine.begin.Goals as goal

pub returns-clause-begun : goal.returns-clause-begun
returns-clause-begun c = rw (c.in_ok-push.ensures.ok, c.in_ok-push-2.ensures.ok) (formula_on (tables c.args.context.now) (groups c.args.context.now) c.args.locals.now c.args.returned.now (record { entity = c.args.frame.entity; member = c.args.frame.member; person = None; period = c.args.frame.period }) (cast c.args.declared))
