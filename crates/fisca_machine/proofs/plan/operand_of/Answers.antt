use Rattle.std.proofs.Common.{sym}
use Rattle.fisca_machine.proofs.Boxed.{ask_seen, parameter_seen}
use Rattle.fisca_machine.proofs.plan.operand_of.Goals as goal

pub returns-in-Ask-clause-some : goal.returns-in-Ask-clause-some
returns-in-Ask-clause-some c = rw (ask_seen c.args.e.now c.in-Ask.ask c.in-Ask.is, sym c.deref.ensures) c.own_key.ensures.some

pub returns-in-Ask-clause-only : goal.returns-in-Ask-clause-only
returns-in-Ask-clause-only c = rw (ask_seen c.args.e.now c.in-Ask.ask c.in-Ask.is, sym c.deref.ensures) c.own_key.ensures.only

pub returns-in-Parameter-clause-some : goal.returns-in-Parameter-clause-some
returns-in-Parameter-clause-some c = rw (parameter_seen c.args.e.now c.in-Parameter.x c.in-Parameter.is, sym c.deref-in-Parameter.ensures) c.parameter_of.ensures.some
