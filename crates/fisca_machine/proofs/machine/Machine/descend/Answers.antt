use Rattle.std.proofs.Common.{sym}
use Rattle.fisca_machine.proofs.Boxed.{total_seen, arithmetic_seen, logic_seen, comparison_seen, same_seen, choose_seen, parameter_seen, scale_seen}
use Rattle.fisca_machine.proofs.machine.Machine.descend.Goals as goal

pub returns-in-Total-clause-same : goal.returns-in-Total-clause-same
returns-in-Total-clause-same c = rw (total_seen c.args.node.now c.in-Total.total c.in-Total.x c.in-Total.is, sym c.deref-in-Total.ensures) c.total.ensures.same

pub returns-in-Total-clause-stop : goal.returns-in-Total-clause-stop
returns-in-Total-clause-stop c = rw (total_seen c.args.node.now c.in-Total.total c.in-Total.x c.in-Total.is, sym c.deref-in-Total.ensures) c.total.ensures.stop

pub returns-in-Arithmetic-clause-same : goal.returns-in-Arithmetic-clause-same
returns-in-Arithmetic-clause-same c = rw (arithmetic_seen c.args.node.now c.in-Arithmetic.kind c.in-Arithmetic.pair c.in-Arithmetic.is, sym c.deref-in-Arithmetic.ensures) c.two.ensures.same

pub returns-in-Arithmetic-clause-stop : goal.returns-in-Arithmetic-clause-stop
returns-in-Arithmetic-clause-stop c = rw (arithmetic_seen c.args.node.now c.in-Arithmetic.kind c.in-Arithmetic.pair c.in-Arithmetic.is, sym c.deref-in-Arithmetic.ensures) c.two.ensures.stop

pub returns-in-Logic-clause-same : goal.returns-in-Logic-clause-same
returns-in-Logic-clause-same c = rw (logic_seen c.args.node.now c.in-Logic.kind c.in-Logic.pair c.in-Logic.is, sym c.deref-in-Logic.ensures) c.two-in-Logic.ensures.same

pub returns-in-Logic-clause-stop : goal.returns-in-Logic-clause-stop
returns-in-Logic-clause-stop c = rw (logic_seen c.args.node.now c.in-Logic.kind c.in-Logic.pair c.in-Logic.is, sym c.deref-in-Logic.ensures) c.two-in-Logic.ensures.stop

pub returns-in-Comparison-clause-same : goal.returns-in-Comparison-clause-same
returns-in-Comparison-clause-same c = rw (comparison_seen c.args.node.now c.in-Comparison.kind c.in-Comparison.pair c.in-Comparison.is, sym c.deref-in-Comparison.ensures) c.two-in-Comparison.ensures.same

pub returns-in-Comparison-clause-stop : goal.returns-in-Comparison-clause-stop
returns-in-Comparison-clause-stop c = rw (comparison_seen c.args.node.now c.in-Comparison.kind c.in-Comparison.pair c.in-Comparison.is, sym c.deref-in-Comparison.ensures) c.two-in-Comparison.ensures.stop

pub returns-in-Same-clause-same : goal.returns-in-Same-clause-same
returns-in-Same-clause-same c = rw (same_seen c.args.node.now c.in-Same.pair c.in-Same.is, sym c.deref-in-Same.ensures) c.two-in-Same.ensures.same

pub returns-in-Same-clause-stop : goal.returns-in-Same-clause-stop
returns-in-Same-clause-stop c = rw (same_seen c.args.node.now c.in-Same.pair c.in-Same.is, sym c.deref-in-Same.ensures) c.two-in-Same.ensures.stop

pub returns-in-Choose-clause-same : goal.returns-in-Choose-clause-same
returns-in-Choose-clause-same c = rw (choose_seen c.args.node.now c.in-Choose.condition c.in-Choose.pair c.in-Choose.is, sym c.deref-in-Choose.ensures, sym c.deref-in-Choose-2.ensures) c.choose.ensures.same

pub returns-in-Choose-clause-stop : goal.returns-in-Choose-clause-stop
returns-in-Choose-clause-stop c = rw (choose_seen c.args.node.now c.in-Choose.condition c.in-Choose.pair c.in-Choose.is, sym c.deref-in-Choose.ensures, sym c.deref-in-Choose-2.ensures) c.choose.ensures.stop

pub returns-in-Parameter-clause-same : goal.returns-in-Parameter-clause-same
returns-in-Parameter-clause-same c = rw (parameter_seen c.args.node.now c.in-Parameter.x c.in-Parameter.is, sym c.deref-in-Parameter.ensures) c.parameter.ensures.same

pub returns-in-Parameter-clause-stop : goal.returns-in-Parameter-clause-stop
returns-in-Parameter-clause-stop c = rw (parameter_seen c.args.node.now c.in-Parameter.x c.in-Parameter.is, sym c.deref-in-Parameter.ensures) c.parameter.ensures.stop

pub returns-in-ScaleSum-clause-same : goal.returns-in-ScaleSum-clause-same
returns-in-ScaleSum-clause-same c = rw (scale_seen c.args.node.now c.in-ScaleSum.x c.in-ScaleSum.is, sym c.deref-in-ScaleSum.ensures) c.scale.ensures.same

pub returns-in-ScaleSum-clause-stop : goal.returns-in-ScaleSum-clause-stop
returns-in-ScaleSum-clause-stop c = rw (scale_seen c.args.node.now c.in-ScaleSum.x c.in-ScaleSum.is, sym c.deref-in-ScaleSum.ensures) c.scale.ensures.stop
