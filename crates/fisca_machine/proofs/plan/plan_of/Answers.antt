use Rattle.std.proofs.Common.{None, length, sym, ◌∙◌}
use Rattle.fisca_symbols.specs.Known.{tables as known}
use Rattle.fisca_ops.specs.Casts.{cast}
use Rattle.fisca_machine.proofs.Formulas.{formula_on}
use Rattle.fisca_machine.specs.Running.{point, says_below}
use Rattle.fisca_machine.proofs.plan.plan_of.Goals as goal

pub returns-then-branch-clause-plays : goal.returns-then-branch-clause-plays
returns-then-branch-clause-plays c ns g =
    let t = known c.args.tables.now in
    let k = cast c.args.declared in
    sym (formula_on t g ns c.args.returned.now (point c.args.frame (record { person = None; visible = 0 })) k)
    ∙ (rw c.if-branch.true at c.in_ok-put_steps.ensures.steps) g (says_below t g ns (length ns)) k
