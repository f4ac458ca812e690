use Rattle.fisca_params.proofs.Texts.{no-child}
use Rattle.fisca_params.proofs.nodes.Nodes.child_by.Goals as goal

pub returns-in_default-clause-place : goal.returns-in_default-clause-place
returns-in_default-clause-place c = rw (← c.self.view_is) (no-child _ _ c.self.invariant c.args.parent c.args.name.now c.in_default.ensures.cases.0)
