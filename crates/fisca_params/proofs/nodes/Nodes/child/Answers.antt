use Rattle.std.proofs.Common.{◌≡◌, ap, ◌∙◌, arith}
use Rattle.std.specs.BTreeMap.{get_by_text}
use Rattle.fisca_params.specs.Tree.{child_of}
use Rattle.fisca_params.proofs.Indexed.{child-within_if}
use Rattle.fisca_params.proofs.nodes.Nodes.child.Goals as goal
use Rattle.fisca_params.proofs.nodes.Nodes.child.Goals.{After-copied}

place : (c : After-copied) → c.copied.result ≡ child_of c.args.self.now c.args.parent c.args.name.now
place c =
    rw (← c.self.view_is) (c.copied.ensures ∙ c.get.ensures.value
    ∙ ap (λ table. get_by_text table c.args.name.now) c.index.ensures
    ∙ c.self.invariant.found c.args.parent c.index.result.now (omega arith) c.args.name.now)

pub returns-clause-place : goal.returns-clause-place
returns-clause-place c = place (goal.at.returns-clause-place c).After-copied

pub returns-clause-within : goal.returns-clause-within
returns-clause-within c =
    child-within_if c.args.self.now c.args.parent c.args.name.now c.copied.result (place (goal.at.returns-clause-within c).After-copied)
