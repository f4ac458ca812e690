use Rattle.std.proofs.Common.{◌≤◌}
use Rattle.fisca_ir.specs.declared.node.Node.{size-Node}
use Rattle.fisca_ir.proofs.+dropping.Given as goal

-- what is left is no deeper than the whole
abbrev pub invariant-node::Node::drop-loop-self : goal.invariant-node::Node::drop-loop-self
invariant-node::Node::drop-loop-self l = size-Node l.self ≤ size-Node l.initial.self
