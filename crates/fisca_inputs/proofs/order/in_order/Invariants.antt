use Rattle.std.proofs.Common.{◌≡◌, drop, map}
use Rattle.fisca_inputs.specs.Steps.Order.{in_order, in_order_with}
use Rattle.fisca_inputs.specs.Rules.{rule_of}
use Rattle.fisca_inputs.proofs.Ordered.{Kept, given_of}
use Rattle.fisca_inputs.proofs.order.in_order.Given as goal

-- what is left, put among what is in order, gives the whole
abbrev pub invariant-loop-place : goal.invariant-loop-place
invariant-loop-place l = record {
  whole : in_order_with (map rule_of l.variables) (map given_of l.sorted.entries) (drop l.place l.givens) ≡ in_order (map rule_of l.variables) l.givens;
  kept : Kept (map rule_of l.variables) l.place l.sorted.entries;
}
