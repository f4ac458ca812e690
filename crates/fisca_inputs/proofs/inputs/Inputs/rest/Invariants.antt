use Rattle.std.proofs.Common.{◌≡◌, ◌≤◌, ◌+◌, drop}
use Rattle.fisca_inputs.specs.Sharing.{rest_of, count_free}
use Rattle.fisca_inputs.specs.Steps.Sharing.{parts_by}
use Rattle.fisca_inputs.proofs.inputs.Inputs.rest.Given as goal

-- the parts from here on, with what is left and counted so far
abbrev pub invariant-loop-i : goal.invariant-loop-i
invariant-loop-i l = record {
  number : rest_of l.given.line l.self (drop l.i (parts_by l.unit l.given)) l.rest.number ≡ rest_of l.fn.given.line l.fn.self (parts_by l.fn.unit l.fn.given) l.fn.number;
  free : l.rest.free + count_free l.self (drop l.i (parts_by l.unit l.given)) ≡ count_free l.fn.self (parts_by l.fn.unit l.fn.given);
  bound : l.rest.free ≤ l.i;
}
