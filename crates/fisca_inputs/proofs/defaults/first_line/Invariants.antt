use Rattle.std.proofs.Common.{◌≡◌, drop}
use Rattle.fisca_inputs.specs.Steps.Defaults.{first_line}
use Rattle.fisca_inputs.proofs.defaults.first_line.Given as goal

abbrev pub invariant-loop-given : goal.invariant-loop-given
invariant-loop-given l = first_line (drop l.given-index l.givens) l.variable ≡ first_line l.givens l.variable
