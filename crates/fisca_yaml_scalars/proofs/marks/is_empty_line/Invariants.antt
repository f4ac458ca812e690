use Rattle.std.proofs.Common.{◌≡◌, drop}
use Rattle.fisca_yaml_scalars.specs.Steps.Rows.{is_empty_line}
use Rattle.fisca_yaml_scalars.proofs.marks.is_empty_line.Given as goal

abbrev pub invariant-loop-b : goal.invariant-loop-b
invariant-loop-b l = is_empty_line (drop l.b-index l.bytes) ≡ is_empty_line l.bytes
