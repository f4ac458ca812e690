use Rattle.std.proofs.Common.{◌≡◌, ◌++◌, drop}
use Rattle.fisca_run_file.specs.Steps.Positions.{with_values}
use Rattle.fisca_run_file.proofs.positions.put_values.Given as goal

-- those so far, and those that are left
abbrev pub invariant-loop-i : goal.invariant-loop-i
invariant-loop-i l = with_values l.tables l.moved l.values ≡ l.found.items ++ with_values l.tables (drop l.i l.moved) (drop l.i l.values)
