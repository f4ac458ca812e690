use Rattle.std.proofs.Common.{◌≡◌, false, map, take}
use Rattle.fisca_run_file.proofs.neutral.no_marks.Given as goal

-- a mark for each variable so far
abbrev pub invariant-loop-variable : goal.invariant-loop-variable
invariant-loop-variable l = l.marks.items ≡ map (λ x. false) (take l._variable-index l.variables)
