use Rattle.std.proofs.Common.{◌≡◌, drop}
use Rattle.fisca_inputs.specs.Steps.Defaults.{first_line, row_of}
use Rattle.fisca_inputs.specs.Steps.Entries.{put_all}
use Rattle.fisca_inputs.proofs.inputs.Inputs.put_row.Given as goal

-- what is left, put into what there is, gives the whole
abbrev pub invariant-loop-member : goal.invariant-loop-member
invariant-loop-member l =
    (put_all (first_line l.givens l.key.variable) l.value (drop l.member (row_of l.key.variable l.count l.key.period)) l.self
    ≡ put_all (first_line l.fn.givens l.fn.key.variable) l.fn.value (row_of l.fn.key.variable l.fn.count l.fn.key.period) l.fn.self)
