use Rattle.std.proofs.Common.{◌≡◌, take}
use Rattle.fisca_grid.specs.Steps.NamedAxes.{own_groups}
use Rattle.fisca_grid.proofs.named_axes.own_groups.Given as goal

-- a length for each axis so far
abbrev pub invariant-loop-spec : goal.invariant-loop-spec
invariant-loop-spec l = l.lengths.items ≡ own_groups (take l._spec-index l.specs)
