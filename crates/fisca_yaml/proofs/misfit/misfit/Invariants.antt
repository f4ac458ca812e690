use Rattle.std.proofs.Common.{◌≡◌, ◌-◌, ◌^◌}
use Rattle.fisca_yaml.proofs.misfit.misfit.Given as goal

abbrev pub invariant-items : goal.invariant-items
invariant-items l = l.inner.number ≡ l.line.number

abbrev pub decreases-items : goal.decreases-items
decreases-items l = 2 ^ 32 - l.inner.indent
