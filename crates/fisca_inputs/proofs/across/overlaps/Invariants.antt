use Rattle.std.proofs.Common.{◌≡◌, drop}
use Rattle.fisca_inputs.specs.Steps.Overlaps.{overlaps}
use Rattle.fisca_inputs.proofs.across.overlaps.Given as goal

abbrev pub invariant-loop-input : goal.invariant-loop-input
invariant-loop-input l = overlaps l.given l.variable l.member l.period ≡ overlaps (drop l.input-index l.given) l.variable l.member l.period
