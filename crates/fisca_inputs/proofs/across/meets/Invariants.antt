use Rattle.std.proofs.Common.{◌≡◌, drop}
use Rattle.fisca_inputs.specs.Steps.Overlaps.{meets}
use Rattle.fisca_inputs.proofs.across.meets.Given as goal

abbrev pub invariant-loop-input : goal.invariant-loop-input
invariant-loop-input l = meets l.given l.variable l.member l.period ≡ meets (drop l.input-index l.given) l.variable l.member l.period
