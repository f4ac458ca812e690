use Rattle.std.proofs.Common.{◌≡◌, drop}
use Rattle.fisca_typing.specs.Questions.{moved_all}
use Rattle.fisca_ops.proofs.periods.moved_all.Given as goal

-- the steps that are left lead from here to where all lead from the first period
abbrev pub invariant-loop-step : goal.invariant-loop-step
invariant-loop-step l = moved_all l.fn.steps l.fn.period ≡ moved_all (drop l.step-index l.steps) l.here
