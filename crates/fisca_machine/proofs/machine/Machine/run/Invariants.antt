use Rattle.std.proofs.Common.{◌≡◌}
use Rattle.fisca_machine.specs.Running.{resume, waiting}
use Rattle.fisca_machine.specs.Weights.{load}
use Rattle.fisca_machine.proofs.machine.Machine.run.Given as goal

abbrev pub invariant-loop-now : goal.invariant-loop-now
invariant-loop-now l = record {
  same : resume l.context l.self l.now ≡ resume l.context l.initial.self l.initial.now;
  waits : waiting l.context l.self ≡ waiting l.context l.initial.self;
}

abbrev pub decreases-loop-now : goal.decreases-loop-now
decreases-loop-now l = load l.context l.self l.now
