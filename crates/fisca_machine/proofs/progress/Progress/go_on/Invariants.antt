use Rattle.std.proofs.Common.{◌≡◌, length}
use Rattle.fisca_model.specs.Seen.{value_seen}
use Rattle.fisca_machine.specs.Plans.{behind_operand}
use Rattle.fisca_machine.proofs.progress.Progress.go_on.Given as goal

-- what is left to be done is what was
abbrev pub invariant-loop-left : goal.invariant-loop-left
invariant-loop-left l = behind_operand l.self (value_seen l.right) ≡ behind_operand l.fn.self (value_seen l.fn.operand)

-- the steps that are left
abbrev pub decreases-loop-left : goal.decreases-loop-left
decreases-loop-left l = length l.self.steps.now
