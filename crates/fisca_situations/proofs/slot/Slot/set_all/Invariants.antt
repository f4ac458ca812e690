use Rattle.std.proofs.Common.{◌≡◌, drop}
use Rattle.fisca_situations.specs.Sets.{set_each}
use Rattle.fisca_situations.proofs.slot.Slot.set_all.Given as goal

-- those so far are set
abbrev pub invariant-loop-period : goal.invariant-loop-period
invariant-loop-period l =
    set_each l.self.variable l.self.member l.self.periods.items l.value l.initial.inputs
    ≡ set_each l.self.variable l.self.member (drop l.period-index l.self.periods.items) l.value l.inputs
