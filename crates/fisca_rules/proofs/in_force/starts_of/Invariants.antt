use Rattle.std.proofs.Common.{◌≡◌, ◌≤◌, drop, length}
use Rattle.std.specs.BTreeMap.{get}
use Rattle.fisca_time.specs.Instant.{CivilDate, date_cmp}
use Rattle.fisca_rules.specs.Starts.{place_from}
use Rattle.fisca_rules.proofs.in_force.starts_of.Given as goal

-- the places of the formulas from `place` on
abbrev pub invariant-loop-place : goal.invariant-loop-place
invariant-loop-place l = (l.place ≤ length l.formulas) × ((day : CivilDate) → get date_cmp l.starts day ≡ place_from l.place (drop l.place l.formulas) day)

abbrev pub decreases-loop-place : goal.decreases-loop-place
decreases-loop-place l = l.place
