use Rattle.std.proofs.Common.{◌-◌, ◌≤◌}
use Rattle.fisca_inputs.specs.Entries.{Entries}
use Rattle.fisca_inputs.specs.Steps.Runs.{AreFilled, AreThere}
use Rattle.fisca_inputs.specs.Steps.Sharing.{parts_by}
use Rattle.fisca_inputs.proofs.runs.note_parts.Given as goal

-- what is noted so far is right where all parts have values
abbrev pub invariant-loop-i : goal.invariant-loop-i
invariant-loop-i l = record {
  filled : (es : Entries) → AreThere es (parts_by l.fn.unit l.fn.given) → AreFilled es l.fn.runs.entries → AreFilled es l.runs.entries;
  bound : l.i ≤ l.count;
}

abbrev pub decreases-loop-i : goal.decreases-loop-i
decreases-loop-i l = l.count - l.i
