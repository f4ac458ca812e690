use Rattle.std.proofs.Common.{◌≡◌, ◌≤◌, ◌-◌, drop}
use Rattle.fisca_inputs.specs.Steps.Entries.{put_all}
use Rattle.fisca_inputs.specs.Steps.Runs.{AreFilled}
use Rattle.fisca_inputs.specs.Steps.Sharing.{parts_by}
use Rattle.fisca_inputs.proofs.inputs.Inputs.put_long.Given as goal

-- what is left, put into what there is, gives the whole
abbrev pub invariant-loop-i : goal.invariant-loop-i
invariant-loop-i l = record {
  whole : put_all l.given.line l.given.value (drop l.i (parts_by l.unit l.given)) l.self ≡ put_all l.fn.given.line l.fn.given.value (parts_by l.fn.unit l.fn.given) l.fn.self;
  runs : AreFilled l.self l.runs.entries;
  bound : l.i ≤ l.count;
}

abbrev pub decreases-loop-i : goal.decreases-loop-i
decreases-loop-i l = l.count - l.i
