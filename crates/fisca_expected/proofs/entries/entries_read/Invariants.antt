use Rattle.std.proofs.Common.{◌≡◌, drop}
use Rattle.fisca_situations.specs.Steps.Views.{situation}
use Rattle.fisca_yaml.specs.Views.{entries_view}
use Rattle.fisca_expected.specs.Steps.Reading.{entries_read}
use Rattle.fisca_expected.proofs.entries.entries_read.Given as goal

abbrev pub invariant-loop-entry : goal.invariant-loop-entry
invariant-loop-entry l =
    let members = (situation l.situation).members in
    entries_read l.tables members l.default l.scope l.roles l.fn.outputs (entries_view l.entries)
    ≡ entries_read l.tables members l.default l.scope l.roles l.found (entries_view (drop l.entry-index l.entries))
