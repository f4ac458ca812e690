use Rattle.std.proofs.Common.{◌≡◌, drop}
use Rattle.fisca_situations.specs.Steps.Views.{situation}
use Rattle.fisca_yaml.specs.Views.{entries_view}
use Rattle.fisca_expected.specs.Steps.Reading.{members_read}
use Rattle.fisca_expected.proofs.members.members_read.Given as goal

abbrev pub invariant-loop-entry : goal.invariant-loop-entry
invariant-loop-entry l =
    let members = (situation l.situation).members in
    members_read l.tables members l.default l.entity l.roles l.fn.outputs (entries_view l.entries)
    ≡ members_read l.tables members l.default l.entity l.roles l.found (entries_view (drop l.entry-index l.entries))
