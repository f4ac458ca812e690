use Rattle.std.proofs.Common.{◌≡◌, drop}
use Rattle.fisca_yaml.specs.Views.{entries_view}
use Rattle.fisca_members.specs.Steps.Sections.{names_some}
use Rattle.fisca_members.proofs.sections.names_some.Given as goal

abbrev pub invariant-loop-entry : goal.invariant-loop-entry
invariant-loop-entry l = names_some l.titles (entries_view l.entries) ≡ names_some l.titles (entries_view (drop l.entry-index l.entries))
