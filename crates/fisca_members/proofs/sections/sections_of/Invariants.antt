use Rattle.std.proofs.Common.{◌≡◌, [], drop, map}
use Rattle.fisca_yaml.specs.Views.{entries_view}
use Rattle.fisca_members.specs.Steps.Sections.{sections_from}
use Rattle.fisca_members.specs.Views.{section}
use Rattle.fisca_members.proofs.sections.sections_of.Given as goal

abbrev pub invariant-loop-entry : goal.invariant-loop-entry
invariant-loop-entry l =
    sections_from l.titles [] (entries_view l.entries) ≡ sections_from l.titles (map section l.sections.items) (entries_view (drop l.entry-index l.entries))
