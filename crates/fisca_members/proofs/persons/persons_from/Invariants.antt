use Rattle.std.proofs.Common.{◌≡◌, drop}
use Rattle.fisca_yaml.specs.Views.{entries_view}
use Rattle.fisca_members.specs.Steps.Persons.{persons_from}
use Rattle.fisca_members.proofs.persons.persons_from.Given as goal

abbrev pub invariant-loop-entry : goal.invariant-loop-entry
invariant-loop-entry l = persons_from l.fn.persons (entries_view l.entries) ≡ persons_from l.found (entries_view (drop l.entry-index l.entries))
