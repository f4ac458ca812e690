use Rattle.std.proofs.Common.{◌≡◌, drop}
use Rattle.fisca_yaml.specs.Views.{entries_view}
use Rattle.fisca_members.specs.Steps.Groups.{groups_from}
use Rattle.fisca_members.proofs.groups.groups_from.Given as goal

abbrev pub invariant-loop-entry : goal.invariant-loop-entry
invariant-loop-entry l =
    groups_from l.roles l.persons l.initial.groups (entries_view l.entries) ≡ groups_from l.roles l.persons l.groups (entries_view (drop l.entry-index l.entries))
