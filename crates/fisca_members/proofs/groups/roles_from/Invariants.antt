use Rattle.std.proofs.Common.{◌≡◌, drop}
use Rattle.fisca_yaml.specs.Views.{entries_view}
use Rattle.fisca_members.specs.Steps.Groups.{roles_from}
use Rattle.fisca_members.proofs.groups.roles_from.Given as goal

abbrev pub invariant-loop-entry : goal.invariant-loop-entry
invariant-loop-entry l =
    roles_from l.roles l.persons l.group l.initial.homes (entries_view l.entries) ≡ roles_from l.roles l.persons l.group l.homes (entries_view (drop l.entry-index l.entries))
