use Rattle.std.proofs.Common.{◌≡◌, ◌≤◌, ◌++◌, drop, length}
use Rattle.fisca_members.specs.Steps.Persons.{names_of}
use Rattle.fisca_members.proofs.draft.names_of.Given as goal

abbrev pub invariant-loop-person : goal.invariant-loop-person
invariant-loop-person l =
    (l.names ++ names_of (drop l.person-index l.persons) ≡ names_of l.persons) × (length l.names ≡ l.person-index) × (length l.persons ≤ 1000)
