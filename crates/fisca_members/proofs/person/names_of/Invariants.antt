use Rattle.std.proofs.Common.{◌≡◌, ◌++◌, drop}
use Rattle.fisca_members.specs.Steps.Persons.{names_of}
use Rattle.fisca_members.proofs.person.names_of.Given as goal

abbrev pub invariant-loop-person : goal.invariant-loop-person
invariant-loop-person l = l.names ++ names_of (drop l.person-index l.persons) ≡ names_of l.persons
