use Rattle.std.proofs.Common.{◌≡◌, drop}
use Rattle.std.specs.List.{position_from}
use Rattle.std.specs.Str.{bytes_eq}
use Rattle.fisca_members.specs.Steps.Persons.{names_of, person_named}
use Rattle.fisca_members.proofs.person.place_among.Given as goal

abbrev pub invariant-loop-place : goal.invariant-loop-place
invariant-loop-place l = position_from (λ k. bytes_eq k l.name) l.place (names_of (drop l.place l.persons)) ≡ person_named l.persons l.name
