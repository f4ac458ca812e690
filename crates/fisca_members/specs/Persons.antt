-- The persons of an input, in order.
use Rattle.std.specs.Prelude.{ℕ, List}
use Rattle.fisca_members.specs.declared.person.Person.{Person}

abbrev pub person_at : List ℕ → ℕ → Person
person_at name line = record { name = name; line = line }

-- there are at most so many persons, and at most so many groups of a kind
abbrev pub most_members : ℕ
most_members = 1000
