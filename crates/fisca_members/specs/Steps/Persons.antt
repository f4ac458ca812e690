-- The steps of code behind `Persons`:
-- The persons of an input, in order.
use Rattle.std.specs.Prelude.{ℕ, List, [], ◌∷◌, ◌++◌, map as list_map, length, Bool, nat_lt, slice_get, if◌then◌else◌, Option, Some, None, Result, Ok}
use Rattle.std.specs.List.{find}
use Rattle.std.specs.Str.{bytes_eq}
use Rattle.fisca_num.specs.Results.{and_then}
use Rattle.fisca_model.specs.Tables.{Entity, is_person, person_by, place_in}
use Rattle.fisca_yaml.specs.Node.{Node, Entries, no_entries, entry}
use Rattle.fisca_members.specs.declared.fault.MembersKind.TheVariants as kind
use Rattle.fisca_members.specs.declared.fault.MembersFault.{MembersFault}
use Rattle.fisca_members.specs.declared.person.Person.{Person}
use Rattle.fisca_members.specs.Steps.Faults.{entries_at, fault_at}
use Rattle.fisca_members.specs.Sections.{Input, one_person, sections, Section}
use Rattle.fisca_members.specs.Persons.{person_at, most_members}

-- one more than so many is told of its line where there is no room for it
abbrev pub room : ℕ → ℕ → Result (Unit {0}) MembersFault
room line count = if nat_lt count most_members then Ok tt else fault_at line kind.TooMany

-- the persons so far, and one more, of whom a map of variables is said
unfoldable pub with_person : List Person → List ℕ → ℕ → Node → Result (List Person) MembersFault
with_person ps name line n =
    and_then (room line (length ps)) (λ u. and_then (entries_at line n) (λ es. Ok (ps ++ person_at name line ∷ [])))

abbrev pub persons_from : List Person → Entries → Result (List Person) MembersFault
persons_from ps no_entries = Ok ps
persons_from ps (entry name line n es) = and_then (with_person ps name line n) (λ qs. persons_from qs es)

-- there is a person
abbrev pub unless_none : ℕ → List Person → Result (List Person) MembersFault
unless_none line [] = fault_at line kind.UnknownPerson
unless_none line (p ∷ ps) = Ok (p ∷ ps)

-- all persons at their plural, or the only one
abbrev pub persons_of : Section → Result (List Person) MembersFault
persons_of s =
    if s.named.is_plural then and_then (entries_at s.line s.value) (λ es. and_then (persons_from [] es) (unless_none s.line))
    else with_person [] s.key s.line s.value

abbrev pub is_person_at : List Entity → ℕ → Bool
is_person_at es place = person_by (slice_get es place)

abbrev pub first_line : ℕ → List Section → ℕ
first_line line [] = line
first_line line (s ∷ ss) = s.line

abbrev pub persons_by : ℕ → Option Section → Result (List Person) MembersFault
persons_by line None = fault_at line kind.UnknownPerson
persons_by line (Some s) = persons_of s

-- the only person is named by the key of its entity
abbrev pub person_alone : ℕ → Option Entity → Result (List Person) MembersFault
person_alone line None = fault_at line kind.UnknownPerson
person_alone line (Some e) = Ok (person_at e.key line ∷ [])

abbrev pub persons_among : List Entity → ℕ → List Section → Result (List Person) MembersFault
persons_among es line ss = persons_by (first_line line ss) (find (λ s. is_person_at es s.named.entity) ss)

-- the persons of an input, whose key stands on the line
abbrev pub persons_in : List Entity → ℕ → Input → Result (List Person) MembersFault
persons_in es line (one_person variables) = person_alone line (find is_person es)
persons_in es line (sections ss) = persons_among es line ss

abbrev pub names_of : List Person → List (List ℕ)
names_of = list_map (λ p. p.name)

-- the place of the person of this name
abbrev pub person_named : List Person → List ℕ → Option ℕ
person_named ps t = place_in (λ k. bytes_eq k t) (names_of ps)
