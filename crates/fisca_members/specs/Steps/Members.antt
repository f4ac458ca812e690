-- The members of a situation: of each entity in order, or the first fault. All keys come first, then the persons, then the groups as they
-- are written, then groups of their own.
use Rattle.std.specs.Prelude.{ℕ, suc, List, [], ◌∷◌, map, length, replicate, set, slice_get, if◌then◌else◌, Option, Some, None, Result, Ok}
use Rattle.fisca_num.specs.Results.{and_then}
use Rattle.fisca_model.specs.Tables.{Entity}
use Rattle.fisca_yaml.specs.Node.{Node}
use Rattle.fisca_groups.specs.declared.entity_members.EntityMembers.{EntityMembers}
use Rattle.fisca_members.specs.declared.fault.MembersFault.{MembersFault}
use Rattle.fisca_members.specs.declared.person.Person.{Person}
use Rattle.fisca_members.specs.Steps.Groups.{first_role, groups_of, own_from}
use Rattle.fisca_members.specs.Steps.Persons.{names_of, persons_in}
use Rattle.fisca_members.specs.Sections.{Input, one_person, sections, Section}
use Rattle.fisca_members.specs.Steps.Sections.{input_of, titles_of}

-- the persons; and of groups none, so that no person is held
abbrev pub none_yet : List Person → Entity → EntityMembers
none_yet ps e = if e.is_person then record { names = names_of ps; homes = [] } else record { names = []; homes = replicate (length ps) None }

abbrev pub changed_by : List EntityMembers → ℕ → (EntityMembers → Result EntityMembers MembersFault) → Option EntityMembers → Result (List EntityMembers) MembersFault
changed_by ks place change None = Ok ks
changed_by ks place change (Some k) = and_then (change k) (λ j. Ok (set ks place j))

-- the members of one entity changed
abbrev pub changed_at : List EntityMembers → ℕ → (EntityMembers → Result EntityMembers MembersFault) → Result (List EntityMembers) MembersFault
changed_at ks place change = changed_by ks place change (slice_get ks place)

-- the groups of a section; persons are read already
abbrev pub section_of : List Person → List EntityMembers → Section → Option Entity → Result (List EntityMembers) MembersFault
section_of ps ks s None = Ok ks
section_of ps ks s (Some e) = if e.is_person then Ok ks else changed_at ks s.named.entity (λ k. groups_of e.roles ps k s)

abbrev pub section_read : List Entity → List Person → List EntityMembers → Section → Result (List EntityMembers) MembersFault
section_read es ps ks s = section_of ps ks s (slice_get es s.named.entity)

abbrev pub sections_read : List Entity → List Person → List EntityMembers → List Section → Result (List EntityMembers) MembersFault
sections_read es ps ks [] = Ok ks
sections_read es ps ks (s ∷ ss) = and_then (section_read es ps ks s) (λ js. sections_read es ps js ss)

abbrev pub groups_in : List Entity → List Person → List EntityMembers → Input → Result (List EntityMembers) MembersFault
groups_in es ps ks (one_person variables) = Ok ks
groups_in es ps ks (sections ss) = sections_read es ps ks ss

-- groups of their own of this entity
abbrev pub own_of : List Person → List EntityMembers → ℕ → Entity → Result (List EntityMembers) MembersFault
own_of ps ks place e = if e.is_person then Ok ks else changed_at ks place (λ k. own_from (first_role e.roles) k 0 ps)

abbrev pub owns_from : List Person → List EntityMembers → ℕ → List Entity → Result (List EntityMembers) MembersFault
owns_from ps ks place [] = Ok ks
owns_from ps ks place (e ∷ es) = and_then (own_of ps ks place e) (λ js. owns_from ps js (suc place) es)

-- of an input whose key stands on the line
unfoldable pub members_in : List Entity → ℕ → Input → Result (List EntityMembers) MembersFault
members_in es line i =
    and_then (persons_in es line i) (λ ps. and_then (groups_in es ps (map (none_yet ps) es) i) (λ ks. owns_from ps ks 0 es))

unfoldable pub members_of : List Entity → ℕ → Node → Result (List EntityMembers) MembersFault
members_of es line n = and_then (input_of (titles_of es) line n) (members_in es line)
