-- The steps of code behind `Sections`:
-- What the keys of an input name: the variables of one person, or the members of entities.
use Rattle.std.specs.Prelude.{ℕ, List, [], ◌∷◌, ◌++◌, map as list_map, Bool, true, false, ◌==◌, ◌||◌, if◌then◌else◌, Option, Some, None, option_map, is_some, Result, Ok}
use Rattle.std.specs.List.{list_any}
use Rattle.std.specs.Str.{bytes_eq}
use Rattle.fisca_num.specs.Results.{and_then}
use Rattle.fisca_model.specs.Tables.{Entity, otherwise, place_in}
use Rattle.fisca_yaml.specs.Node.{Node, null, scalar, list, map, Entries, no_entries, entry}
use Rattle.fisca_members.specs.declared.fault.MembersKind.TheVariants as kind
use Rattle.fisca_members.specs.declared.fault.MembersFault.{MembersFault}
use Rattle.fisca_members.specs.declared.section.Named.{Named}
use Rattle.fisca_members.specs.declared.titles.Naming.TheVariants.{Plural, Key}
use Rattle.fisca_members.specs.declared.titles.Titles.{Titles}
use Rattle.fisca_members.specs.Steps.Faults.{bad_value, fault_at}
use Rattle.fisca_members.specs.Naming.{name_by}
use Rattle.fisca_members.specs.Sections.{Section, Input, one_person, sections}

abbrev pub all_of : ℕ → Named
all_of e = record { entity = e; is_plural = true }

abbrev pub only_of : ℕ → Named
only_of e = record { entity = e; is_plural = false }

-- the names under which inputs speak of entities
abbrev pub titles_of : List Entity → Titles
titles_of es = record { plurals = list_map (name_by Plural) es; keys = list_map (name_by Key) es }

-- the entity that a key names: by its plural, which stands for all its members, or by its key, which stands for the only one
abbrev pub named : Titles → List ℕ → Option Named
named ts t = otherwise (option_map all_of (place_in (λ k. bytes_eq k t) ts.plurals)) (option_map only_of (place_in (λ k. bytes_eq k t) ts.keys))

abbrev pub names_some : Titles → Entries → Bool
names_some ts no_entries = false
names_some ts (entry key line n es) = is_some (named ts key) || names_some ts es

-- each entity is named once
abbrev pub is_given : List Section → ℕ → Bool
is_given ss e = list_any (λ s. s.named.entity == e) ss

abbrev pub section_by : List Section → List ℕ → ℕ → Node → Option Named → Result Section MembersFault
section_by ss key line n None = fault_at line kind.UnknownEntity
section_by ss key line n (Some m) =
    if is_given ss m.entity then fault_at line kind.UnknownEntity else Ok (record { named = m; key = key; line = line; value = n })

-- the sections so far, and those that these entries are
abbrev pub sections_from : Titles → List Section → Entries → Result (List Section) MembersFault
sections_from ts ss no_entries = Ok ss
sections_from ts ss (entry key line n es) = and_then (section_by ss key line n (named ts key)) (λ s. sections_from ts (ss ++ s ∷ []) es)

abbrev pub all_sections : Titles → Entries → Result Input MembersFault
all_sections ts es = and_then (sections_from ts [] es) (λ ss. Ok (sections ss))

-- An input that names no entity is of one person; nothing is one person of whom nothing is said. Its key stands on the line.
abbrev pub input_of : Titles → ℕ → Node → Result Input MembersFault
input_of ts line null = Ok (one_person no_entries)
input_of ts line (scalar t q l) = bad_value line (scalar t q l)
input_of ts line (list is) = bad_value line (list is)
input_of ts line (map es) = if names_some ts es then all_sections ts es else Ok (one_person es)
