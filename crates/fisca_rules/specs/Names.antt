-- Where the names of a rule set lead.
use Rattle.std.specs.Prelude.{ℕ, List, Bool, ◌||◌, Option}
use Rattle.std.specs.Str.{bytes_eq}
use Rattle.fisca_symbols.specs.declared.entity.Entity.{Entity}
use Rattle.fisca_model.specs.Tables.{place_in}
use Rattle.fisca_rules.specs.Rules.{Rules}

-- the place of the variable of this name
abbrev pub variable_named : Rules → List ℕ → Option ℕ
variable_named r t = place_in (λ v. bytes_eq v.name t) r.variables

-- the name of one, or of all
abbrev pub is_called : List ℕ → Entity → Bool
is_called t e = bytes_eq e.key t || bytes_eq e.plural t

-- the place of the entity that this is the key or the plural of
abbrev pub entity_named : Rules → List ℕ → Option ℕ
entity_named r t = place_in (is_called t) r.entities
