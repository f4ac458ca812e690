-- The steps of code behind `Seen`:
-- What the tables of the first pass hold.
use Rattle.std.specs.Prelude.{ℕ, List, Option, codes}
use Rattle.std.specs.Result.{result_ok}
use Rattle.fisca_attributes.specs.Steps.AttributeForms.{value_at}
use Rattle.fisca_attributes.specs.Values.{needed}
use Rattle.fisca_attributes.specs.Steps.Values.{name_value}
use Rattle.fisca_ast.specs.Modules.{Item}

-- Names within entities

-- the entity that a variable names
abbrev pub entity_named : List Item → Option (List ℕ)
entity_named xs = result_ok (needed name_value (value_at (codes "entity") xs))
