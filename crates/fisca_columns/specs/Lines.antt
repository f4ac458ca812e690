-- The lines of columns.
use Rattle.std.specs.Prelude.{ℕ, List, [], ◌∷◌, ◌++◌}
use Rattle.fisca_columns.specs.Texts.{key_text, value_text}
use Rattle.fisca_model.specs.declared.value.Value.{Value}
use Rattle.fisca_model.specs.declared.key.Key.{Key}
use Rattle.fisca_groups.specs.declared.entity_members.EntityMembers.{EntityMembers}
use Rattle.fisca_model.specs.Tables.{Tables}

abbrev pub tab : List ℕ
tab = 9 ∷ []

-- the variable, the member's name, the period and the value with tabs between them, and a line feed
abbrev pub line_of : Tables → List EntityMembers → Key → Value → List ℕ
line_of c ms k v = key_text tab c ms k ++ (tab ++ (value_text c k.variable v ++ 10 ∷ []))
