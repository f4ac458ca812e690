-- Names that a rule set may have once.
use Rattle.std.specs.Prelude.{ℕ, List, [], ◌∷◌, ◌++◌, map, Bool, false, ◌||◌, Option, Some, None, Result, Ok, Err, codes}
use Rattle.std.specs.List.{list_any}
use Rattle.std.specs.Result.{result_ok}
use Rattle.std.specs.Str.{bytes_eq}
use Rattle.fisca_ast.specs.declared.module.Member.{Member}
use Rattle.fisca_ast.specs.Modules.{Item, Statement, entity, entities, choices, variable}
use Rattle.fisca_ast.specs.declared.fault.FormulaKind.{FormulaKind}
use Rattle.fisca_symbols.specs.declared.entity.Entity.{Entity}
use Rattle.fisca_symbols.specs.declared.role.Role.{Role}
use Rattle.fisca_attributes.specs.Steps.EntityForms.{entity_of}
use Rattle.fisca_attributes.specs.Values.{needed}
use Rattle.fisca_attributes.specs.Steps.Values.{name_value}
use Rattle.fisca_attributes.specs.Steps.AttributeForms.{value_at}

abbrev pub listed : Option (List ℕ) → List (List ℕ)
listed None = []
listed (Some t) = t ∷ []

-- this text is one of these
abbrev pub among : List (List ℕ) → List ℕ → Bool
among ts t = list_any (λ u. bytes_eq u t) ts

-- one of these stands twice
abbrev pub repeat : List (List ℕ) → Bool
repeat [] = false
repeat (t ∷ ts) = among ts t || repeat ts

-- Names of the whole rule set: those of variables and Enums, and constants, keys and plurals of entities. What declares an entity and
-- cannot be read gives its constant alone.

abbrev pub names_in : Result Entity FormulaKind → List (List ℕ)
names_in (Ok e) = e.key ∷ e.plural ∷ []
names_in (Err k) = []

abbrev pub names_of : Statement → List (List ℕ)
names_of (entity a) = a.name ∷ names_in (entity_of a)
names_of (entities a) = []
names_of (choices line name ms) = name ∷ []
names_of (variable line name xs) = name ∷ []

-- Roles: no text is a key or plural of two roles or subroles, and no two keys differ only in the case of ASCII letters

pub record Titled : Type 0 where
  pub key : List ℕ
  pub plural : Option (List ℕ)

abbrev pub titles : List Role → List Titled
titles [] = []
titles (r ∷ rs) = record { key = r.key; plural = r.plural } ∷ (map (λ key. record { key = key; plural = None }) r.subroles ++ titles rs)

abbrev pub texts_of : Titled → List (List ℕ)
texts_of t = t.key ∷ listed t.plural

abbrev pub roles_in : Result Entity FormulaKind → List Role
roles_in (Ok e) = e.roles
roles_in (Err k) = []

-- No role has a key or plural that is the name of a variable of its entity

abbrev pub bears : List ℕ → Role → Bool
bears t r = among (r.key ∷ listed r.plural) t

abbrev pub is_of : List ℕ → List Item → Bool
is_of constant xs = list_any (λ t. bytes_eq constant t) (listed (result_ok (needed name_value (value_at (codes "entity") xs))))

-- Members of an Enum: `__order__` is none

abbrev pub is_order : Member → Bool
is_order m = bytes_eq m.name (codes "__order__")
