-- What the tables of the first pass hold.
use Rattle.std.specs.Prelude.{◌≡◌, ℕ, List, [], ◌∷◌, ◌++◌, map, Bool, false, ◌&&◌, ◌||◌, Option, Some, None}
use Rattle.std.specs.List.{list_any}
use Rattle.std.specs.Str.{bytes_eq}
use Rattle.indexmap.specs.IndexSet.{contains}
use Rattle.fisca_attributes.specs.Steps.EntityForms.{entity_of}
use Rattle.fisca_ast.specs.Modules.{Statement, entity, entities, choices, variable}
use Rattle.fisca_symbols.specs.declared.role.Role.{Role}
use Rattle.fisca_rules.specs.Clashes.{among, bears, is_of, listed, names_of, repeat, roles_in}
use Rattle.fisca_rules.specs.Steps.Clashes.{clashes, second_name}
use Rattle.fisca_rules.specs.Titles.{Adds}
use Rattle.fisca_rules.specs.declared.seen.Seen.{Seen}
use Rattle.fisca_rules.specs.declared.within.Within.{Within}

-- a key and a plural, if they can be read
abbrev pub both : Option (List ℕ × List ℕ) → List (List ℕ)
both None = []
both (Some p) = p.0 ∷ p.1 ∷ []

-- names were noted; or one of them came before, or stands twice
pub record NotesNames (old new : List ℕ → Bool) (ts : List (List ℕ)) (comes_again : Bool) : Type 0 where
  pub told : comes_again ≡ (repeat ts || list_any old ts)
  pub noted : comes_again ≡ false → Adds bytes_eq old new ts

-- Names within entities

abbrev pub same_within : Within → Within → Bool
same_within a b = bytes_eq a.constant b.constant && bytes_eq a.name b.name

abbrev pub within_all : List ℕ → List (List ℕ) → List Within
within_all constant ts = map (λ t. record { constant = constant; name = t }) ts

-- the key and the plural of a role
abbrev pub titles_within : List ℕ → Role → List Within
titles_within constant r = within_all constant (r.key ∷ listed r.plural)

abbrev pub all_titles_within : List ℕ → List Role → List Within
all_titles_within constant [] = []
all_titles_within constant (r ∷ rs) = titles_within constant r ++ all_titles_within constant rs

-- keys and plurals were noted; or a variable has one of these names
pub record NotesTitles (variables old new : Within → Bool) (ws : List Within) (is_variable : Bool) : Type 0 where
  pub told : is_variable ≡ list_any variables ws
  pub noted : is_variable ≡ false → Adds same_within old new ws

abbrev pub is_title_in : Within → Statement → Bool
is_title_in w (entity a) = bytes_eq a.name w.constant && list_any (bears w.name) (roles_in (entity_of a))
is_title_in w (entities a) = false
is_title_in w (choices line name ms) = false
is_title_in w (variable line name xs) = false

abbrev pub is_variable_in : Within → Statement → Bool
is_variable_in w (entity a) = false
is_variable_in w (entities a) = false
is_variable_in w (choices line name ms) = false
is_variable_in w (variable line name xs) = is_of w.constant xs && bytes_eq w.name name

-- Statements

abbrev pub has_name : Seen → List ℕ → Bool
has_name s = contains bytes_eq s.names

abbrev pub has_title : Seen → Within → Bool
has_title s = contains same_within s.titles

abbrev pub has_variable : Seen → Within → Bool
has_variable s = contains same_within s.variables

-- the tables hold the names of these statements
pub record Holds (s : Seen) (earlier : List Statement) : Type 0 where
  pub names : (t : List ℕ) → has_name s t ≡ list_any (λ e. among (names_of e) t) earlier
  pub titles : (w : Within) → has_title s w ≡ list_any (is_title_in w) earlier
  pub variables : (w : Within) → has_variable s w ≡ list_any (is_variable_in w) earlier

-- a statement was noted; or a name clashes
pub record Notes (old new : Seen) (s : Statement) (has_clash : Bool) : Type 0 where
  pub told : (earlier : List Statement) → Holds old earlier → has_clash ≡ clashes earlier s
  pub noted : has_clash ≡ false → (earlier : List Statement) → Holds old earlier → Holds new (earlier ++ s ∷ [])

-- a statement was noted; or a name comes a second time at this line
pub record TellsOne (old new : Seen) (s : Statement) (line : Option ℕ) : Type 0 where
  pub told : (earlier : List Statement) → Holds old earlier → line ≡ second_name earlier s
  pub noted : line ≡ None → (earlier : List Statement) → Holds old earlier → Holds new (earlier ++ s ∷ [])
