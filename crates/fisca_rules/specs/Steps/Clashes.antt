-- The steps of code behind `Clashes`:
-- Names that a rule set may have once.
use Rattle.std.specs.Prelude.{ℕ, List, [], ◌∷◌, ◌++◌, Bool, false, ◌&&◌, ◌||◌, if◌then◌else◌, Option, Some, None}
use Rattle.std.specs.List.{list_any}
use Rattle.std.specs.Str.{bytes_eq}
use Rattle.fisca_ast.specs.declared.module.Member.{Member}
use Rattle.fisca_ast.specs.Modules.{Assigned, Item, Statement, entity, entities, choices, variable}
use Rattle.fisca_model.specs.Tables.{capitals}
use Rattle.fisca_attributes.specs.Steps.EntityForms.{entity_of}
use Rattle.fisca_rules.specs.Clashes.{among, repeat, names_of, Titled, titles, texts_of, roles_in, bears, is_of, is_order}

abbrev pub some_among : List (List ℕ) → List (List ℕ) → Bool
some_among ts us = list_any (among ts) us

-- Names of the whole rule set: those of variables and Enums, and constants, keys and plurals of entities. What declares an entity and
-- cannot be read gives its constant alone.

-- a name comes a second time
abbrev pub names_clash : List Statement → Statement → Bool
names_clash earlier s = repeat (names_of s) || list_any (λ e. some_among (names_of e) (names_of s)) earlier

-- Roles: no text is a key or plural of two roles or subroles, and no two keys differ only in the case of ASCII letters

abbrev pub are_confused : Titled → Titled → Bool
are_confused a b = bytes_eq (capitals a.key) (capitals b.key) || some_among (texts_of a) (texts_of b)

abbrev pub titles_clash : List Titled → Bool
titles_clash [] = false
titles_clash (t ∷ ts) = list_any (are_confused t) ts || titles_clash ts

abbrev pub own_clash : Statement → Bool
own_clash (entity a) = titles_clash (titles (roles_in (entity_of a)))
own_clash (entities a) = false
own_clash (choices line name ms) = false
own_clash (variable line name xs) = false

-- No role has a key or plural that is the name of a variable of its entity

abbrev pub is_borne : Assigned → List ℕ → List Item → Bool
is_borne a name xs = is_of a.name xs && list_any (bears name) (roles_in (entity_of a))

abbrev pub meet : Statement → Statement → Bool
meet (entity a) (variable line name xs) = is_borne a name xs
meet (variable line name xs) (entity a) = is_borne a name xs
meet s t = false

abbrev pub clashes : List Statement → Statement → Bool
clashes earlier s = names_clash earlier s || (own_clash s || list_any (λ e. meet e s) earlier)

-- Members of an Enum: `__order__` is none

-- the line of the first member whose name came before
abbrev pub repeated_member : List (List ℕ) → List Member → Option ℕ
repeated_member earlier [] = None
repeated_member earlier (m ∷ ms) =
    if is_order m then repeated_member earlier ms
    else (if among earlier m.name then Some m.line else repeated_member (earlier ++ m.name ∷ []) ms)

abbrev pub repeated_within : Statement → Option ℕ
repeated_within (entity a) = None
repeated_within (entities a) = None
repeated_within (choices line name ms) = repeated_member [] ms
repeated_within (variable line name xs) = None

abbrev pub line_of : Statement → ℕ
line_of (entity a) = a.line
line_of (entities a) = a.line
line_of (choices line name ms) = line
line_of (variable line name xs) = line

-- the line at which a name comes a second time
abbrev pub second_name : List Statement → Statement → Option ℕ
second_name earlier s = if clashes earlier s then Some (line_of s) else repeated_within s
