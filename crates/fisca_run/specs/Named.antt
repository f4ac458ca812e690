-- The tests of a file whose names have a text.
use Rattle.std.specs.Prelude.{ℕ, List, [], ◌∷◌, Bool, false, ◌||◌, Option, Some, None, if◌then◌else◌, nat_eq}
use Rattle.std.specs.List.{starts_with}
use Rattle.fisca_test_file.specs.Steps.Tests.{name_in}
use Rattle.fisca_yaml.specs.Node.{Node, null, scalar, list, map, Items, no_items, item}

-- the text stands somewhere in these bytes
abbrev pub has_text : List ℕ → List ℕ → Bool
has_text text [] = starts_with nat_eq [] text
has_text text (byte ∷ bytes) = starts_with nat_eq (byte ∷ bytes) text || has_text text bytes

abbrev pub name_has : List ℕ → Option (List ℕ) → Bool
name_has text None = false
name_has text (Some name) = has_text text name

-- a test has a name with this text in it
abbrev pub is_named : List ℕ → Node → Bool
is_named text test = name_has text (name_in test)

abbrev pub named_items : List ℕ → Items → Items
named_items text no_items = no_items
named_items text (item line test rest) = if is_named text test then item line test (named_items text rest) else named_items text rest

-- the tests of a file whose names have this text; what is one test of another name becomes a file of none
abbrev pub with_name : List ℕ → Node → Node
with_name text (list tests) = list (named_items text tests)
with_name text (map entries) = if is_named text (map entries) then map entries else list no_items
with_name text null = list no_items
with_name text (scalar t quoted line) = list no_items

-- all where there is no text
abbrev pub named : Option (List ℕ) → Node → Node
named None tests = tests
named (Some text) tests = with_name text tests
