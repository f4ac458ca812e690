-- The definition beside each sentence of the format: lines, maps, lists and block texts.
use Rattle.std.proofs.Common.{◌≡◌, ℕ, List, [], ◌∷◌, ◌++◌, Bool, true, false, Some, refl}
use Rattle.std.specs.Prelude.{codes, ◌&&◌, not, is_some}
use Rattle.fisca_yaml.specs.Node.{Node, Entries, null, scalar, list, map, no_items, item, no_entries, entry}
use Rattle.fisca_yaml.specs.Flow.{flow_value, series}
use Rattle.fisca_yaml.specs.Grouping.{tree, block}

-- a text of these lines
abbrev pub text : List (List ℕ) → List ℕ
text [] = []
text (l ∷ ls) = l ++ 10 ∷ text ls

-- a scalar without quotes, and an entry with one
abbrev pub s : List ℕ → ℕ → Node
s t n = scalar t false n

abbrev pub holds : List ℕ → ℕ → List ℕ → Entries → Entries
holds key n t es = entry key n (s t n) es

-- none of these texts has a tree
abbrev pub refused : List (List ℕ) → Bool
refused [] = true
refused (t ∷ ts) = not (is_some (tree 16 t)) && refused ts

-- LINES

-- A text may be empty.
empty : tree 16 [] ≡ Some null
empty = refl

-- Lines end with a line feed, or a carriage return and a line feed.
carriage : tree 16 (codes "a: 1" ++ 13 ∷ 10 ∷ codes "b: ~") ≡ Some (map (holds (codes "a") 1 (codes "1") (entry (codes "b") 2 null no_entries)))
unfolding block flow_value series
carriage = refl

-- A carriage return that stands alone is an ordinary character.
return_alone : tree 16 (codes "a: 1" ++ 13 ∷ codes "b") ≡ Some (map (holds (codes "a") 1 (codes "1" ++ 13 ∷ codes "b") no_entries))
unfolding block flow_value series
return_alone = refl

-- Blank lines count for nothing, nor do lines of blanks and a comment, wherever they stand.
blank_lines : tree 16 (text ([] ∷ codes "# c" ∷ codes "a:" ∷ (32 ∷ 9 ∷ []) ∷ codes " b: 1" ∷ (9 ∷ codes "# c") ∷ codes "   # c" ∷ codes " c: 2" ∷ []))
    ≡ Some (map (entry (codes "a") 3 (map (holds (codes "b") 5 (codes "1") (holds (codes "c") 8 (codes "2") no_entries))) no_entries))
unfolding block flow_value series
blank_lines = refl

-- A number sign behind a blank begins a comment, and no other does.
comments : tree 16 (text (codes "a: b#c # d" ∷ (codes "e: f" ++ 9 ∷ codes "# g") ∷ codes "h: # i" ∷ []))
    ≡ Some (map (holds (codes "a") 1 (codes "b#c") (holds (codes "e") 2 (codes "f") (entry (codes "h") 3 null no_entries))))
unfolding block flow_value series
comments = refl

-- One line of three dashes may come first.
marked : tree 16 (text (codes "--- # c" ∷ codes "a: 'it''s' # c" ∷ [])) ≡ Some (map (entry (codes "a") 2 (scalar (codes "it's") true 2) no_entries))
unfolding block flow_value series
marked = refl

-- A second one, one that comes later, three points, and a line that begins with a percent sign are refused.
later_marks : refused (text (codes "---" ∷ codes "---" ∷ []) ∷ text (codes "a: 1" ∷ codes "---" ∷ []) ∷ text (codes "..." ∷ codes "a: 1" ∷ [])
    ∷ text (codes "a: 1" ∷ codes "..." ∷ []) ∷ codes "%YAML" ∷ text (codes "a: 1" ∷ codes "%b: 1" ∷ []) ∷ []) ≡ true
unfolding block flow_value series
later_marks = refl

-- Dashes that stand indented, or before more on their line, are no such line.
dashes_in_key : tree 16 (codes "--- a: 1") ≡ Some (map (holds (codes "--- a") 1 (codes "1") no_entries))
unfolding block flow_value series
dashes_in_key = refl

dashes_indented : tree 16 (codes "  ---") ≡ Some (s (codes "---") 1)
unfolding block flow_value series
dashes_indented = refl

-- No tab stands among the leading blanks of a line with content, not in a block text either.
tabs : refused (text (codes "a:" ∷ (9 ∷ codes "b: 1") ∷ []) ∷ text ((32 ∷ 9 ∷ codes "a: 1") ∷ []) ∷ text (codes "a: |" ∷ (32 ∷ 32 ∷ 9 ∷ codes "b") ∷ []) ∷ []) ≡ true
unfolding block flow_value series
tabs = refl

-- MAPS

-- An entry is a key, a colon, and a blank or the line's end.
colon_inside : tree 16 (codes "a:b") ≡ Some (s (codes "a:b") 1)
unfolding block flow_value series
colon_inside = refl

tab_behind_colon : tree 16 (codes "a:" ++ 9 ∷ codes "b") ≡ Some (map (holds (codes "a") 1 (codes "b") no_entries))
unfolding block flow_value series
tab_behind_colon = refl

-- A key is plain or quoted, and blanks may stand before its colon.
spaced_key : tree 16 (text (codes "\"a b\" : [{}]" ∷ codes "c d : 1" ∷ codes "'e': 2" ∷ []))
    ≡ Some (map (entry (codes "a b") 1 (list (item 1 (map no_entries) no_items)) (holds (codes "c d") 2 (codes "1") (holds (codes "e") 3 (codes "2") no_entries))))
unfolding block flow_value series
spaced_key = refl

dash_key : tree 16 (codes "-: 1") ≡ Some (map (holds (codes "-") 1 (codes "1") no_entries))
unfolding block flow_value series
dash_key = refl

-- No key is empty, and none is the merge key, in whatever form.
no_keys : refused (codes "\"\": 1" ∷ codes ": 1" ∷ codes "<<: 1" ∷ codes "'<<': 1" ∷ codes "{<<: 1}" ∷ codes "{'': 1}" ∷ []) ≡ true
unfolding block flow_value series
no_keys = refl

-- All entries of a map stand at one indentation, which need not be 0.
indented_map : tree 16 (text (codes "  a: 1" ∷ codes "  b: 2" ∷ [])) ≡ Some (map (holds (codes "a") 1 (codes "1") (holds (codes "b") 2 (codes "2") no_entries)))
unfolding block flow_value series
indented_map = refl

uneven_entries : refused (text (codes "a:" ∷ codes "    b: 1" ∷ codes "  c: 2" ∷ []) ∷ text (codes "  a: 1" ∷ codes "b: 2" ∷ []) ∷ []) ≡ true
unfolding block flow_value series
uneven_entries = refl

-- The value of an entry is what follows on its line, else the deeper lines below, else a list at the entry's own indentation, else null.
entry_values : tree 16 (text (codes "a: 1" ∷ codes "b:" ∷ codes " c: 2" ∷ codes "d:" ∷ codes "- 3" ∷ codes "e:" ∷ []))
    ≡ Some (map (holds (codes "a") 1 (codes "1") (entry (codes "b") 2 (map (holds (codes "c") 3 (codes "2") no_entries))
    (entry (codes "d") 4 (list (item 5 (s (codes "3") 5) no_items)) (entry (codes "e") 6 null no_entries)))))
unfolding block flow_value series
entry_values = refl

-- No deeper line follows a value that stands on its line, and no value on an entry's line holds a colon and a blank.
value_on_its_line : refused (text (codes "a: 1" ∷ codes "  b: 2" ∷ []) ∷ text (codes "a: x" ∷ codes "  y" ∷ []) ∷ text (codes "a: [1]" ∷ codes "  - 2" ∷ [])
    ∷ codes "a: b: c" ∷ codes "a: b:" ∷ (codes "a: b:" ++ 9 ∷ codes "c") ∷ codes "a: - b" ∷ []) ≡ true
unfolding block flow_value series
value_on_its_line = refl

-- No key comes twice in a map, in whatever form. In two maps it may.
twice : refused (text (codes "a: 1" ∷ codes "b: 2" ∷ codes "a: 3" ∷ []) ∷ text (codes "a: 1" ∷ codes "'a': 2" ∷ []) ∷ codes "{a: 1, 'a': 2}" ∷ []) ≡ true
unfolding block flow_value series
twice = refl

in_two_maps : tree 16 (text (codes "a:" ∷ codes "  a: 1" ∷ [])) ≡ Some (map (entry (codes "a") 1 (map (holds (codes "a") 2 (codes "1") no_entries)) no_entries))
unfolding block flow_value series
in_two_maps = refl

-- LISTS

-- An item is a dash, and a blank or the line's end. What follows the dash stands at its own column.
nested_items : tree 16 (text (codes "- - x" ∷ codes "  - y: 1 # c" ∷ codes "    z:" ∷ codes "# c" ∷ codes "- |2+" ∷ codes "   text: [" ∷ []))
    ≡ Some (list (item 1 (list (item 1 (s (codes "x") 1) (item 2 (map (holds (codes "y") 2 (codes "1") (entry (codes "z") 3 null no_entries))) no_items))) (item 5 (scalar [] true 5) no_items)))
unfolding block flow_value series
nested_items = refl

dashes : tree 16 (codes "- -x") ≡ Some (list (item 1 (s (codes "-x") 1) no_items))
unfolding block flow_value series
dashes = refl

tab_behind_dash : tree 16 (text ((45 ∷ 9 ∷ codes "a: 1") ∷ codes "  b: 2" ∷ [])) ≡ Some (list (item 1 (map (holds (codes "a") 1 (codes "1") (holds (codes "b") 2 (codes "2") no_entries))) no_items))
unfolding block flow_value series
tab_behind_dash = refl

-- The value of an item without content is the deeper lines below, else null.
item_values : tree 16 (text (codes "-" ∷ codes "  a: 1" ∷ codes "-" ∷ [])) ≡ Some (list (item 1 (map (holds (codes "a") 2 (codes "1") no_entries)) (item 3 null no_items)))
unfolding block flow_value series
item_values = refl

-- All items of a list stand at one indentation, and no line stands at one that is not open.
uneven_items : refused (text (codes "- a" ∷ codes " - b" ∷ []) ∷ text (codes "- a: 1" ∷ codes " b: 2" ∷ []) ∷ text (codes "-   a: 1" ∷ codes "  b: 2" ∷ [])
    ∷ text (codes "- x" ∷ codes "  y" ∷ []) ∷ []) ≡ true
unfolding block flow_value series
uneven_items = refl

-- A block of deeper lines is a map or a list, and of one kind to its end.
misfits : refused (text (codes "a: 1" ∷ codes "- b" ∷ []) ∷ text (codes "- a" ∷ codes "b: 1" ∷ []) ∷ text (codes "a:" ∷ codes "  hello" ∷ [])
    ∷ text (codes "a:" ∷ codes "  [b]" ∷ []) ∷ text (codes "a:" ∷ codes "  b: 1" ∷ codes "- 2" ∷ []) ∷ text (codes "a: 1" ∷ codes "b" ∷ []) ∷ []) ≡ true
unfolding block flow_value series
misfits = refl

-- No line with content follows a scalar or a collection in brackets that is the whole text.
below_the_whole : refused (text (codes "x" ∷ codes "y: 1" ∷ []) ∷ text (codes "[a]" ∷ codes "- b" ∷ []) ∷ text (codes "'x'" ∷ codes "  y" ∷ []) ∷ []) ≡ true
unfolding block flow_value series
below_the_whole = refl

-- BLOCK TEXTS

-- Signs and digits may stand behind `|` or `>`. All lines that are blank or deeper belong to the text, which is read as empty.
comment_below_text : tree 16 (text (codes "a: |" ∷ codes "# c" ∷ codes "  x: [" ∷ [] ∷ codes " - 'y" ∷ codes "b: >-2 # d" ∷ []))
    ≡ Some (map (entry (codes "a") 1 (scalar [] true 1) (entry (codes "b") 6 (scalar [] true 6) no_entries)))
unfolding block flow_value series
comment_below_text = refl

-- Other text there is refused, also where a colon follows it behind a dash, and an item at the key's own indentation ends the text.
beside_header : refused (codes "a: |x" ∷ codes "- >1 x" ∷ codes "- | a: 1" ∷ codes "- >-: 1" ∷ text (codes "a: |" ∷ codes "  x" ∷ codes "- y" ∷ []) ∷ []) ≡ true
unfolding block flow_value series
beside_header = refl

-- Where no key and no dash comes before it on its line, the sign begins a plain scalar or a plain key.
bar_alone : tree 16 (codes "| x") ≡ Some (s (codes "| x") 1)
unfolding block flow_value series
bar_alone = refl

bar_in_key : tree 16 (text (codes "-" ∷ codes "  | a: 1" ∷ [])) ≡ Some (list (item 1 (map (holds (codes "| a") 2 (codes "1") no_entries)) no_items))
unfolding block flow_value series
bar_in_key = refl
