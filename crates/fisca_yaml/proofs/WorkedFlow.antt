-- The definition beside each sentence of the format: collections in brackets.
use Rattle.std.proofs.Common.{◌≡◌, [], ◌∷◌, true, false, Some, refl}
use Rattle.std.specs.Prelude.{codes}
use Rattle.fisca_yaml.specs.Node.{null, list, map, no_items, item, no_entries, entry}
use Rattle.fisca_yaml.specs.Flow.{flow_value, series}
use Rattle.fisca_yaml.specs.Grouping.{tree, block}
use Rattle.fisca_yaml.proofs.Worked.{text, s, holds, refused}

-- A list or a map stands in brackets on one line, perhaps empty, nested, and with a comma behind the last element.
trailing : tree 16 (codes "a: [1, 2,]") ≡ Some (map (entry (codes "a") 1 (list (item 1 (s (codes "1") 1) (item 1 (s (codes "2") 1) no_items))) no_entries))
unfolding block flow_value series
trailing = refl

nested : tree 16 (codes "[[], {}, [{a: [1]},], ]") ≡ Some (list (item 1 (list no_items) (item 1 (map no_entries)
    (item 1 (list (item 1 (map (entry (codes "a") 1 (list (item 1 (s (codes "1") 1) no_items)) no_entries)) no_items)) no_items))))
unfolding block flow_value series
nested = refl

-- Behind a quoted key the colon needs no blank.
quoted_key : tree 16 (codes "{a: 1, \"b\":2, 'c' : 3}") ≡ Some (map (holds (codes "a") 1 (codes "1") (holds (codes "b") 1 (codes "2") (holds (codes "c") 1 (codes "3") no_entries))))
unfolding block flow_value series
quoted_key = refl

-- A plain scalar ends before a comma, a closing bracket, or a colon that a blank, one of these or the line's end follows.
inner_ends : tree 16 (codes "[ a b , c:d,#e, -, ?, f#g ] # h") ≡ Some (list (item 1 (s (codes "a b") 1) (item 1 (s (codes "c:d") 1)
    (item 1 (s (codes "#e") 1) (item 1 (s (codes "-") 1) (item 1 (s (codes "?") 1) (item 1 (s (codes "f#g") 1) no_items)))))))
unfolding block flow_value series
inner_ends = refl

-- A comment hides the closing bracket.
inner_comment : refused (codes "[a, #b]" ∷ codes "[a #b]" ∷ []) ≡ true
unfolding block flow_value series
inner_comment = refl

-- A value that is missing is null.
null_values : tree 16 (codes "{a: , b:, c: ~}") ≡ Some (map (entry (codes "a") 1 null (entry (codes "b") 1 null (entry (codes "c") 1 null no_entries))))
unfolding block flow_value series
null_values = refl

-- A bracket is closed on its line, by its like, and nothing but a comment follows it.
brackets : refused (codes "a: [1, 2" ∷ text (codes "a: [1," ∷ codes "  2]" ∷ []) ∷ codes "a: {b: 1" ∷ codes "{a: 1]" ∷ codes "a: [1]]" ∷ codes "[a] b" ∷ codes "[a]#c" ∷ []) ≡ true
unfolding block flow_value series
brackets = refl

-- A comma stands between two elements, and none is missing before it.
commas : refused (codes "[,]" ∷ codes "[a,, b]" ∷ codes "[\"a\" b]" ∷ codes "[[] []]" ∷ codes "{a: 1 b: 2}" ∷ []) ≡ true
unfolding block flow_value series
commas = refl

-- An entry has a key and a colon, and an element of a list has none.
colons : refused (codes "{a}" ∷ codes "{a:1}" ∷ codes "{:1}" ∷ codes "{: 1}" ∷ codes "{\"a\"x: 1}" ∷ codes "[a: 1]" ∷ codes "[:]" ∷ codes "[: a]" ∷ []) ≡ true
unfolding block flow_value series
colons = refl

-- At most 16 lists and maps stand in one another.
sixteen : refused (codes "[[[[[[[[[[[[[[[[]]]]]]]]]]]]]]]]" ∷ []) ≡ false
unfolding block flow_value series
sixteen = refl

too_deep : refused (codes "[[[[[[[[[[[[[[[[[]]]]]]]]]]]]]]]]]" ∷ codes "- - - - - - - - - - - - - - - - - x" ∷ codes "- - - - - - - - - - - - - - - - [x]" ∷ []) ≡ true
unfolding block flow_value series
too_deep = refl
