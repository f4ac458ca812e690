-- The definition beside each sentence of the format: scalars, and what they mean.
use Rattle.std.proofs.Common.{◌≡◌, [], ◌∷◌, ◌++◌, true, false, Some, None, refl}
use Rattle.std.specs.Prelude.{codes}
use lib.Utf8.{encode}
use Rattle.fisca_yaml.specs.Node.{null, scalar, map, no_entries, entry}
use Rattle.fisca_yaml.specs.Steps.Find.{as_bool, as_number, as_text}
use Rattle.fisca_yaml.specs.Flow.{flow_value, series}
use Rattle.fisca_yaml.specs.Grouping.{tree, block}
use Rattle.fisca_yaml.proofs.Worked.{text, s, holds, refused}

-- A plain scalar ends at the line's end or at a comment, without the blanks around it. A quote inside it is an ordinary character.
plain : tree 16 (codes "  it's 3 o'clock   # c") ≡ Some (s (codes "it's 3 o'clock") 1)
unfolding block flow_value series
plain = refl

-- It begins with none of the signs that YAML keeps for other things.
first_signs : refused (codes "a: &x 1" ∷ codes "a: *x" ∷ codes "a: !t 1" ∷ codes "a: %x" ∷ codes "a: @x" ∷ codes "a: `x" ∷ codes "a: ]" ∷ codes ", a" ∷ codes "} a: 1" ∷ []) ≡ true
unfolding block flow_value series
first_signs = refl

-- Nor with `?`, `:` or `-` before a blank or the line's end.
first_marks : refused ((codes "a: " ++ 63 ∷ codes " x") ∷ (codes "a: " ++ 63 ∷ []) ∷ codes "a: : x" ∷ codes "a: :" ∷ codes "a: - x" ∷ codes "a: -" ∷ (63 ∷ codes " a") ∷ []) ≡ true
unfolding block flow_value series
first_marks = refl

marks_in_words : tree 16 (text (codes "a: -x" ∷ codes "b: ?x" ∷ codes "c: :x" ∷ []))
    ≡ Some (map (holds (codes "a") 1 (codes "-x") (holds (codes "b") 2 (codes "?x") (holds (codes "c") 3 (codes ":x") no_entries))))
unfolding block flow_value series
marks_in_words = refl

-- In single quotes two quotes stand for one, and nothing else has a meaning of its own.
single_quotes : tree 16 (codes "'''a\\n'' # b'") ≡ Some (scalar (codes "'a\\n' # b") true 1)
unfolding block flow_value series
single_quotes = refl

-- In double quotes a backslash begins an escape: for itself, a quote, a slash, and four control characters.
escapes : tree 16 (codes "\"\\\\\\\"\\/\\n\\r\\t\\0\"") ≡ Some (scalar (92 ∷ 34 ∷ 47 ∷ 10 ∷ 13 ∷ 9 ∷ 0 ∷ []) true 1)
unfolding block flow_value series
escapes = refl

-- Or for a character by its number, in two or in four hex digits.
hex : tree 16 (codes "\"\\x41\\u00e9\"") ≡ Some (scalar (65 ∷ 195 ∷ 169 ∷ []) true 1)
unfolding block flow_value series encode
hex = refl

-- There is no other escape, and none is a surrogate.
bad_escapes : refused (codes "a: \"x\\q\"" ∷ codes "a: \"\\x4\"" ∷ codes "a: \"\\x4g\"" ∷ codes "a: \"\\u00e\"" ∷ codes "a: \"\\ud800\"" ∷ codes "a: \"\\" ∷ []) ≡ true
unfolding block flow_value series encode
bad_escapes = refl

-- A quote closes on its line, and nothing but a comment follows the closing quote of a value.
open_quotes : refused (codes "a: 'x" ∷ codes "a: \"x" ∷ text (codes "a: 'x" ∷ codes "  y'" ∷ []) ∷ codes "a: 'x' y" ∷ codes "'x'#c" ∷ codes "a: \"b\": c" ∷ codes "\"a\" b: 1" ∷ codes "\"a\":1" ∷ []) ≡ true
unfolding block flow_value series
open_quotes = refl

behind_quotes : tree 16 (codes "a: 'x' # y") ≡ Some (map (entry (codes "a") 1 (scalar (codes "x") true 1) no_entries))
unfolding block flow_value series
behind_quotes = refl

-- Without quotes a value that is empty, a tilde or `null` is nothing. A key is a text.
nulls : tree 16 (text (codes "~:" ∷ codes "a: ~" ∷ codes "b: null" ∷ codes "c: Null" ∷ codes "d: NULL" ∷ codes "e: 'null'" ∷ codes "f: nuLL" ∷ []))
    ≡ Some (map (entry (codes "~") 1 null (entry (codes "a") 2 null (entry (codes "b") 3 null (entry (codes "c") 4 null (entry (codes "d") 5 null
    (entry (codes "e") 6 (scalar (codes "null") true 6) (holds (codes "f") 7 (codes "nuLL") no_entries))))))))
unfolding block flow_value series
nulls = refl

-- Truth values are three words for each, in lower case, with a capital or all in capitals, without quotes.
yes : as_bool (s (codes "true") 1) ∷ as_bool (s (codes "Yes") 1) ∷ as_bool (s (codes "ON") 1) ∷ [] ≡ Some true ∷ Some true ∷ Some true ∷ []
yes = refl

no : as_bool (s (codes "FALSE") 1) ∷ as_bool (s (codes "no") 1) ∷ as_bool (s (codes "Off") 1) ∷ [] ≡ Some false ∷ Some false ∷ Some false ∷ []
no = refl

neither : as_bool (s (codes "oN") 1) ∷ as_bool (s (codes "y") 1) ∷ as_bool (scalar (codes "yes") true 1) ∷ [] ≡ None ∷ None ∷ None ∷ []
neither = refl

-- Any scalar has a text. A number stands without quotes.
texts : as_text (s (codes "1") 1) ∷ as_text (scalar (codes "1") true 1) ∷ as_text null ∷ [] ≡ Some (codes "1") ∷ Some (codes "1") ∷ None ∷ []
texts = refl

quoted_digits : as_number (scalar (codes "1") true 1) ≡ None
quoted_digits = refl
