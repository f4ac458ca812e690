-- The steps of code behind `Rows`:
-- The lines of a text that have content, and how deep each stands.
use Rattle.std.specs.Prelude.{ℕ, ◌+◌, ◌*◌, List, [], ◌∷◌, Bool, true, false, ◌==◌, ◌||◌, ◌&&◌, if◌then◌else◌, Option, Some, None}
use Rattle.fisca_yaml_scalars.specs.Characters.{tab, space, hash, dash, dot}
use Rattle.std.specs.Str.Lines.{lines}
use Rattle.fisca_yaml_scalars.specs.Rows.{Row, with_row}

abbrev pub is_blank : ℕ → Bool
is_blank b = (b == space) || (b == tab)

abbrev pub begins : ℕ → List ℕ → Bool
begins c [] = false
begins c (b ∷ bs) = b == c

abbrev pub tail : List ℕ → List ℕ
tail [] = []
tail (b ∷ bs) = bs

-- a blank or the line's end
abbrev pub ends_mark : List ℕ → Bool
ends_mark [] = true
ends_mark (b ∷ bs) = is_blank b

-- a dash, and then a blank or the line's end
abbrev pub begins_item : List ℕ → Bool
begins_item [] = false
begins_item (b ∷ bs) = (b == dash) && ends_mark bs

-- How deep a line stands: an item is half a step deeper than an entry of its indentation, and none is at 0.
abbrev pub rank : Row → ℕ
rank r = 2 * r.indent + (if begins_item r.content then 2 else 1)

-- what stands behind leading spaces, as a line at its column
abbrev pub indented : ℕ → ℕ → List ℕ → Option Row
indented number column [] = None
indented number column (b ∷ bs) = if b == space then indented number (column + 1) bs else Some (record { number = number; indent = column; content = b ∷ bs })

-- what stands behind a dash or a colon, as a line at its own column, where anything but a comment does
abbrev pub following : ℕ → ℕ → List ℕ → Option Row
following number column [] = None
following number column (b ∷ bs) =
    if is_blank b then following number (column + 1) bs else (if b == hash then None else Some (record { number = number; indent = column; content = b ∷ bs }))

abbrev pub after_dash : Row → Option Row
after_dash r = following r.number (r.indent + 1) (tail r.content)

-- nothing but blanks, and perhaps a comment
abbrev pub is_empty_line : List ℕ → Bool
is_empty_line [] = true
is_empty_line (b ∷ bs) = if is_blank b then is_empty_line bs else b == hash

abbrev pub row_of : ℕ → List ℕ → Option Row
row_of number line = if is_empty_line line then None else indented number 0 line

-- the lines with content, counted from a number
abbrev pub rows : ℕ → List (List ℕ) → List Row
rows number [] = []
rows number (l ∷ ls) = with_row (row_of number l) (rows (number + 1) ls)

-- three of a character alone on a line, or with a comment
abbrev pub is_bare : ℕ → List ℕ → Bool
is_bare c [] = false
is_bare c (x ∷ []) = false
is_bare c (x ∷ y ∷ []) = false
is_bare c (x ∷ y ∷ z ∷ bs) = (x == c) && ((y == c) && ((z == c) && (ends_mark bs && is_empty_line bs)))

abbrev pub is_start : Row → Bool
is_start r = (r.indent == 0) && is_bare dash r.content

-- a line that YAML keeps for the start or the end of a document
abbrev pub is_marker : Row → Bool
is_marker r = (r.indent == 0) && (is_bare dash r.content || is_bare dot r.content)

-- one line that starts a document may come first
abbrev pub past_marker : List Row → List Row
past_marker [] = []
past_marker (r ∷ rs) = if is_start r then rs else r ∷ rs

abbrev pub text_rows : List ℕ → List Row
text_rows text = past_marker (rows 1 (lines text))
