-- How the cells of a line are written, one behind another.
use Rattle.std.specs.Prelude.{ℕ, zero, suc, ◌==◌, List, [], ◌∷◌, ◌++◌, ◌&&◌, Bool, true, false, not, is_some, nat_lt, if◌then◌else◌, Option, Some, None}
use Rattle.std.specs.List.{list_any}
use Rattle.fisca_forms.specs.Fixed.{fixed_text}
use Rattle.fisca_forms.specs.Forms.{Cell, Places, between, cell_in, closing, header_cell, opening}
use Rattle.fisca_forms.specs.declared.form.Format.{Format}
use Rattle.fisca_forms.specs.declared.form.Format.TheVariants.{Tsv, Csv, Jsonl}
use Rattle.fisca_num.specs.Characters.{slash}
use Rattle.fisca_num.specs.Number.{Number}
use Rattle.fisca_num.specs.Text.{text_of}

-- the format of lines, how many places numbers have, if that is said, and the names of the cells
pub record Form : Type 0 where
  pub format : Format
  pub decimals : Option Places
  pub names : List (List ℕ)

abbrev pub is_tsv : Format → Bool
is_tsv Tsv = true
is_tsv Csv = false
is_tsv Jsonl = false

-- lines are cells with tabs between them, with the exact texts of numbers
abbrev pub is_plain : Form → Bool
is_plain form = is_tsv form.format && not (is_some form.decimals)

-- so many places, where they are 18 at most
abbrev pub places_in : ℕ → Option ℕ
places_in places = if nat_lt 18 places then None else Some places

-- the exact text of a number, or that to so many places
abbrev pub number_text : Option Places → Number → List ℕ
number_text None v = text_of v
number_text (Some decimals) v = fixed_text decimals.places v

-- what stands before the cell at a place
abbrev pub before_cell : Format → ℕ → List ℕ
before_cell format zero = opening format
before_cell format (suc place) = between format

-- the name of the cell at a place, if it has one
abbrev pub name_at : List (List ℕ) → ℕ → List ℕ
name_at [] place = []
name_at (name ∷ names) zero = name
name_at (name ∷ names) (suc place) = name_at names place

-- a number is a numeral where its text is no fraction
abbrev pub is_numeral : List ℕ → Bool
is_numeral text = not (list_any (λ b. b == slash) text)

-- the cell of a number: a numeral stands in JSON as it is, a fraction as a text
abbrev pub number_cell : Option Places → Number → Cell
number_cell decimals v = record { is_bare = is_numeral (number_text decimals v); text = number_text decimals v }

-- the line of some names, each as a text
abbrev pub names_from : Format → ℕ → List (List ℕ) → List ℕ
names_from format place [] = closing format
names_from format place (name ∷ names) = before_cell format place ++ (header_cell format name ++ names_from format (suc place) names)

abbrev pub names_line : Format → List (List ℕ) → List ℕ
names_line format names = names_from format 0 names

-- the line of some cells, each with the name at its place, one behind another
abbrev pub cells_from : Format → List (List ℕ) → ℕ → List Cell → List ℕ
cells_from format names place [] = []
cells_from format names place (cell ∷ cells) = before_cell format place ++ (cell_in format (name_at names place) cell ++ cells_from format names (suc place) cells)

abbrev pub line_in : Form → List Cell → List ℕ
line_in form cells = cells_from form.format form.names 0 cells ++ closing form.format
