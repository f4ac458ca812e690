-- The forms of lines: cells between tabs, comma-separated values as in RFC 4180, and objects of JSON.
use Rattle.std.specs.Prelude.{ℕ, ◌≤◌, ◌+◌, ◌/◌, ◌%◌, ◌==◌, ◌||◌, nat_lt, List, [], ◌∷◌, ◌++◌, Bool, true, false, if◌then◌else◌, codes}
use Rattle.std.specs.Char.{encode_utf8}
use Rattle.std.specs.List.{list_any, flat_map}
use Rattle.std.specs.Str.{chars}
use Rattle.fisca_forms.specs.declared.form.Format.{Format}
use Rattle.fisca_forms.specs.declared.form.Format.TheVariants.{Tsv, Csv, Jsonl}

-- how many places numbers have
pub record Places : Type 0 where
  pub places : ℕ
  pub few : places ≤ 18

-- what stands in a line: a text, which JSON takes as it stands where it is bare, and else as a text
pub record Cell : Type 0 where
  pub is_bare : Bool
  pub text : List ℕ

-- a cell that JSON takes as it stands, and one that it takes as a text
abbrev pub bare : List ℕ → Cell
bare text = record { is_bare = true; text = text }

abbrev pub quoted : List ℕ → Cell
quoted text = record { is_bare = false; text = text }

abbrev pub double_quote : ℕ
double_quote = 34

-- commas, double quotes and line breaks have to stand between double quotes, where each double quote is written twice
abbrev pub has_to_be_quoted : List ℕ → Bool
has_to_be_quoted = list_any (λ b. (b == 44) || ((b == double_quote) || ((b == 10) || (b == 13))))

abbrev pub doubled : ℕ → List ℕ
doubled c = if c == double_quote then double_quote ∷ double_quote ∷ [] else encode_utf8 c

abbrev pub csv_text : List ℕ → List ℕ
csv_text text = if has_to_be_quoted text then double_quote ∷ (flat_map doubled (chars text) ++ double_quote ∷ []) else text

-- a digit of hexadecimal numbers
abbrev pub hex_digit : ℕ → ℕ
hex_digit n = if nat_lt n 10 then 48 + n else 87 + n

-- a control character by its number
abbrev pub json_control : ℕ → List ℕ
json_control c = codes "\\u00" ++ (hex_digit (c / 16) ∷ hex_digit (c % 16) ∷ [])

-- a character of a text of JSON: double quotes, backslashes and control characters are escaped
abbrev pub json_character : ℕ → List ℕ
json_character c = if (c == double_quote) || (c == 92) then 92 ∷ c ∷ [] else (if nat_lt c 32 then json_control c else encode_utf8 c)

abbrev pub json_text : List ℕ → List ℕ
json_text text = double_quote ∷ (flat_map json_character (chars text) ++ double_quote ∷ [])

abbrev pub json_value : Cell → List ℕ
json_value cell = if cell.is_bare then cell.text else json_text cell.text

-- a cell of this name
abbrev pub cell_in : Format → List ℕ → Cell → List ℕ
cell_in Tsv name cell = cell.text
cell_in Csv name cell = csv_text cell.text
cell_in Jsonl name cell = json_text name ++ 58 ∷ json_value cell

-- what stands before the first cell, between two, and behind the last
abbrev pub opening : Format → List ℕ
opening Tsv = []
opening Csv = []
opening Jsonl = codes "{"

abbrev pub between : Format → List ℕ
between Tsv = 9 ∷ []
between Csv = codes ","
between Jsonl = codes ","

abbrev pub closing : Format → List ℕ
closing Tsv = 10 ∷ []
closing Csv = 13 ∷ 10 ∷ []
closing Jsonl = codes "}" ++ 10 ∷ []

-- a name in a first line, which is no line of JSON
abbrev pub header_cell : Format → List ℕ → List ℕ
header_cell Tsv name = name
header_cell Csv name = csv_text name
header_cell Jsonl name = name
