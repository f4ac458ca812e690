-- What the options of a command ask for, by the matches of its words.
use Rattle.std.specs.Prelude.{◌≡◌, ℕ, Bool, false, if◌then◌else◌, List, [], codes, Option, Some, None, option_and_then, option_map, unwrap_or}
use Rattle.std.specs.Str.{bytes_eq}
use Rattle.std.specs.Str.Parse.{ParsesUnsigned}
use Rattle.std.specs.declared.num.ParseIntError.{ParseIntError}
use Rattle.clap.specs.Matches.{ReadsOne}
use Rattle.clap.specs.Walk.{Row, Text, all_of, first_of, one_of}
use Rattle.fisca_command_line.specs.declared.options.RunOptions.{RunOptions}
use Rattle.fisca_command_line.specs.declared.options.TableForm.{TableForm}
use Rattle.fisca_forms.specs.Forms.{Places}
use Rattle.fisca_forms.specs.LineForms.{places_in}
use Rattle.fisca_forms.specs.declared.form.Format.{Format}
use Rattle.fisca_forms.specs.declared.form.Format.TheVariants.{Tsv, Csv, Jsonl}
use Rattle.fisca_grid.specs.Words.{part_of}
use Rattle.fisca_writer.specs.declared.range.Range.{Range}
use Rattle.fisca_writer.specs.declared.range.Range.TheVariants as range

-- the text of an argument that has to be given
abbrev pub text_of : Text → List Row → List ℕ
text_of id rows = unwrap_or (first_of id rows) []

-- the texts of an option that may come several times
abbrev pub texts_of : Text → List Row → List Text
texts_of id rows = unwrap_or (all_of id rows) []

-- a flag is set where its text is `true`
abbrev pub is_set : Option Text → Bool
is_set None = false
is_set (Some text) = bytes_eq text (codes "true")

-- what an option with a number gives: nothing where it has no text, else the number that its text says
abbrev pub IsOptionalNumber : Option Text → Option ℕ → Type 0
IsOptionalNumber None number = number ≡ None
IsOptionalNumber (Some text) number = ReadsOne {E = ParseIntError} (ParsesUnsigned 64 10) text number

-- the position to begin at: that of the option, or else 0
abbrev pub IsStart : Option Text → ℕ → Type 0
IsStart text from = (number : Option ℕ) × IsOptionalNumber text number × (from ≡ unwrap_or number 0)

-- the number of a part and the count of parts that the option says, where its text is a part
abbrev pub part_at : List Row → Option (ℕ × ℕ)
part_at rows = option_and_then part_of (first_of (codes "part") rows)

-- the range that the options say: that of a part where one is given, else the positions from one on, and before another where one is given
abbrev pub IsRangeOf : Option (ℕ × ℕ) → List Row → Range → Type 0
IsRangeOf None rows (range.Between from to) = IsStart (one_of (codes "from") rows) from × IsOptionalNumber (one_of (codes "to") rows) to
IsRangeOf None rows (range.Part part) = ⊥
IsRangeOf (Some asked) rows (range.Between from to) = ⊥
IsRangeOf (Some asked) rows (range.Part part) = (part.number, part.count) ≡ asked

-- the places of numbers are as many as the text says; more than 18 the option does not take
abbrev pub ArePlaces : Option Text → Option Places → Type 0
ArePlaces text decimals = (number : Option ℕ) × IsOptionalNumber text number × (option_map (λ (d : Places). d.places) decimals ≡ option_and_then places_in number)

-- the form that a text names
abbrev pub format_of : Text → Option Format
format_of text =
    if bytes_eq text (codes "tsv") then Some Tsv else (if bytes_eq text (codes "csv") then Some Csv else (if bytes_eq text (codes "jsonl") then Some Jsonl else None))

-- the form of lines that the options ask for
abbrev pub IsForm : List Row → TableForm → Type 0
IsForm rows form =
    (form.header ≡ is_set (first_of (codes "header") rows))
    × ArePlaces (one_of (codes "decimals") rows) form.decimals
    × (form.format ≡ option_and_then format_of (first_of (codes "format") rows))

-- the form of an explanation that a text names: that of lines, and none of a text for readers
abbrev pub explain_format_of : Text → Option (Option Format)
explain_format_of text = if bytes_eq text (codes "text") then Some None else (if bytes_eq text (codes "jsonl") then Some (Some Jsonl) else None)

-- the form of an explanation that the options ask for
abbrev pub explain_format_at : List Row → Option Format
explain_format_at rows = option_and_then (λ found. found) (option_and_then explain_format_of (first_of (codes "format") rows))

-- what the options of a run ask for
abbrev pub AreOptions : List Row → RunOptions → Type 0
AreOptions rows options =
    IsRangeOf (part_at rows) rows options.range
    × IsOptionalNumber (one_of (codes "rows") rows) options.rows
    × IsForm rows options.form
    × (options.keeps_going ≡ is_set (first_of (codes "keep-going") rows))
