-- How paths and keys are shown in a line on standard error.
use Rattle.std.specs.Prelude.{ℕ, ◌++◌, ◌/◌, ◌%◌, List, codes, if◌then◌else◌}
use Rattle.std.specs.Char.{is_control, encode_utf8, digit_char}
use Rattle.std.specs.List.{flat_map}
use Rattle.std.specs.Str.{chars}
use Rattle.fisca_folder.specs.Steps.Shown.{is_mark}

-- two hexadecimal digits
abbrev pub two_digits : ℕ → List ℕ
two_digits number = encode_utf8 (digit_char (number / 16)) ++ encode_utf8 (digit_char (number % 16))

-- a mark by its number, as `\u{202e}`
abbrev pub shown_mark : ℕ → List ℕ
shown_mark c = codes "\\u{" ++ (two_digits (c / 256) ++ (two_digits (c % 256) ++ codes "}"))

-- a control character by its number, as `\x1b`, and a mark by its own; any other as itself
abbrev pub shown_char : ℕ → List ℕ
shown_char c =
    if is_control c then codes "\\x" ++ two_digits c
    else if is_mark c then shown_mark c
    else encode_utf8 c

-- a text in which each control character and each mark is shown by its number
abbrev pub shown : List ℕ → List ℕ
shown text = flat_map shown_char (chars text)
