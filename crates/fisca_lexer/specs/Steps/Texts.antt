-- The steps of code behind `Texts`:
-- Texts in quotes, side by side on one line: they are one text.
use Rattle.std.specs.Prelude.{ℕ, Bool, true, false, ◌&&◌, if◌then◌else◌, Option, Some, None}
use Rattle.fisca_lexer.specs.declared.token.Class.{Class}
use Rattle.fisca_lexer.specs.declared.token.Class.TheVariants as class
use Rattle.fisca_lexer.specs.declared.token.Token.{Token}

abbrev pub is_quoted : Class → Bool
is_quoted class.Word = false
is_quoted class.Number = false
is_quoted class.Quoted = true
is_quoted (class.Mark m) = false

abbrev pub begins_line : Option ℕ → Bool
begins_line None = false
begins_line (Some column) = true

-- a token stands beside the next one, and both are texts
abbrev pub beside : Token → Token → Bool
beside t u = is_quoted t.class && (if begins_line u.indent then false else is_quoted u.class)
