-- The steps of code behind `Tokens`:
-- The tokens of a text: the piece in front, and the tokens of what follows it.
use Rattle.std.specs.Prelude.{ℕ, ◌^◌, List, length, nat_lt, if◌then◌else◌, Err}
use Rattle.fisca_ast.specs.declared.fault.FormulaKind.TheVariants as kind
use Rattle.fisca_lexer.specs.Layout.{start, at_line}
use Rattle.fisca_lexer.specs.Tokens.{Lexed, tokens_from}

-- a text of more than 1 MiB is not read
abbrev pub tokens : List ℕ → Lexed
tokens text = if nat_lt (2 ^ 20) (length text) then Err (at_line 1 kind.TooLong) else tokens_from (length text) 0 start text
