-- What stands in front of a text: the longest piece of its form, or why none can be read.
use Rattle.std.specs.Prelude.{ℕ, Bool, ◌==◌}
use Rattle.fisca_lexer.specs.declared.token.Form.{Form}
use Rattle.fisca_lexer.specs.declared.token.Piece.{Piece}

abbrev pub is_space : ℕ → Bool
is_space b = b == 32

abbrev pub piece : Form → ℕ → ℕ → Piece
piece f n lines = record { form = f; length = n; lines = lines }
