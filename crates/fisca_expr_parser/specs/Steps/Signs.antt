-- The steps of code behind `Signs`:
-- Tokens without their places.
use Rattle.std.specs.Prelude.{ℕ, List, [], length, get_or, slice_range, nat_le, nat_lt, Bool, ◌&&◌, ◌||◌, if◌then◌else◌}
use Rattle.fisca_lexer.specs.declared.token.Class.{Class}
use Rattle.fisca_lexer.specs.declared.token.Class.TheVariants as class
use Rattle.fisca_lexer.specs.declared.token.Token.{Token}
use Rattle.fisca_expr_parser.specs.declared.sign.Sign.{Sign}
use Rattle.fisca_expr_parser.specs.declared.sign.Sign.TheVariants as sign

-- a character of a text begins at a place, or the text ends there
abbrev pub begins_character : List ℕ → ℕ → Bool
begins_character text at = nat_le at (length text) && (nat_lt (get_or text at 0) 128 || nat_le 192 (get_or text at 0))

-- the piece of a text between two places, or nothing where they are none between its characters: tokens of a text stand at such places alone
abbrev pub piece : List ℕ → ℕ → ℕ → List ℕ
piece text start end =
    if nat_le start end && (begins_character text start && begins_character text end) then slice_range text start end else []

abbrev pub sign_by : Class → List ℕ → Sign
sign_by class.Word t = sign.Word t
sign_by class.Number t = sign.Number t
sign_by class.Quoted t = sign.Text t
sign_by (class.Mark m) t = sign.Mark m

abbrev pub sign_of : List ℕ → Token → Sign
sign_of text t = sign_by t.class (piece text t.start t.end)
