-- Texts in quotes, piece by piece.
use Rattle.std.specs.Prelude.{ℕ, List, [], ◌∷◌, drop, take, ◌==◌, if◌then◌else◌, Option, Some, None}
use Rattle.std.specs.List.{prefix_len}
use Rattle.fisca_ast.specs.Strings.{in_comment}
use Rattle.fisca_ast.specs.Strings.{is_quote}
use Rattle.fisca_ast.specs.Steps.Strings.{string_len}
use Rattle.fisca_ast.specs.Steps.Contents.{between_quotes}

abbrev pub quoted : List ℕ → Option ℕ → Option (List ℕ × List ℕ)
quoted t (Some n) = Some (between_quotes (take n t), drop n t)
quoted t None = None

-- what the piece in front of a text says, and the text behind it
abbrev pub front : List ℕ → Option (List ℕ × List ℕ)
front [] = None
front (b ∷ bs) =
    if is_quote b then quoted (b ∷ bs) (string_len (b ∷ bs))
    else (if b == 35 then Some ([], drop (prefix_len in_comment bs) bs) else Some ([], bs))
