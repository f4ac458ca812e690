-- Texts in quotes, side by side on one line: they are one text.
use Rattle.std.specs.Prelude.{List, [], ◌∷◌, if◌then◌else◌}
use Rattle.fisca_lexer.specs.declared.token.Token.{Token}
use Rattle.fisca_lexer.specs.Steps.Texts.{beside}

-- a token before others: a text takes the one beside it along, which is all that stands beside that one
abbrev pub put_before : Token → List Token → List Token
put_before t [] = t ∷ []
put_before t (u ∷ us) = if beside t u then record t { end = u.end } ∷ us else t ∷ u ∷ us

abbrev pub joined : List Token → List Token
joined [] = []
joined (t ∷ ts) = put_before t (joined ts)
