-- Tokens without their places.
use Rattle.std.specs.Prelude.{ℕ, List, map}
use Rattle.fisca_lexer.specs.declared.token.Token.{Token}
use Rattle.fisca_expr_parser.specs.declared.sign.Sign.{Sign}
use Rattle.fisca_expr_parser.specs.Steps.Signs.{sign_of}

abbrev pub signs : List ℕ → List Token → List Sign
signs text = map (sign_of text)
