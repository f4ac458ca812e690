-- The steps of code behind `Headings`:
-- What stands on one line, from left to right.
use Rattle.std.specs.Prelude.{ℕ, List, [], ◌∷◌, length, Bool, false, nat_lt, if◌then◌else◌, Option, Some, None, Ok, codes}
use Rattle.std.specs.Str.{bytes_eq}
use Rattle.fisca_ast.specs.declared.fault.FormulaKind.TheVariants.{Syntax, Unsupported}
use Rattle.fisca_lexer.specs.declared.token.Mark.TheVariants as mark
use Rattle.fisca_time.specs.Instant.{CivilDate}
use Rattle.fisca_expr_parser.specs.declared.sign.Sign.{Sign}
use Rattle.fisca_expr_parser.specs.declared.sign.Sign.TheVariants as sign
use Rattle.fisca_ast.specs.Steps.Words.{is_name}
use Rattle.fisca_expr_parser.specs.Reading.{Outcome, Reader, ◌>>=◌, refuse, stop, tail, word_ahead, take_name}
use Rattle.fisca_expr_parser.specs.Steps.Reading.{begins}
use Rattle.fisca_parser.specs.declared.heading.Base.{Base}
use Rattle.fisca_parser.specs.declared.heading.Base.TheVariants as base
use Rattle.fisca_parser.specs.Steps.Starts.{start_of}

-- A text in quotes that ends the line. Any other value is left out, and none is a fault of its own.
abbrev pub text_at : Sign → List Sign → Outcome (List ℕ)
text_at (sign.Text t) ts = if nat_lt 0 (length ts) then refuse Unsupported ts else Ok (t, ts)
text_at s ts = refuse Unsupported (s ∷ ts)

abbrev pub text : Reader (List ℕ)
text [] = refuse Syntax []
text (s ∷ ts) = text_at s ts

-- classes

abbrev pub base_named : List ℕ → Reader Base
base_named t = λ ts.
    if bytes_eq t (codes "Enum") then Ok (base.Enum, tail ts)
    else (if bytes_eq t (codes "Variable") then Ok (base.Variable, tail ts)
    else (if is_name t then refuse Unsupported ts else stop ts))

abbrev pub base_ahead : Option (List ℕ) → Reader Base
base_ahead (Some t) = base_named t
base_ahead None = λ ts. if begins mark.Close ts then refuse Unsupported ts else stop ts

-- `Enum` or `Variable`; any other base, and none, is left out
unfoldable pub base_of : Reader Base
base_of ts = base_ahead (word_ahead ts) ts

-- formulas

abbrev pub start_found : Option CivilDate → Reader CivilDate
start_found None = refuse Unsupported
start_found (Some d) = λ ts. Ok (d, tail ts)

abbrev pub start_named : Option (List ℕ) → Reader CivilDate
start_named None = refuse Syntax
start_named (Some t) = λ ts. if is_name t then start_found (start_of t) ts else refuse Syntax ts

-- the name of a formula; another function is left out
unfoldable pub start : Reader CivilDate
start ts = start_named (word_ahead ts) ts

-- a name that is not this one
abbrev pub is_word : List ℕ → Option (List ℕ) → Bool
is_word t None = false
is_word t (Some u) = bytes_eq u t

unfoldable pub other_name : List ℕ → Reader (List ℕ)
other_name a ts = if is_word a (word_ahead ts) then refuse Syntax ts else take_name ts

unfoldable pub third_name : List ℕ → List ℕ → Reader (List ℕ)
third_name a b ts = if is_word a (word_ahead ts) then refuse Syntax ts else other_name b ts

-- perhaps a comma
abbrev pub past_comma : List Sign → List Sign
past_comma ts = if begins mark.Comma ts then tail ts else ts

abbrev pub third_at : List ℕ → List ℕ → Reader (Option (List ℕ))
third_at a b = λ ts. if begins mark.Close ts then Ok (None, ts) else (third_name a b >>= λ c us. Ok (Some c, past_comma us)) ts

-- behind the second name: perhaps a comma, and then perhaps a third one
unfoldable pub third : List ℕ → List ℕ → Reader (Option (List ℕ))
third a b ts = if begins mark.Comma ts then third_at a b (tail ts) else Ok (None, ts)
