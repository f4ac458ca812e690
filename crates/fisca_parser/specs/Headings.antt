-- What stands on one line, from left to right.
use Rattle.std.specs.Prelude.{ℕ, List, length, ◌||◌, nat_lt, if◌then◌else◌, Ok}
use Rattle.fisca_ast.specs.declared.fault.FormulaKind.TheVariants.{Unsupported}
use Rattle.fisca_lexer.specs.declared.token.Mark.TheVariants as mark
use Rattle.fisca_time.specs.Instant.{CivilDate}
use Rattle.fisca_expr_parser.specs.declared.mode.Mode.{Mode}
use Rattle.fisca_ast.specs.Tree.{Tree}
use Rattle.fisca_expr_parser.specs.Reading.{Reader, ◌>>=◌, pure, refuse, stop, tail, expect, take_name}
use Rattle.fisca_expr_parser.specs.Steps.Reading.{begins}
use Rattle.fisca_expr_parser.specs.Views.{whole}
use Rattle.fisca_parser.specs.declared.heading.Base.{Base}
use Rattle.fisca_ast.specs.declared.module.Signature.{Signature}
use Rattle.fisca_parser.specs.Steps.Headings.{text, base_of, start, other_name, third}

-- the greatest height of an expression
abbrev pub limit : ℕ
limit = 120

-- nothing is left
abbrev pub ended : Reader (Unit {0})
ended = λ ts. if nat_lt 0 (length ts) then stop ts else Ok (tt, ts)

-- past the word in front, whatever it is
abbrev pub past : Reader (Unit {0})
past = λ ts. Ok (tt, tail ts)

-- a word alone
abbrev pub alone : Reader (Unit {0})
alone = past >>= λ _. ended

-- `NAME = expression`
abbrev pub assignment : Mode → Reader (List ℕ × Tree)
assignment m = take_name >>= λ t. expect mark.Equal >>= λ _. whole m limit >>= λ e. pure (t, e)

-- `return expression`
abbrev pub returned : Mode → Reader Tree
returned m = past >>= λ _. whole m limit

-- `NAME = STRING`
abbrev pub labelled : Reader (List ℕ × List ℕ)
labelled = take_name >>= λ n. expect mark.Equal >>= λ _. text >>= λ t. pure (n, t)

-- classes

-- A class without bases is left out.
abbrev pub bases_open : Reader (Unit {0})
bases_open = λ ts. if begins mark.Colon ts then refuse Unsupported ts else expect mark.Open ts

-- A second base, and one of a module, are left out.
abbrev pub bases_close : Reader (Unit {0})
bases_close = λ ts. if begins mark.Comma ts || begins mark.Dot ts then refuse Unsupported ts else expect mark.Close ts

-- `class NAME(BASE):`
abbrev pub class_heading : Reader (List ℕ × Base)
class_heading = past >>= λ _. take_name >>= λ n. bases_open >>= λ _. base_of >>= λ b. bases_close >>= λ _. expect mark.Colon >>= λ _. ended >>= λ _. pure (n, b)

-- formulas

-- two names or three
abbrev pub signature : Reader Signature
signature = take_name >>= λ a. expect mark.Comma >>= λ _. other_name a >>= λ b. third a b >>= λ c. pure (record { entity = a; period = b; parameters = c })

-- `def NAME(a, b):` or `def NAME(a, b, c):`
abbrev pub definition_heading : Reader (CivilDate × Signature)
definition_heading = past >>= λ _. start >>= λ d. expect mark.Open >>= λ _. signature >>= λ n. expect mark.Close >>= λ _. expect mark.Colon >>= λ _. ended >>= λ _. pure (d, n)
