-- The tokens of a text: the piece in front, and the tokens of what follows it.
use Rattle.std.specs.Prelude.{◌≡◌, ◌≢◌, ℕ, zero, suc, ◌+◌, List, [], ◌∷◌, ◌++◌, drop, Option, Some, None, Result, Ok, Err}
use Rattle.std.specs.declared.vec.Vec.{Vec}
use Rattle.std.specs.declared.alloc.Global.{Global}
use Rattle.fisca_ast.specs.declared.fault.FormulaKind.{FormulaKind}
use Rattle.fisca_ast.specs.declared.fault.FormulaKind.TheVariants as kind
use Rattle.fisca_ast.specs.declared.fault.FormulaFault.{FormulaFault}
use Rattle.fisca_lexer.specs.declared.token.Piece.{Piece}
use Rattle.fisca_lexer.specs.declared.token.Token.{Token}
use Rattle.fisca_lexer.specs.declared.layout.Layout.{Layout}
use Rattle.fisca_lexer.specs.Layout.{Step, step, at_line}
use Rattle.fisca_lexer.specs.Steps.Pieces.{front}

abbrev pub Lexed : Type 0
Lexed = Result (List Token) FormulaFault

abbrev pub in_front : Token → Lexed → Lexed
in_front t (Ok ts) = Ok (t ∷ ts)
in_front t (Err f) = Err f

abbrev pub put : Option Token → Lexed → Lexed
put (Some t) o = in_front t o
put None o = o

abbrev pub after_step : (Layout → Lexed) → Step → Lexed
after_step others (Ok s) = put s.0 (others s.1)
after_step others (Err f) = Err f

-- the tokens with this piece in front, where the others are those of what follows it
abbrev pub after_piece : (ℕ → Layout → List ℕ → Lexed) → ℕ → Layout → List ℕ → Result Piece FormulaKind → Lexed
after_piece others at l text (Ok p) = after_step (λ m. others (at + p.length) m (drop p.length text)) (step at l p)
after_piece others at l text (Err k) = Err (at_line l.line k)

-- The tokens from a place on. The number bounds the pieces; the length of the text is enough.
unfoldable pub tokens_from : ℕ → ℕ → Layout → List ℕ → Lexed
tokens_from n at l [] = Ok []
tokens_from zero at l (b ∷ bs) = Err (at_line l.line kind.Syntax)
tokens_from (suc n) at l (b ∷ bs) = after_piece (tokens_from n) at l (b ∷ bs) (front (b ∷ bs))

-- The answer of `tokens`: the tokens, or the first fault, where memory sufficed.
abbrev pub Lexes : Result (Vec Token Global) FormulaFault → Lexed → Type 0
Lexes (Ok v) o = o ≡ Ok v.items
Lexes (Err f) o = f.kind ≢ kind.Memory → o ≡ Err f

-- these tokens, and then those that are read
abbrev pub behind : List Token → Lexed → Lexed
behind ts (Ok us) = Ok (ts ++ us)
behind ts (Err f) = Err f
