-- The steps of code behind `Lines`:
-- The lines of a list of tokens.
use Rattle.std.specs.Prelude.{ℕ, List, [], ◌∷◌, length, take, is_none, Result, Ok, Err}
use Rattle.fisca_ast.specs.declared.fault.FormulaKind.{FormulaKind}
use Rattle.fisca_ast.specs.declared.fault.FormulaKind.TheVariants as kind
use Rattle.fisca_ast.specs.declared.fault.FormulaFault.{FormulaFault}
use Rattle.fisca_lexer.specs.declared.token.Token.{Token}
use Rattle.std.specs.List.{prefix_len}
use Rattle.fisca_expr_parser.specs.declared.refusal.ParseRefusal.{ParseRefusal}
use Rattle.fisca_expr_parser.specs.Reading.{Outcome, Reader}
use Rattle.fisca_expr_parser.specs.Signs.{signs}
use Rattle.fisca_expr_parser.specs.Views.{line_in}
use Rattle.fisca_parser.specs.Lines.{Line, line_by, fault}

-- how many tokens stand in front that begin no line
abbrev pub within_len : List Token → ℕ
within_len = prefix_len (λ t. is_none t.indent)

-- each token that begins a line, with those behind it that begin none
abbrev pub lines : List Token → List Line
lines [] = []
lines (t ∷ ts) = line_by t.indent (t ∷ take (within_len ts) ts) (lines ts)

-- the line of the last token
abbrev pub last_line : List Token → ℕ
last_line ts = line_in ts 0

-- where a line begins
abbrev pub number : Line → ℕ
number l = line_in l.tokens (length l.tokens)

-- An expression that is too high is told of the line on which its statement begins, want of memory of none, any other fault
-- of the token's line.
abbrev pub line_of : FormulaKind → ℕ → ℕ → ℕ
line_of kind.TooDeep first here = first
line_of kind.Memory first here = 0
line_of k first here = here

abbrev pub fault_in : Line → ParseRefusal → FormulaFault
fault_in l r = fault (line_of r.kind (number l) (line_in l.tokens r.left)) r.kind

abbrev pub told : {A : Type 0} → Line → Outcome A → Result A FormulaFault
told l (Ok p) = Ok p.0
told l (Err r) = Err (fault_in l r)

-- what a line has, or the first fault from the left
abbrev pub on_line : {A : Type 0} → List ℕ → Reader A → Line → Result A FormulaFault
on_line source p l = told l (p (signs source l.tokens))
