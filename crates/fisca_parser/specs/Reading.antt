-- Reading a module line by line: what it declares and the lines that are left, or the first fault.
use Rattle.std.specs.Prelude.{◌≡◌, ◌≢◌, ℕ, zero, suc, List, [], ◌∷◌, length, nat_lt, if◌then◌else◌, Option, Some, None, Result, Ok, Err}
use Rattle.fisca_ast.specs.declared.fault.FormulaKind.{FormulaKind}
use Rattle.fisca_ast.specs.declared.fault.FormulaKind.TheVariants.{Syntax, Indent, Unsupported, Memory}
use Rattle.fisca_ast.specs.declared.fault.FormulaFault.{FormulaFault}
use Rattle.fisca_lexer.specs.declared.token.Token.{Token}
use Rattle.fisca_lexer.specs.Texts.{joined}
use Rattle.fisca_lexer.specs.Tokens.{Lexed}
use Rattle.fisca_lexer.specs.Steps.Tokens.{tokens}
use Rattle.fisca_expr_parser.specs.declared.mode.Mode.TheVariants as mode
use Rattle.fisca_ast.specs.Tree.{Tree}
use Rattle.fisca_expr_parser.specs.Signs.{signs}
use Rattle.fisca_parser.specs.declared.heading.Base.{Base}
use Rattle.fisca_parser.specs.declared.heading.Base.TheVariants as base
use Rattle.fisca_ast.specs.declared.module.Member.{Member}
use Rattle.fisca_parser.specs.declared.shape.Shape.{Shape}
use Rattle.fisca_parser.specs.declared.shape.Shape.TheVariants as shape
use Rattle.fisca_parser.specs.Headings.{alone, assignment, returned, labelled, class_heading, definition_heading}
use Rattle.fisca_parser.specs.Steps.Forms.{declared, is_week_attribute}
use Rattle.fisca_parser.specs.Lines.{Line, fault}
use Rattle.fisca_parser.specs.Steps.Lines.{lines, number, on_line, last_line}
use Rattle.fisca_ast.specs.Modules.{Assigned, Answer, Formula, Item, attribute, formula, Step, local, result, Statement, choices, variable}
use Rattle.fisca_parser.specs.Steps.Shapes.{shape_of, is_text}

abbrev pub Outcome : Type 0 → Type 0
Outcome A = Result (A × List Line) FormulaFault

abbrev pub Reader : Type 0 → Type 0
Reader A = List Line → Outcome A

abbrev pub and_then : {A B : Type 0} → Outcome A → (A → Reader B) → Outcome B
and_then (Ok p) f = f p.0 p.1
and_then (Err e) f = Err e

infixl 10 ◌>>=◌
abbrev pub ◌>>=◌ : {A B : Type 0} → Reader A → (A → Reader B) → Reader B
p >>= f = λ ls. and_then (p ls) f

abbrev pub pure : {A : Type 0} → A → Reader A
pure a = λ ls. Ok (a, ls)

-- a fault of a line
abbrev pub refuse : {A : Type 0} → FormulaKind → Line → Reader A
refuse k l = λ ls. Err (fault (number l) k)

-- what stands on a line, if it has no fault
abbrev pub given : {A : Type 0} → Result A FormulaFault → Reader A
given (Ok a) = pure a
given (Err f) = λ ls. Err f

-- Blocks

-- where the next line begins, or the last one ends
abbrev pub here : ℕ → List Line → ℕ
here end [] = end
here end (l ∷ ls) = number l

-- more lines would have to come: told of the next line, or of the end
abbrev pub missing : {A : Type 0} → ℕ → Reader A
missing end = λ ls. Err (fault (here end ls) Syntax)

-- The next line of a block at this indentation, if there is one. A deeper line has no place.
abbrev pub next_at : ℕ → Reader (Option Line)
next_at i [] = Ok (None, [])
next_at i (l ∷ ls) = if nat_lt l.indent i then Ok (None, l ∷ ls) else (if nat_lt i l.indent then Err (fault (number l) Indent) else Ok (Some l, ls))

-- The indentation of the block below a line at this one: that of its first line, which is deeper.
abbrev pub deeper : ℕ → ℕ → Reader ℕ
deeper end i [] = missing end []
deeper end i (l ∷ ls) = if nat_lt i l.indent then Ok (l.indent, l ∷ ls) else missing end (l ∷ ls)

-- one in front of the others, if there is one
abbrev pub put : {A : Type 0} → Option A → List A → List A
put None xs = xs
put (Some x) xs = x ∷ xs

-- what the next line of a block has, and perhaps lines below it, if there is a next line
abbrev pub turn_by : {A : Type 0} → (Line → Reader (Option A)) → Option Line → Reader (Option (Option A))
turn_by one None = pure None
turn_by one (Some l) = one l >>= λ x. pure (Some x)

abbrev pub turn : {A : Type 0} → ℕ → (Line → Reader (Option A)) → Reader (Option (Option A))
turn i one = next_at i >>= turn_by one

abbrev pub after_turn : {A : Type 0} → Reader (List A) → Option (Option A) → Reader (List A)
after_turn others None = pure []
after_turn others (Some x) = others >>= λ xs. pure (put x xs)

-- What the lines of a block at this indentation have. The number bounds the turns, each of which takes a line.
unfoldable pub block : {A : Type 0} → ℕ → (Line → Reader (Option A)) → ℕ → Reader (List A)
block i one zero = pure []
block i one (suc n) = turn i one >>= after_turn (block i one n)

-- the block below a line at this indentation
abbrev pub below : {A : Type 0} → ℕ → ℕ → (Line → Reader (Option A)) → Reader (List A)
below end i one = deeper end i >>= λ j ls. block j one (length ls) ls

-- nothing is declared
abbrev pub skipped : {A : Type 0} → Reader (Option A)
skipped = pure None

abbrev pub assigned_in : Line → List ℕ × Tree → Assigned
assigned_in l p = record { line = number l; name = p.0; value = p.1 }

-- a body ends here
abbrev pub ended_by : {A : Type 0} → A → Option Line → Reader A
ended_by a None = pure a
ended_by a (Some l) = refuse Unsupported l

-- Lines of a text of this source.
module _ (source : List ℕ) where
  abbrev pub shape_at : Line → Shape
  shape_at l = shape_of (signs source l.tokens)

  -- `pass`
  abbrev pub passed : {A : Type 0} → Line → Reader (Option A)
  passed l = given (on_line source alone l) >>= λ _. skipped

  -- in an Enum
  abbrev pub enum_line_by : Shape → Line → Reader (Option Member)
  enum_line_by shape.Import l = refuse Unsupported l
  enum_line_by shape.Text l = skipped
  enum_line_by shape.Pass l = passed l
  enum_line_by shape.Assignment l = given (on_line source labelled l) >>= λ p. pure (Some (record { line = number l; name = p.0; text = p.1 }))
  enum_line_by shape.Class l = refuse Unsupported l
  enum_line_by shape.Definition l = refuse Unsupported l
  enum_line_by shape.Return l = refuse Unsupported l
  enum_line_by (shape.Other k) l = refuse k l

  unfoldable pub enum_line : Line → Reader (Option Member)
  enum_line l = enum_line_by (shape_at l) l

  -- in a formula at this indentation, which ends behind `return`
  abbrev pub body_line_by : ℕ → Shape → Line → Reader Step
  body_line_by i shape.Import l = refuse Unsupported l
  body_line_by i shape.Text l = refuse Unsupported l
  body_line_by i shape.Pass l = refuse Unsupported l
  body_line_by i shape.Assignment l = given (on_line source (assignment mode.Formula) l) >>= λ p. pure (local (assigned_in l p))
  body_line_by i shape.Class l = refuse Unsupported l
  body_line_by i shape.Definition l = refuse Unsupported l
  body_line_by i shape.Return l = given (on_line source (returned mode.Formula) l) >>= λ e. next_at i >>= ended_by (result (record { line = number l; value = e }))
  body_line_by i (shape.Other k) l = refuse k l

  unfoldable pub body_line : ℕ → Line → Reader Step
  body_line i l = body_line_by i (shape_at l) l

  -- A text in quotes may come first.
  unfoldable pub documented : List Line → List Line
  documented [] = []
  documented (l ∷ ls) = if is_text (shape_at l) then ls else l ∷ ls

abbrev pub after_step : Reader (List Assigned × Answer) → Step → Reader (List Assigned × Answer)
after_step others (local a) = others >>= λ b. pure (a ∷ b.0, b.1)
after_step others (result r) = pure ([], r)

-- Blocks of a text of this source that ends on this line.
module _ (source : List ℕ) (end : ℕ) where
  abbrev pub step_by : ℕ → Option Line → Reader Step
  step_by i None = missing end
  step_by i (Some l) = body_line source i l

  -- the next line of a formula's body, which has to be there
  abbrev pub step_at : ℕ → Reader Step
  step_at i = next_at i >>= step_by i

  -- The locals of a formula, up to its one `return`. The number bounds the turns, each of which takes a line.
  unfoldable pub body : ℕ → ℕ → Reader (List Assigned × Answer)
  body i zero = missing end
  body i (suc n) = step_at i >>= after_step (body i n)

  abbrev pub documented_body : ℕ → List Line → Outcome (List Assigned × Answer)
  documented_body i ls = body i (length ls) ls

  unfoldable pub formula_at : Line → Reader Formula
  formula_at l =
      given (on_line source definition_heading l) >>= λ h.
      deeper end l.indent >>= λ i ls.
      and_then (documented_body i (documented source ls)) (λ b. pure (record { line = number l; start = h.0; signature = h.1; locals = b.0; returned = b.1 }))

  -- weeks are left out
  abbrev pub with_unit : Line → Assigned → Reader (Option Item)
  with_unit l a = if is_week_attribute a then refuse Unsupported l else pure (Some (attribute a))

  -- in a variable
  abbrev pub variable_line_by : Shape → Line → Reader (Option Item)
  variable_line_by shape.Import l = refuse Unsupported l
  variable_line_by shape.Text l = skipped
  variable_line_by shape.Pass l = passed source l
  variable_line_by shape.Assignment l = given (on_line source (assignment mode.Value) l) >>= λ p. with_unit l (assigned_in l p)
  variable_line_by shape.Class l = refuse Unsupported l
  variable_line_by shape.Definition l = formula_at l >>= λ f. pure (Some (formula f))
  variable_line_by shape.Return l = refuse Unsupported l
  variable_line_by (shape.Other k) l = refuse k l

  unfoldable pub variable_line : Line → Reader (Option Item)
  variable_line l = variable_line_by (shape_at source l) l

  abbrev pub with_form : Line → Option Statement → Reader (Option Statement)
  with_form l None = refuse Unsupported l
  with_form l (Some s) = pure (Some s)

  abbrev pub class_of : Line → List ℕ → Base → Reader Statement
  class_of l n base.Enum = below end l.indent (enum_line source) >>= λ ms. pure (choices (number l) n ms)
  class_of l n base.Variable = below end l.indent variable_line >>= λ xs. pure (variable (number l) n xs)

  unfoldable pub class_at : Line → Reader Statement
  class_at l = given (on_line source class_heading l) >>= λ h. class_of l h.0 h.1

  -- in a module
  abbrev pub module_line_by : Shape → Line → Reader (Option Statement)
  module_line_by shape.Import l = skipped
  module_line_by shape.Text l = skipped
  module_line_by shape.Pass l = refuse Unsupported l
  module_line_by shape.Assignment l = given (on_line source (assignment mode.Value) l) >>= λ p. with_form l (declared (assigned_in l p))
  module_line_by shape.Class l = class_at l >>= λ s. pure (Some s)
  module_line_by shape.Definition l = refuse Unsupported l
  module_line_by shape.Return l = refuse Unsupported l
  module_line_by (shape.Other k) l = refuse k l

  unfoldable pub module_line : Line → Reader (Option Statement)
  module_line l = module_line_by (shape_at source l) l

abbrev pub Read : Type 0
Read = Result (List Statement) FormulaFault

abbrev pub first_of : Outcome (List Statement) → Read
first_of (Ok p) = Ok p.0
first_of (Err f) = Err f

-- the module of these lines of a text
abbrev pub of_lines : List ℕ → ℕ → List Line → Read
of_lines source end ls = first_of (block 0 (module_line source end) (length ls) ls)

abbrev pub of_joined : List ℕ → List Token → Read
of_joined source ts = of_lines source (last_line ts) (lines ts)

abbrev pub of_tokens : List ℕ → Lexed → Read
of_tokens source (Ok ts) = of_joined source (joined ts)
of_tokens source (Err f) = Err f

-- the module of a text, or its first fault: that of its tokens before all others
abbrev pub module_of : List ℕ → Read
module_of text = of_tokens text (tokens text)

-- what a function that reads lines ensures
abbrev pub Takes : {X Y : Type 0} → (X → Y) → Outcome Y → Result X FormulaFault → List Line → Type 0
Takes view outcome (Ok x) new = outcome ≡ Ok (view x, new)
Takes view outcome (Err f) new = f.kind ≢ Memory → outcome ≡ Err f

-- and one that reads a single line
abbrev pub Tells : {X Y : Type 0} → (X → Y) → Result Y FormulaFault → Result X FormulaFault → Type 0
Tells view outcome (Ok x) = outcome ≡ Ok (view x)
Tells view outcome (Err f) = f.kind ≢ Memory → outcome ≡ Err f
