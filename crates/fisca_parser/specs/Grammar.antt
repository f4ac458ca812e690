-- The grammar: which lines declare what. Nothing here reads: a block is a list of lines with the lines that belong to each,
-- and a line is compared with how a statement is spelled.
use Rattle.std.specs.Prelude.{◌≡◌, ◌<◌, ◌≤◌, ◌⊎◌, ℕ, List, [], ◌∷◌, ◌++◌, Bool, true, false, Option, Some, None, Ok, codes}
use Rattle.std.specs.Str.{bytes_eq}
use Rattle.fisca_lexer.specs.declared.token.Mark.TheVariants as mark
use Rattle.fisca_lexer.specs.declared.token.Token.{Token}
use Rattle.fisca_lexer.specs.Texts.{joined}
use Rattle.fisca_lexer.specs.Steps.Tokens.{tokens}
use Rattle.fisca_expr_parser.specs.declared.sign.Sign.{Sign}
use Rattle.fisca_expr_parser.specs.declared.sign.Sign.TheVariants as sign
use Rattle.fisca_expr_parser.specs.declared.mode.Mode.{Mode}
use Rattle.fisca_expr_parser.specs.declared.mode.Mode.TheVariants as mode
use Rattle.fisca_expr_parser.specs.Signs.{signs}
use Rattle.fisca_expr_parser.specs.Spelling.{IsExpression}
use Rattle.fisca_ast.specs.Tree.{Tree, height}
use Rattle.fisca_ast.specs.Steps.Words.{is_name}
use Rattle.fisca_parser.specs.declared.heading.Base.{Base}
use Rattle.fisca_parser.specs.declared.heading.Base.TheVariants as base
use Rattle.fisca_ast.specs.declared.module.Member.{Member}
use Rattle.fisca_ast.specs.declared.module.Signature.{Signature}
use Rattle.fisca_parser.specs.Steps.Forms.{is_entity, is_list_of_names, is_week_attribute}
use Rattle.fisca_parser.specs.Lines.{Line}
use Rattle.fisca_parser.specs.Steps.Lines.{lines, number}
use Rattle.fisca_ast.specs.Modules.{Assigned, Answer, Formula, Item, attribute, formula, Statement, entity, entities, choices, variable}
use Rattle.fisca_parser.specs.Reading.{put}
use Rattle.fisca_parser.specs.Steps.Shapes.{is_import}
use Rattle.fisca_parser.specs.Steps.Starts.{start_of}

-- Single lines

-- an expression of at most the greatest height
pub record IsValue (m : Mode) (ts : List Sign) (e : Tree) : Type 0 where
  pub expression : IsExpression m ts e
  pub low : height e ≤ 120

-- `NAME = expression`
pub record IsAssignment (m : Mode) (ts : List Sign) (name : List ℕ) (e : Tree) : Type 0 where
  pub rest : List Sign
  pub spelled : ts ≡ sign.Word name ∷ sign.Mark mark.Equal ∷ rest
  pub named : is_name name ≡ true
  pub value : IsValue m rest e

-- `return expression`
pub record IsReturn (ts : List Sign) (e : Tree) : Type 0 where
  pub rest : List Sign
  pub spelled : ts ≡ sign.Word (codes "return") ∷ rest
  pub value : IsValue mode.Formula rest e

-- `NAME = STRING`
pub record IsLabelled (ts : List Sign) (name text : List ℕ) : Type 0 where
  pub spelled : ts ≡ sign.Word name ∷ sign.Mark mark.Equal ∷ sign.Text text ∷ []
  pub named : is_name name ≡ true

-- a text in quotes alone
abbrev pub IsText : List Sign → Type 0
IsText ts = (t : List ℕ) × (ts ≡ sign.Text t ∷ [])

abbrev pub IsPass : List Sign → Type 0
IsPass ts = ts ≡ sign.Word (codes "pass") ∷ []

-- `import ..` or `from ..`, whatever follows
abbrev pub IsImport : List Sign → Type 0
IsImport ts = (t : List ℕ) × (us : List Sign) × (ts ≡ sign.Word t ∷ us) × (is_import t ≡ true)

abbrev pub base_word : Base → List ℕ
base_word base.Enum = codes "Enum"
base_word base.Variable = codes "Variable"

-- `class NAME(BASE):`
pub record IsClass (ts : List Sign) (name : List ℕ) (b : Base) : Type 0 where
  pub spelled : ts ≡ sign.Word (codes "class") ∷ sign.Word name ∷ sign.Mark mark.Open ∷ sign.Word (base_word b) ∷ sign.Mark mark.Close ∷ sign.Mark mark.Colon ∷ []
  pub named : is_name name ≡ true

abbrev pub spelled_third : Option (List ℕ) → List Sign
spelled_third None = []
spelled_third (Some c) = sign.Mark mark.Comma ∷ sign.Word c ∷ []

-- perhaps a comma
abbrev pub spelled_comma : Bool → List Sign
spelled_comma true = sign.Mark mark.Comma ∷ []
spelled_comma false = []

abbrev pub IsThird : List ℕ → List ℕ → Option (List ℕ) → Type 0
IsThird a b None = Unit {0}
IsThird a b (Some c) = (is_name c ≡ true) × (bytes_eq c a ≡ false) × (bytes_eq c b ≡ false)

-- two names or three, all different, and perhaps a comma behind the last
pub record IsSignature (ts : List Sign) (s : Signature) : Type 0 where
  pub comma : Bool
  pub spelled : ts ≡ sign.Word s.entity ∷ sign.Mark mark.Comma ∷ sign.Word s.period ∷ (spelled_third s.parameters ++ spelled_comma comma)
  pub entity : is_name s.entity ≡ true
  pub period : is_name s.period ≡ true
  pub apart : bytes_eq s.period s.entity ≡ false
  pub third : IsThird s.entity s.period s.parameters

-- `def NAME(..):`, where the name says from when on the formula is in force
pub record IsDefinition (ts : List Sign) (f : Formula) : Type 0 where
  pub name : List ℕ
  pub between : List Sign
  pub spelled : ts ≡ sign.Word (codes "def") ∷ sign.Word name ∷ sign.Mark mark.Open ∷ (between ++ sign.Mark mark.Close ∷ sign.Mark mark.Colon ∷ [])
  pub named : is_name name ≡ true
  pub started : start_of name ≡ Some f.start
  pub signature : IsSignature between f.signature

-- Blocks

-- Lines at this indentation, each with the lines of its own below it, which has one thing or nothing.
pub data IsBlock {A : Type 0} (i : ℕ) (IsOne : Line → List Line → Option A → Type 0) : List Line → List A → Type 0 where
  over : IsBlock i IsOne [] []
  more : (l : Line) (own rest : List Line) (x : Option A) (xs : List A) → l.indent ≡ i → IsOne l own x → IsBlock i IsOne rest xs → IsBlock i IsOne (l ∷ (own ++ rest)) (put x xs)

-- The lines below a line: a block as deep as its first line, which is deeper than the line above it.
pub record IsBelow {A : Type 0} (IsOne : Line → List Line → Option A → Type 0) (l : Line) (own : List Line) (xs : List A) : Type 0 where
  pub first : Line
  pub others : List Line
  pub lines : own ≡ first ∷ others
  pub deeper : l.indent < first.indent
  pub block : IsBlock first.indent IsOne own xs

-- Lines of a text of this source.
module _ (source : List ℕ) where
  abbrev pub signs_of : Line → List Sign
  signs_of l = signs source l.tokens

  abbrev pub IsAssigned : Mode → Line → Assigned → Type 0
  IsAssigned m l a = (a.line ≡ number l) × IsAssignment m (signs_of l) a.name a.value

  -- in an Enum: a member, a text alone or `pass`
  abbrev pub IsEnumLine : Line → List Line → Option Member → Type 0
  IsEnumLine l own None = (own ≡ []) × (IsText (signs_of l) ⊎ IsPass (signs_of l))
  IsEnumLine l own (Some m) = (own ≡ []) × (m.line ≡ number l) × IsLabelled (signs_of l) m.name m.text

  -- in a formula: locals, and one `return` at the end
  abbrev pub IsLocals : ℕ → List Line → List Assigned → Answer → Type 0
  IsLocals i [] bs r = ⊥
  IsLocals i (l ∷ ls) [] r = (l.indent ≡ i) × (ls ≡ []) × (r.line ≡ number l) × IsReturn (signs_of l) r.value
  IsLocals i (l ∷ ls) (a ∷ bs) r = (l.indent ≡ i) × IsAssigned mode.Formula l a × IsLocals i ls bs r

  -- perhaps behind a text alone
  abbrev pub IsBody : ℕ → List Line → List Assigned → Answer → Type 0
  IsBody i [] bs r = ⊥
  IsBody i (l ∷ ls) bs r = ((l.indent ≡ i) × IsText (signs_of l) × IsLocals i ls bs r) ⊎ IsLocals i (l ∷ ls) bs r

  pub record IsFormula (l : Line) (own : List Line) (f : Formula) : Type 0 where
    pub line : f.line ≡ number l
    pub heading : IsDefinition (signs_of l) f
    pub indent : ℕ
    pub deeper : l.indent < indent
    pub body : IsBody indent own f.locals f.returned

  -- in a variable: an attribute, which is no week, a formula, a text alone or `pass`
  abbrev pub IsVariableLine : Line → List Line → Option Item → Type 0
  IsVariableLine l own None = (own ≡ []) × (IsText (signs_of l) ⊎ IsPass (signs_of l))
  IsVariableLine l own (Some (attribute a)) = (own ≡ []) × IsAssigned mode.Value l a × (is_week_attribute a ≡ false)
  IsVariableLine l own (Some (formula f)) = IsFormula l own f

  -- in a module: what declares an entity, all entities, an Enum or a variable, a text alone or an import
  abbrev pub IsModuleLine : Line → List Line → Option Statement → Type 0
  IsModuleLine l own None = (own ≡ []) × (IsText (signs_of l) ⊎ IsImport (signs_of l))
  IsModuleLine l own (Some (entity a)) = (own ≡ []) × IsAssigned mode.Value l a × (is_entity a.value ≡ true)
  IsModuleLine l own (Some (entities a)) = (own ≡ []) × IsAssigned mode.Value l a × (bytes_eq a.name (codes "entities") ≡ true) × (is_list_of_names a.value ≡ true)
  IsModuleLine l own (Some (choices n name ms)) = (n ≡ number l) × IsClass (signs_of l) name base.Enum × IsBelow IsEnumLine l own ms
  IsModuleLine l own (Some (variable n name xs)) = (n ≡ number l) × IsClass (signs_of l) name base.Variable × IsBelow IsVariableLine l own xs

-- the statements that a text declares
pub record IsModule (text : List ℕ) (ss : List Statement) : Type 0 where
  pub tokens_of : List Token
  pub lexed : tokens text ≡ Ok tokens_of
  pub block : IsBlock 0 (IsModuleLine text) (lines (joined tokens_of)) ss
