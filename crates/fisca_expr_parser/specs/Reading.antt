-- Reading from left to right: the tree in front and what follows it, or the first fault.
use Rattle.std.specs.Prelude.{◌≡◌, ◌≢◌, ℕ, zero, suc, List, [], ◌∷◌, length, ◌&&◌, ◌==◌, nat_lt, if◌then◌else◌, Option, Some, None, is_some, Result, Ok, Err}
use Rattle.fisca_expr_parser.specs.declared.refusal.ParseRefusal.{ParseRefusal}
use Rattle.fisca_ast.specs.declared.fault.FormulaKind.{FormulaKind}
use Rattle.fisca_ast.specs.declared.fault.FormulaKind.TheVariants.{Syntax, Unsupported, TooDeep, Memory}
use Rattle.fisca_expr_parser.specs.declared.sign.Sign.{Sign}
use Rattle.fisca_expr_parser.specs.declared.sign.Sign.TheVariants as sign
use Rattle.fisca_lexer.specs.declared.token.Mark.{Mark}
use Rattle.fisca_lexer.specs.declared.token.Mark.TheVariants as mark
use Rattle.fisca_expr_parser.specs.declared.marks.Joint.{Joint}
use Rattle.fisca_expr_parser.specs.declared.marks.Joint.TheVariants as joint
use Rattle.fisca_expr_parser.specs.declared.marks.Beginning.{Beginning}
use Rattle.fisca_expr_parser.specs.declared.marks.Beginning.TheVariants as begin
use Rattle.fisca_ast.specs.declared.tree.Comparison.{Comparison}
use Rattle.fisca_expr_parser.specs.Steps.Marks.{binds, joint_of, tightness, beginning_of, comparison_of, closing_mark, bracket_of}
use Rattle.fisca_ast.specs.Steps.Words.{is_name, is_atom}
use Rattle.fisca_expr_parser.specs.declared.mode.Place.{Place}
use Rattle.fisca_expr_parser.specs.declared.mode.Mode.{Mode}
use Rattle.fisca_ast.specs.Tree.{Tree, Series, Argument, name, number, text, bracketed, attribute, applied, prefixed, binary, compare, nothing, last, next, positional, keyword, entry, height}
use Rattle.fisca_expr_parser.specs.Steps.Spelling.{takes_positional, takes_keyword, takes_entry, takes_many, place_behind, place_in, allows, place_behind_suffix}
use Rattle.fisca_expr_parser.specs.Steps.Reading.{misfit, begins}

abbrev pub Outcome : Type 0 → Type 0
Outcome A = Result (A × List Sign) ParseRefusal

abbrev pub Reader : Type 0 → Type 0
Reader A = List Sign → Outcome A

abbrev pub and_then : {A B : Type 0} → Outcome A → (A → Reader B) → Outcome B
and_then (Ok p) f = f p.0 p.1
and_then (Err e) f = Err e

infixl 10 ◌>>=◌
abbrev pub ◌>>=◌ : {A B : Type 0} → Reader A → (A → Reader B) → Reader B
p >>= f = λ ts. and_then (p ts) f

abbrev pub pure : {A : Type 0} → A → Reader A
pure a = λ ts. Ok (a, ts)

-- a fault, where this much is left
abbrev pub refuse : {A : Type 0} → FormulaKind → Reader A
refuse k = λ ts. Err (record { left = length ts; kind = k })

-- the fault of the next token
abbrev pub stop : {A : Type 0} → Reader A
stop = λ ts. refuse (misfit ts) ts

-- what comes next

abbrev pub tail : List Sign → List Sign
tail [] = []
tail (s ∷ ts) = ts

abbrev pub joint_at : Sign → Joint
joint_at (sign.Mark m) = joint_of m
joint_at _ = joint.Ends

abbrev pub joint_ahead : List Sign → Joint
joint_ahead [] = joint.Ends
joint_ahead (s ∷ ts) = joint_at s

abbrev pub comparison_at : Sign → Option Comparison
comparison_at (sign.Mark m) = comparison_of m
comparison_at _ = None

abbrev pub comparison_ahead : List Sign → Option Comparison
comparison_ahead [] = None
comparison_ahead (s ∷ ts) = comparison_at s

abbrev pub word_at : Sign → Option (List ℕ)
word_at (sign.Word t) = Some t
word_at _ = None

abbrev pub word_ahead : List Sign → Option (List ℕ)
word_ahead [] = None
word_ahead (s ∷ ts) = word_at s

-- a word and the sign of equality
abbrev pub keyed : Option (List ℕ) → List Sign → Option (List ℕ)
keyed None ts = None
keyed (Some k) ts = if begins mark.Equal ts then Some k else None

abbrev pub keyword_ahead : List Sign → Option (List ℕ)
keyword_ahead ts = keyed (word_ahead ts) (tail ts)

-- steps

-- goes past this mark
abbrev pub expect : Mark → Reader (Unit {0})
expect m = λ ts. if begins m ts then Ok (tt, tail ts) else stop ts

abbrev pub named : Option (List ℕ) → Reader (List ℕ)
named None = refuse Syntax
named (Some t) = λ ts. if is_name t then Ok (t, tail ts) else refuse Syntax ts

abbrev pub take_name : Reader (List ℕ)
take_name = λ ts. named (word_ahead ts) ts

-- rules; inner reads an expression that is at this level or tighter, and one less high

module _ (inner : ℕ → Reader Tree) where
  -- an entry of a map
  abbrev pub mapped : Reader Argument
  mapped = inner 0 >>= λ k. expect mark.Colon >>= λ _. inner 0 >>= λ e. pure (entry k e)

  abbrev pub argument_by : Place → Option (List ℕ) → Reader Argument
  argument_by p None = λ ts. if takes_positional p then (inner 0 >>= λ e. pure (positional e)) ts else (if takes_entry p then mapped ts else stop ts)
  argument_by p (Some k) = λ ts. if takes_keyword p && is_name k then (inner 0 >>= λ e. pure (keyword k e)) (tail (tail ts)) else stop ts

  unfoldable pub argument : Place → Reader Argument
  argument p = λ ts. argument_by p (keyword_ahead ts) ts

  -- Up to a closing bracket. The number bounds the turns, each of which takes a token.
  unfoldable pub series : Place → Mark → ℕ → Reader Series
  series p end zero = refuse Syntax
  series p end (suc n) = λ ts.
      if begins end ts && takes_many p then Ok (nothing, ts)
      else (argument p >>= λ a rest. if begins mark.Comma rest && takes_many p then (series (place_behind p a) end n >>= λ xs. pure (next a xs)) (tail rest) else Ok (last a, rest)) ts

  unfoldable pub enclosed : Place → Mark → Reader Series
  enclosed p end = λ ts. (series p end (length ts) >>= λ xs. expect end >>= λ _. pure xs) ts

  abbrev pub opened : Mode → Beginning → Reader Tree
  opened m (begin.Opens b) = λ ts. if allows m b then (enclosed (place_in m b) (closing_mark b) >>= λ xs. pure (bracketed b xs)) (tail ts) else stop ts
  opened m (begin.Sign p) = λ ts. (inner 5 >>= λ e. pure (prefixed p e)) (tail ts)
  opened m begin.Nothing = stop

  abbrev pub operand_at : Mode → Sign → Reader Tree
  operand_at m (sign.Word t) = λ ts. if is_atom t then Ok (name t, tail ts) else stop ts
  operand_at m (sign.Number t) = λ ts. Ok (number t, tail ts)
  operand_at m (sign.Text t) = λ ts. Ok (text t, tail ts)
  operand_at m (sign.Mark k) = opened m (beginning_of k)

  unfoldable pub operand : Mode → Reader Tree
  operand m [] = refuse Syntax []
  operand m (s ∷ ts) = operand_at m s (s ∷ ts)

  -- behind an expression, past the sign that joins
  unfoldable pub joined : Joint → Tree → Reader Tree
  joined joint.Access left = take_name >>= λ t. pure (attribute left t)
  joined (joint.Applied s) left = enclosed (place_behind_suffix s) (closing_mark (bracket_of s)) >>= λ xs. pure (applied s left xs)
  joined (joint.Operates o) left = inner (suc (binds o)) >>= λ right. pure (binary o left right)
  joined joint.Ends left = refuse Syntax

  -- as long as signs follow that bind tightly enough, and the tree stays within the limit
  unfoldable pub climb : ℕ → ℕ → ℕ → Tree → Reader Tree
  climb limit least zero left = λ ts. if nat_lt (tightness (joint_ahead ts)) least then Ok (left, ts) else refuse TooDeep ts
  climb limit least (suc n) left = λ ts.
      if nat_lt (tightness (joint_ahead ts)) least then Ok (left, ts)
      else (if nat_lt (height left) limit then and_then (joined (joint_ahead ts) left (tail ts)) (climb limit least n) else refuse TooDeep ts)

  -- a comparison is no operand of another
  abbrev pub unchained : Tree → Reader Tree
  unchained e = λ ts. if is_some (comparison_ahead ts) then refuse Unsupported ts else Ok (e, ts)

  abbrev pub compared_by : ℕ → Tree → Option Comparison → Reader Tree
  compared_by limit left None = pure left
  compared_by limit left (Some o) = λ ts. if nat_lt (height left) limit then (inner 1 >>= λ right. unchained (compare o left right)) (tail ts) else refuse TooDeep ts

  unfoldable pub compared : ℕ → Tree → Reader Tree
  compared limit left = λ ts. compared_by limit left (comparison_ahead ts) ts

  abbrev pub onward : ℕ → ℕ → Tree → Reader Tree
  onward limit least first = λ ts. if least == 0 then (climb limit 1 limit first >>= compared limit) ts else climb limit least limit first ts

  abbrev pub expression : Mode → ℕ → ℕ → Reader Tree
  expression m limit least = operand m >>= onward limit least

-- an expression at this level or tighter that is no higher than the first number
unfoldable pub reads : Mode → ℕ → ℕ → Reader Tree
reads m zero least = refuse TooDeep
reads m (suc d) least = expression (reads m d) m (suc d) least

-- nothing is left
abbrev pub ends : Tree → Reader Tree
ends e = λ ts. if nat_lt 0 (length ts) then stop ts else Ok (e, ts)

-- what a function that reads ensures

abbrev pub Reads : {X Y : Type 0} → (X → Y) → Outcome Y → Result X ParseRefusal → List Sign → Type 0
Reads view outcome (Ok x) new = outcome ≡ Ok (view x, new)
Reads view outcome (Err f) new = f.kind ≢ Memory → outcome ≡ Err f
