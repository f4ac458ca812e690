-- The steps of code behind `Layout`:
-- Open indentations, and where a reader of tokens stands.
use Rattle.std.specs.Prelude.{ℕ, ◌+◌, ◌-◌, List, [], ◌∷◌, nat_lt, Bool, true, false, ◌==◌, if◌then◌else◌, Option, Some, None}
use Rattle.fisca_lexer.specs.declared.token.Mark.{Mark}
use Rattle.fisca_lexer.specs.declared.token.Mark.TheVariants as mark
use Rattle.fisca_lexer.specs.declared.token.Class.{Class}
use Rattle.fisca_lexer.specs.declared.token.Class.TheVariants as class
use Rattle.fisca_lexer.specs.declared.layout.Margin.{Margin}
use Rattle.fisca_lexer.specs.declared.layout.Margin.TheVariants as margin

-- Indentations

-- the deepest open indentation: the open ones stand in the list, the deepest first, and the left edge is always open
abbrev pub deepest : List ℕ → ℕ
deepest [] = 0
deepest (l ∷ ls) = l

-- those that are no deeper than a column
abbrev pub within : ℕ → List ℕ → List ℕ
within column [] = []
within column (l ∷ ls) = if nat_lt column l then within column ls else l ∷ ls

abbrev pub opened : Bool → List ℕ → Option (List ℕ)
opened is_open levels = if is_open then Some levels else None

-- What is open after a line at this column. A deeper line opens an indentation; another has to stand at an open one, and closes the deeper ones.
abbrev pub go_to : ℕ → List ℕ → Option (List ℕ)
go_to column levels =
    if nat_lt (deepest levels) column then Some (column ∷ levels)
    else opened (deepest (within column levels) == column) (within column levels)

-- Brackets

abbrev pub opens : Mark → Bool
opens mark.Open = true
opens mark.OpenList = true
opens mark.OpenMap = true
opens _ = false

abbrev pub closes : Mark → Bool
closes mark.Close = true
closes mark.CloseList = true
closes mark.CloseMap = true
closes _ = false

-- how many brackets are open behind a token; a closing one too many closes nothing
abbrev pub depth_after : Class → ℕ → ℕ
depth_after class.Word depth = depth
depth_after class.Number depth = depth
depth_after class.Quoted depth = depth
depth_after (class.Mark m) depth = if opens m then depth + 1 else (if closes m then depth - 1 else depth)

-- Lines

-- what stands before the next piece behind blanks
abbrev pub behind_blanks : Margin → Margin → Margin
behind_blanks margin.Tokens blanks = margin.Tokens
behind_blanks margin.Tabs blanks = margin.Tabs
behind_blanks (margin.Spaces n) blanks = blanks

-- and at the beginning of a line: within brackets neither line ends nor indentations have a meaning
abbrev pub line_start : ℕ → Margin
line_start depth = if depth == 0 then margin.Spaces 0 else margin.Tokens
