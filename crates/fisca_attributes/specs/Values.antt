-- Values of arguments and attributes, as they are written.
use Rattle.std.specs.Prelude.{ℕ, List, [], ◌∷◌, ◌++◌, Bool, true, false, if◌then◌else◌, Option, Some, None, Result, Ok, Err}
use Rattle.fisca_ast.specs.declared.tree.Delimiter.{Delimiter}
use Rattle.fisca_ast.specs.declared.tree.Delimiter.TheVariants as bracket
use Rattle.fisca_ast.specs.Tree.{Tree, Series, Argument, bracketed, nothing, last, next, positional, keyword, entry}
use Rattle.fisca_ast.specs.Steps.Groups.{bare}
use Rattle.fisca_ast.specs.Words.{is}
use Rattle.fisca_num.specs.Results.{and_then}
use Rattle.fisca_ast.specs.declared.fault.FormulaKind.{FormulaKind}
use Rattle.fisca_ast.specs.declared.fault.FormulaKind.TheVariants as kind

abbrev pub bad_attribute : {X : Type 0} → Result X FormulaKind
bad_attribute = Err kind.BadAttribute

-- what the commas part
abbrev pub items : Series → List Argument
items nothing = []
items (last a) = a ∷ []
items (next a xs) = a ∷ items xs

-- Lists

-- a value without a label
abbrev pub position : Argument → Result Tree FormulaKind
position (positional e) = Ok e
position (keyword k e) = bad_attribute
position (entry k e) = bad_attribute

abbrev pub each_behind : {X : Type 0} → (Tree → Result X FormulaKind) → List X → List Argument → Result (List X) FormulaKind
each_behind read xs [] = Ok xs
each_behind read xs (a ∷ more) = and_then (position a) (λ e. and_then (read e) (λ x. each_behind read (xs ++ x ∷ []) more))

-- values without labels, each read
abbrev pub each : {X : Type 0} → (Tree → Result X FormulaKind) → List Argument → Result (List X) FormulaKind
each read = each_behind read []

abbrev pub in_square : Delimiter → Series → Result (List Argument) FormulaKind
in_square bracket.Square xs = Ok (items xs)
in_square bracket.Round xs = bad_attribute
in_square bracket.Curly xs = bad_attribute

abbrev pub list_in : Tree → Result (List Argument) FormulaKind
list_in (bracketed b xs) = in_square b xs
list_in e = bad_attribute

-- `[..]`
abbrev pub listed : Tree → Result (List Argument) FormulaKind
listed e = list_in (bare e)

-- a list of such values
abbrev pub list_value : {X : Type 0} → (Tree → Result X FormulaKind) → Tree → Result (List X) FormulaKind
list_value read e = and_then (listed e) (each read)

-- Fields: arguments by keyword of a call, and entries of a map

pub record Field : Type 0 where
  pub label : List ℕ
  pub value : Tree

abbrev pub is_among : List (List ℕ) → List ℕ → Bool
is_among [] t = false
is_among (k ∷ ks) t = if is t k then true else is_among ks t

-- what has to be there
abbrev pub needed : {X : Type 0} → (Tree → Result X FormulaKind) → Option Tree → Result X FormulaKind
needed read None = bad_attribute
needed read (Some e) = read e

-- what may be there
abbrev pub perhaps : {X : Type 0} → (Tree → Result X FormulaKind) → Option Tree → Result (Option X) FormulaKind
perhaps read None = Ok None
perhaps read (Some e) = and_then (read e) (λ x. Ok (Some x))

-- what counts as this where it is not there
abbrev pub or_else : {X : Type 0} → X → (Tree → Result X FormulaKind) → Option Tree → Result X FormulaKind
or_else x read None = Ok x
or_else x read (Some e) = read e
