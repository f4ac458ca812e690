-- The tree that an expression stands for.
use Rattle.std.specs.Prelude.{ℕ, List, [], ◌∷◌, Bool, if◌then◌else◌, map}
use Rattle.fisca_ast.specs.declared.tree.Expr.{Expr, fold-Expr}
use Rattle.fisca_ast.specs.declared.tree.Argument.TheOpen.{Expr-F, Access-F, Application-F, Arguments-F, Argument-F, Operands-F}
use Rattle.fisca_ast.specs.declared.tree.Arguments.{Arguments, fold-Arguments}
use Rattle.fisca_ast.specs.declared.tree.Argument.{Argument as Given, fold-Argument}
use Rattle.fisca_ast.specs.Tree.{Tree, Series, Argument, name, number, text, bracketed, attribute, applied, prefixed, binary, compare, nothing, last, next, positional, keyword, entry}

-- these arguments, each with a comma behind it, and then more
abbrev pub in_front : List Argument → Series → Series
in_front [] more = more
in_front (a ∷ xs) more = next a (in_front xs more)

-- with a comma behind the last, or without
abbrev pub series_of : Bool → List Argument → Series
series_of comma [] = nothing
series_of comma (a ∷ []) = if comma then next a nothing else last a
series_of comma (a ∷ b ∷ xs) = next a (series_of comma (b ∷ xs))

-- an expression, and the name behind it
pub record Accessed : Type 0 where
  pub front : Tree
  pub name : List ℕ

-- an expression, and what stands in brackets behind it
pub record Called : Type 0 where
  pub front : Tree
  pub behind : Series

pub record Paired : Type 0 where
  pub left : Tree
  pub right : Tree

abbrev pub expr_step : Expr-F Argument Series Tree Accessed Called Paired → Tree
expr_step (Expr-F.Name t) = name t
expr_step (Expr-F.Number t) = number t
expr_step (Expr-F.Text t) = text t
expr_step (Expr-F.Bracketed b xs) = bracketed b xs.value
expr_step (Expr-F.Attribute x) = attribute x.value.front x.value.name
expr_step (Expr-F.Applied s x) = applied s x.value.front x.value.behind
expr_step (Expr-F.Prefixed p e) = prefixed p e.value
expr_step (Expr-F.Binary o x) = binary o x.value.left x.value.right
expr_step (Expr-F.Compare o x) = compare o x.value.left x.value.right

abbrev pub access_step : Access-F Argument Series Tree Accessed Called Paired → Accessed
access_step x = record { front = x.front; name = x.name }

abbrev pub application_step : Application-F Argument Series Tree Accessed Called Paired → Called
application_step x = record { front = x.front; behind = x.behind }

abbrev pub arguments_step : Arguments-F Argument Series Tree Accessed Called Paired → Series
arguments_step (Arguments-F.One a) = last a
arguments_step (Arguments-F.Several xs comma) = series_of comma xs.items

abbrev pub operands_step : Operands-F Argument Series Tree Accessed Called Paired → Paired
operands_step x = record { left = x.left; right = x.right }

abbrev pub argument_step : Argument-F Argument Series Tree Accessed Called Paired → Argument
argument_step (Argument-F.Positional e) = positional e
argument_step (Argument-F.Keyword k e) = keyword k e.value
argument_step (Argument-F.Entry k e) = entry k.value e.value

abbrev pub tree : Expr → Tree
tree = fold-Expr Argument Series Tree Accessed Called Paired argument_step arguments_step expr_step access_step application_step operands_step

abbrev pub series_view : Arguments → Series
series_view = fold-Arguments Argument Series Tree Accessed Called Paired argument_step arguments_step expr_step access_step application_step operands_step

abbrev pub argument_view : Given → Argument
argument_view = fold-Argument Argument Series Tree Accessed Called Paired argument_step arguments_step expr_step access_step application_step operands_step

-- arguments, each with a comma behind it, and then more
abbrev pub before : List Given → Series → Series
before xs more = in_front (map argument_view xs) more
