-- Parentheses around one expression group and do nothing else.
use Rattle.std.specs.Prelude.{Option, Some, None}
use Rattle.fisca_ast.specs.declared.tree.Delimiter.{Delimiter}
use Rattle.fisca_ast.specs.declared.tree.Delimiter.TheVariants as bracket
use Rattle.fisca_ast.specs.Tree.{Tree, Series, Argument, name, number, text, bracketed, attribute, applied, prefixed, binary, compare, nothing, last, next, positional, keyword, entry}

abbrev pub unwrapped : Delimiter → Option Tree → Tree → Tree
unwrapped bracket.Round (Some inner) e = inner
unwrapped bracket.Round None e = e
unwrapped bracket.Square inner e = e
unwrapped bracket.Curly inner e = e

-- what stands in parentheses, however many
abbrev mutual
  pub bare : Tree → Tree
  bare (name t) = name t
  bare (number t) = number t
  bare (text t) = text t
  bare (bracketed b xs) = unwrapped b (alone xs) (bracketed b xs)
  bare (attribute e t) = attribute e t
  bare (applied s f xs) = applied s f xs
  bare (prefixed p e) = prefixed p e
  bare (binary o a b) = binary o a b
  bare (compare o a b) = compare o a b

  pub alone : Series → Option Tree
  alone nothing = None
  alone (last a) = bare_argument a
  alone (next a xs) = None

  pub bare_argument : Argument → Option Tree
  bare_argument (positional e) = Some (bare e)
  bare_argument (keyword k e) = None
  bare_argument (entry k e) = None
