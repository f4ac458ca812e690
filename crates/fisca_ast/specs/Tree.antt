-- Expressions, as they are written.
use Rattle.std.specs.Prelude.{ℕ, suc, max, List}
use Rattle.fisca_ast.specs.declared.tree.Operator.{Operator}
use Rattle.fisca_ast.specs.declared.tree.Comparison.{Comparison}
use Rattle.fisca_ast.specs.declared.tree.Prefix.{Prefix}
use Rattle.fisca_ast.specs.declared.tree.Delimiter.{Delimiter}
use Rattle.fisca_ast.specs.declared.tree.Suffix.{Suffix}

mutual
  pub data Tree : Type 0 where
    name : List ℕ → Tree
    number : List ℕ → Tree
    text : List ℕ → Tree
    bracketed : Delimiter → Series → Tree
    attribute : Tree → List ℕ → Tree
    applied : Suffix → Tree → Series → Tree
    prefixed : Prefix → Tree → Tree
    binary : Operator → Tree → Tree → Tree
    compare : Comparison → Tree → Tree → Tree

  -- what stands between brackets: nothing, a last argument, or an argument and a comma before more
  pub data Series : Type 0 where
    nothing : Series
    last : Argument → Series
    next : Argument → Series → Series

  pub data Argument : Type 0 where
    positional : Tree → Argument
    keyword : List ℕ → Tree → Argument
    entry : Tree → Tree → Argument

-- an atom has height 1
abbrev mutual
  pub height : Tree → ℕ
  height (name t) = 1
  height (number t) = 1
  height (text t) = 1
  height (bracketed b xs) = suc (height_all xs)
  height (attribute e t) = suc (height e)
  height (applied s f xs) = suc (max (height f) (height_all xs))
  height (prefixed p e) = suc (height e)
  height (binary o a b) = suc (max (height a) (height b))
  height (compare o a b) = suc (max (height a) (height b))

  pub height_all : Series → ℕ
  height_all nothing = 0
  height_all (last a) = height_of a
  height_all (next a xs) = max (height_of a) (height_all xs)

  pub height_of : Argument → ℕ
  height_of (positional e) = height e
  height_of (keyword k e) = height e
  height_of (entry k e) = max (height k) (height e)
