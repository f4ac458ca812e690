-- How high an expression is and how many nodes it has, where the name of a local counts as the expression that the local stands for.
use Rattle.std.specs.Prelude.{ℕ, suc, ◌+◌, max, min, List, [], ◌∷◌, Bool, ◌&&◌, nat_le, if◌then◌else◌}
use Rattle.std.specs.Str.{bytes_eq}
use Rattle.fisca_ast.specs.Tree.{Tree, Series, Argument, name, number, text, bracketed, attribute, applied, prefixed, binary, compare, nothing, last, next, positional, keyword, entry}

pub record Size : Type 0 where
  pub height : ℕ
  pub nodes : ℕ

abbrev pub none : Size
none = record { height = 0; nodes = 0 }

-- an atom
abbrev pub one : Size
one = record { height = 1; nodes = 1 }

abbrev pub beside : Size → Size → Size
beside a b = record { height = max a.height b.height; nodes = a.nodes + b.nodes }

abbrev pub above : Size → Size
above a = record { height = suc a.height; nodes = suc a.nodes }

-- at most 120 high, at most 20,000 nodes
abbrev pub is_small : Size → Bool
is_small a = nat_le a.height 120 && nat_le a.nodes 20_000

pub record Sized : Type 0 where
  pub name : List ℕ
  pub size : Size

-- of the latest local of this name; any other name is an atom
abbrev pub size_named : List Sized → List ℕ → Size
size_named [] t = one
size_named (l ∷ ls) t = if bytes_eq l.name t then l.size else size_named ls t

-- Each expression is a node: a call and its callee, each argument, a text, a list, a name behind a point with what stands before it,
-- and parentheses too. Keywords are none.
abbrev mutual
  pub size_of : List Sized → Tree → Size
  size_of ls (name t) = size_named ls t
  size_of ls (number t) = one
  size_of ls (text t) = one
  size_of ls (bracketed b xs) = above (size_all ls xs)
  size_of ls (attribute e t) = above (size_of ls e)
  size_of ls (applied s f xs) = above (beside (size_of ls f) (size_all ls xs))
  size_of ls (prefixed p e) = above (size_of ls e)
  size_of ls (binary o a b) = above (beside (size_of ls a) (size_of ls b))
  size_of ls (compare o a b) = above (beside (size_of ls a) (size_of ls b))

  pub size_all : List Sized → Series → Size
  size_all ls nothing = none
  size_all ls (last a) = size_in ls a
  size_all ls (next a xs) = beside (size_in ls a) (size_all ls xs)

  pub size_in : List Sized → Argument → Size
  size_in ls (positional e) = size_of ls e
  size_in ls (keyword k e) = size_of ls e
  size_in ls (entry k e) = beside (size_of ls k) (size_of ls e)

-- Locals put in

-- a local and its expression
pub record Written : Type 0 where
  pub name : List ℕ
  pub tree : Tree

abbrev pub tree_named : List Written → List ℕ → Tree
tree_named [] t = name t
tree_named (l ∷ ls) t = if bytes_eq l.name t then l.tree else tree_named ls t

abbrev mutual
  pub put_in : List Written → Tree → Tree
  put_in ls (name t) = tree_named ls t
  put_in ls (number t) = number t
  put_in ls (text t) = text t
  put_in ls (bracketed b xs) = bracketed b (put_in_all ls xs)
  put_in ls (attribute e t) = attribute (put_in ls e) t
  put_in ls (applied s f xs) = applied s (put_in ls f) (put_in_all ls xs)
  put_in ls (prefixed p e) = prefixed p (put_in ls e)
  put_in ls (binary o a b) = binary o (put_in ls a) (put_in ls b)
  put_in ls (compare o a b) = compare o (put_in ls a) (put_in ls b)

  pub put_in_all : List Written → Series → Series
  put_in_all ls nothing = nothing
  put_in_all ls (last a) = last (put_in_one ls a)
  put_in_all ls (next a xs) = next (put_in_one ls a) (put_in_all ls xs)

  pub put_in_one : List Written → Argument → Argument
  put_in_one ls (positional e) = positional (put_in ls e)
  put_in_one ls (keyword k e) = keyword k (put_in ls e)
  put_in_one ls (entry k e) = entry (put_in ls k) (put_in ls e)

abbrev pub sized : Written → Sized
sized l = record { name = l.name; size = size_of [] l.tree }

abbrev pub all_sized : List Written → List Sized
all_sized [] = []
all_sized (l ∷ ls) = sized l ∷ all_sized ls

-- Counting no further than one past the limits

abbrev pub capped : Size → Size
capped a = record { height = min a.height 121; nodes = min a.nodes 20_001 }

abbrev pub all_capped : List Sized → List Sized
all_capped [] = []
all_capped (l ∷ ls) = record { name = l.name; size = capped l.size } ∷ all_capped ls

abbrev mutual
  pub capped_size_of : List Sized → Tree → Size
  capped_size_of ls (name t) = size_named ls t
  capped_size_of ls (number t) = one
  capped_size_of ls (text t) = one
  capped_size_of ls (bracketed b xs) = capped (above (capped_size_all ls xs))
  capped_size_of ls (attribute e t) = capped (above (capped_size_of ls e))
  capped_size_of ls (applied s f xs) = capped (above (capped (beside (capped_size_of ls f) (capped_size_all ls xs))))
  capped_size_of ls (prefixed p e) = capped (above (capped_size_of ls e))
  capped_size_of ls (binary o a b) = capped (above (capped (beside (capped_size_of ls a) (capped_size_of ls b))))
  capped_size_of ls (compare o a b) = capped (above (capped (beside (capped_size_of ls a) (capped_size_of ls b))))

  pub capped_size_all : List Sized → Series → Size
  capped_size_all ls nothing = none
  capped_size_all ls (last a) = capped_size_in ls a
  capped_size_all ls (next a xs) = capped (beside (capped_size_in ls a) (capped_size_all ls xs))

  pub capped_size_in : List Sized → Argument → Size
  capped_size_in ls (positional e) = capped_size_of ls e
  capped_size_in ls (keyword k e) = capped_size_of ls e
  capped_size_in ls (entry k e) = capped (beside (capped_size_of ls k) (capped_size_of ls e))
