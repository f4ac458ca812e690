-- The locals of the theory that those in memory stand for.
use Rattle.std.specs.Prelude.{◌≡◌, ℕ, List, [], ◌∷◌, length, map, reverse, if◌then◌else◌, Option, Some, None}
use Rattle.std.specs.Str.{bytes_eq}
use Rattle.fisca_ir.specs.Views.{chosen, node}
use Rattle.fisca_ir.specs.declared.node.Node.{Node}
use Rattle.fisca_typing.specs.Formulas.{Kept}
use Rattle.fisca_typing.specs.Names as names
use Rattle.fisca_typing.specs.Nodes as nodes
use Rattle.fisca_typing.specs.Sizes as counts
use Rattle.fisca_typing.specs.Things as things
use Rattle.indexmap.specs.IndexMap.{IndexMap, get}
use Rattle.fisca_check_calls.specs.Counts.{size}
use Rattle.fisca_check_calls.specs.declared.local.Held.{Held}
use Rattle.fisca_check_calls.specs.declared.local.Held.TheVariants as variant
use Rattle.fisca_check_calls.specs.declared.local.Local.{Local}

abbrev pub held : Held → things.Thing
held (variant.Value t l i) = things.value (record { value_type = t; level = l; node = nodes.local i })
held (variant.Period ms) = things.period ms
held (variant.Nodes c) = things.nodes (chosen c.value)
held (variant.Scale n ms) = things.scale n ms
held (variant.Choices e) = things.choices e

-- what a local stands for, beside what those with values work out
abbrev pub kept_view : List Node → Held → Kept
kept_view values h = record { thing = held h; values = map node values }

abbrev pub local : Local → names.Local
local l = record { name = l.name; thing = held l.held }

abbrev pub sized : Local → counts.Sized
sized l = record { name = l.name; size = size l.size }

-- the latest first
abbrev pub locals : List Local → List names.Local
locals ls = map local (reverse ls)

abbrev pub sizes : List Local → List counts.Sized
sizes ls = map sized (reverse ls)

-- The latest local of a name, and its place, in a list with the latest first

abbrev pub first_named : List Local → List ℕ → Option Local
first_named [] t = None
first_named (l ∷ ls) t = if bytes_eq l.name t then Some l else first_named ls t

abbrev pub latest_place : List ℕ → List Local → Option ℕ
latest_place t [] = None
latest_place t (l ∷ ls) = if bytes_eq l.name t then Some (length ls) else latest_place t ls

-- each text leads to the latest local of this name
abbrev pub AreFound : {S : Type 0} → List Local → IndexMap (List ℕ) ℕ S → Type 0
AreFound ls places = (t : List ℕ) → get bytes_eq places t ≡ latest_place t (reverse ls)
