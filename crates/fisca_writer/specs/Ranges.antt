-- Runs over a range of the positions of a grid.
use Rattle.std.specs.Prelude.{◌≡◌, ◌⊎◌, ◌≤◌, ◌<◌, ℕ, zero, suc, max, List, [], ◌++◌, Option, Some, None}
use Rattle.std.specs.Option.{unwrap_or}
use Rattle.fisca_writer.specs.Lines.{End, AtEnd, MoreFrom, FaultAt, continued_from, lines, run_end}
use Rattle.fisca_writer.specs.Parts.{part_end, part_start, share_of}
use Rattle.fisca_writer.specs.Row.{Row}
use Rattle.fisca_writer.specs.declared.limit.Limit.{Limit}
use Rattle.fisca_writer.specs.declared.range.Range.{Range}
use Rattle.fisca_writer.specs.declared.range.Range.TheVariants as range

-- a run that goes on to the last position
abbrev pub no_limit : Limit
no_limit = record { to = None; rows = None }

-- a run that ends before a position
abbrev pub before : ℕ → Limit
before to = record { to = Some to; rows = None }

-- the position before which a run ends: the size where none is given
abbrev pub stop_of : ℕ → Limit → ℕ
stop_of size limit = unwrap_or limit.to size

-- a grid of so many positions has this start and this stop, which may be the size
abbrev pub IsInside : ℕ → ℕ → Limit → Type 0
IsInside size from limit = (from ≤ size) × (stop_of size limit ≤ size)

-- it has no such start, or no such stop
abbrev pub IsBeyond : ℕ → ℕ → Limit → Type 0
IsBeyond size from limit = (size < from) ⊎ (size < stop_of size limit)

-- the lines of a range: those of a run over a grid that ends where the range does
abbrev pub range_lines : {F : Type 0} → (ℕ → Row F) → ℕ → ℕ → Limit → List (ℕ × List ℕ)
range_lines row size from limit = lines row (stop_of size limit) from limit.rows

-- the end of a run over a grid that is the beginning of a greater one: at its own end the greater one may go on, from `rest` on
abbrev pub end_within : {F : Type 0} → ℕ → ℕ → End F → End F
end_within size rest AtEnd = continued_from size rest
end_within size rest (MoreFrom position) = MoreFrom position
end_within size rest (FaultAt position x) = FaultAt position x

-- the end of a run over a range; a range that ends before its start can be continued from its start
abbrev pub range_end : {F : Type 0} → (ℕ → Row F) → ℕ → ℕ → Limit → End F
range_end row size from limit = end_within size (max from (stop_of size limit)) (run_end row (stop_of size limit) from limit.rows)

-- where a range begins, and the position before which it ends, if that is said
abbrev pub range_start : ℕ → Range → ℕ
range_start size (range.Between from to) = from
range_start size (range.Part part) = part_start size part

abbrev pub range_stop : ℕ → Range → Option ℕ
range_stop size (range.Between from to) = to
range_stop size (range.Part part) = Some (part_end size part)

-- the limit of a run over a range with this limit of lines
abbrev pub limit_in : ℕ → Range → Option ℕ → Limit
limit_in size r rows = record { to = range_stop size r; rows = rows }

-- the lines of a range up to a position between and those from there on are the lines of the range, and the end is that of its rest
pub record AreJoined {F : Type 0} (row : ℕ → Row F) (size from between : ℕ) (limit : Limit) : Type 0 where
  pub lines_follow : range_lines row size from limit ≡ range_lines row size from (before between) ++ range_lines row size between limit
  pub same_end : range_end row size from limit ≡ range_end row size between limit

-- the lines of the first of so many parts, one part after another
abbrev pub lines_of_parts : {F : Type 0} → (ℕ → Row F) → ℕ → ℕ → ℕ → List (ℕ × List ℕ)
lines_of_parts row size count zero = []
lines_of_parts row size count (suc parts) = lines_of_parts row size count parts ++ range_lines row size (share_of size count parts) (before (share_of size count (suc parts)))
