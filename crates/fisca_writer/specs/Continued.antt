-- A run in parts.
use Rattle.std.specs.Prelude.{◌≡◌, ◌≢◌, ℕ, ◌-◌, ◌<◌, ◌≤◌, ◌++◌, nat_lt, List, length, filter, Option, Some, None, option_map}
use Rattle.fisca_writer.specs.Row.{Row}
use Rattle.fisca_writer.specs.Lines.{lines, run_end}
use Rattle.fisca_writer.specs.Ranges.{range_end, range_lines, stop_of}
use Rattle.fisca_writer.specs.declared.limit.Limit.{Limit}

-- the lines before a position
abbrev pub lines_before : ℕ → List (ℕ × List ℕ) → List (ℕ × List ℕ)
lines_before position = filter (λ line. nat_lt line.0 position)

-- what these lines leave of a limit of lines
abbrev pub rows_after : List (ℕ × List ℕ) → Option ℕ → Option ℕ
rows_after before = option_map (λ rows. rows - length before)

-- what they leave of a limit
abbrev pub limit_after : List (ℕ × List ℕ) → Limit → Limit
limit_after before limit = record { to = limit.to; rows = rows_after before limit.rows }

-- the run can be resumed at `position`: a run from there on, with what is left of the limit, gives the lines that are not before it, and the same end
pub record IsResumable {F : Type 0} (row : ℕ → Row F) (size from : ℕ) (limit : Limit) (before : List (ℕ × List ℕ)) (position : ℕ) : Type 0 where
  pub lines_follow : range_lines row size from limit ≡ before ++ range_lines row size position (limit_after before limit)
  pub same_end : range_end row size from limit ≡ range_end row size position (limit_after before limit)
  pub behind : from ≤ position
  pub within : position < stop_of size limit
  pub unlimited : rows_after before limit.rows ≢ Some 0

-- the run from `position` on gives exactly what the limited run from `from` on has left of the whole one
pub record IsContinued {F : Type 0} (row : ℕ → Row F) (size from : ℕ) (limit : Limit) (position : ℕ) : Type 0 where
  pub lines_follow : lines row size from None ≡ range_lines row size from limit ++ lines row size position None
  pub same_end : run_end row size from None ≡ run_end row size position None
  pub behind : from ≤ position
  pub within : position < size
