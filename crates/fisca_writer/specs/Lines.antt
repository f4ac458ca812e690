-- The lines of a run over a grid, and its end. `row` gives what stands at each position, `size` is the number of positions.
use Rattle.std.specs.Prelude.{ℕ, zero, suc, ◌+◌, ◌-◌, nat_lt, cond, List, take, Option, Some, None, option_map, slice_get}
use Rattle.std.specs.List.{filter_map, range_with_len}
use Rattle.std.specs.Option.{option_map_or}
use Rattle.fisca_writer.specs.Row.{Row, text_of, fault_of}

-- the positions from `from` on, in order
abbrev pub positions_from : ℕ → ℕ → List ℕ
positions_from size from = range_with_len from (size - from)

-- the fault at a position, and the line, with the position
abbrev pub fault_at : {F : Type 0} → (ℕ → Row F) → ℕ → Option (ℕ × F)
fault_at row position = option_map (λ fault. (position, fault)) (fault_of (row position))

abbrev pub line_at : {F : Type 0} → (ℕ → Row F) → ℕ → Option (ℕ × List ℕ)
line_at row position = option_map (λ text. (position, text)) (text_of (row position))

-- the first fault from `from` on
abbrev pub first_fault : {F : Type 0} → (ℕ → Row F) → ℕ → ℕ → Option (ℕ × F)
first_fault row size from = slice_get (filter_map (fault_at row) (positions_from size from)) 0

-- the position of the first fault, or else the size
abbrev pub fault_position : {F : Type 0} → (ℕ → Row F) → ℕ → ℕ → ℕ
fault_position row size from = option_map_or (λ fault. fault.0) (first_fault row size from) size

-- all lines from `from` on: those of the positions below the first fault
abbrev pub all_lines : {F : Type 0} → (ℕ → Row F) → ℕ → ℕ → List (ℕ × List ℕ)
all_lines row size from = filter_map (line_at row) (positions_from (fault_position row size from) from)

-- the first members of a list, as many as the limit says
abbrev pub up_to : {X : Type 0} → Option ℕ → List X → List X
up_to None xs = xs
up_to (Some limit) xs = take limit xs

-- the lines of a run, each with its position
abbrev pub lines : {F : Type 0} → (ℕ → Row F) → ℕ → ℕ → Option ℕ → List (ℕ × List ℕ)
lines row size from limit = up_to limit (all_lines row size from)

-- how a run ends: no position is left, it can be continued from a position, or a fault stands at a position
pub data End (F : Type 0) : Type 0 where
  AtEnd : End F
  MoreFrom : ℕ → End F
  FaultAt : ℕ → F → End F

-- a run can be continued from a position where the grid has that position
abbrev pub continued_from : {F : Type 0} → ℕ → ℕ → End F
continued_from size position = cond (nat_lt position size) (MoreFrom position) AtEnd

-- the end of a run that its limit does not stop
abbrev pub unlimited_end : {F : Type 0} → (ℕ → Row F) → ℕ → ℕ → End F
unlimited_end row size from = option_map_or (λ fault. FaultAt fault.0 fault.1) (first_fault row size from) AtEnd

-- the end of a run: a limit stops it after that many lines, right behind the last of them
abbrev pub run_end : {F : Type 0} → (ℕ → Row F) → ℕ → ℕ → Option ℕ → End F
run_end row size from None = unlimited_end row size from
run_end row size from (Some zero) = continued_from size from
run_end row size from (Some (suc before)) = option_map_or (λ line. continued_from size (line.0 + 1)) (slice_get (all_lines row size from) before) (unlimited_end row size from)
