-- The definitions of lines and end, worked out on small grids.
use Rattle.std.proofs.Common.{◌≡◌, ℕ, ◌+◌, ◌*◌, nat_lt, cond, [], ◌∷◌, Some, None, refl}
use Rattle.fisca_writer.specs.Row.{Row, Nothing, Line, Fault}
use Rattle.fisca_writer.specs.Lines.{lines, run_end, AtEnd, MoreFrom, FaultAt}
use Rattle.fisca_writer.specs.Ranges.{before, range_end, range_lines}

-- five positions, whose values are 0, 500, 1000, 1500, 2000; kept from 500 on, with the value as the text
kept : ℕ → Row ℕ
kept position = cond (nat_lt 0 position) (Line (position * 500 ∷ [])) Nothing

-- every position has a line
full : ℕ → Row ℕ
full position = Line (position ∷ [])

-- a fault at position 3
broken : ℕ → Row ℕ
broken position = cond (nat_lt 2 position) (Fault (position + 70)) (Line (position ∷ []))

two_lines : lines kept 5 0 (Some 2) ≡ (1, 500 ∷ []) ∷ (2, 1000 ∷ []) ∷ []
unfolding kept
two_lines = refl

then_more : run_end kept 5 0 (Some 2) ≡ MoreFrom 3
unfolding kept
then_more = refl

from_three : lines kept 5 3 None ≡ (3, 1500 ∷ []) ∷ (4, 2000 ∷ []) ∷ []
unfolding kept
from_three = refl

from_three_end : run_end kept 5 3 None ≡ AtEnd
unfolding kept
from_three_end = refl

-- at the size there is nothing left, with and without a limit
nothing_left : lines full 5 5 None ≡ []
nothing_left = refl

ended : run_end full 5 5 None ≡ AtEnd
ended = refl

ended_at_zero : run_end full 5 5 (Some 0) ≡ AtEnd
ended_at_zero = refl

-- no lines are asked for
no_lines : lines full 5 0 (Some 0) ≡ []
no_lines = refl

more_from_start : run_end full 5 0 (Some 0) ≡ MoreFrom 0
more_from_start = refl

-- the last line meets the limit
last_line : run_end full 5 0 (Some 5) ≡ AtEnd
unfolding full
last_line = refl

last_but_one : run_end full 5 0 (Some 4) ≡ MoreFrom 4
unfolding full
last_but_one = refl

-- the limit is beyond the lines
too_few : run_end kept 5 0 (Some 5) ≡ AtEnd
unfolding kept
too_few = refl

-- lines end before the fault, which is met only within the limit
before_fault : lines broken 5 0 None ≡ (0, 0 ∷ []) ∷ (1, 1 ∷ []) ∷ (2, 2 ∷ []) ∷ []
unfolding broken
before_fault = refl

at_fault : run_end broken 5 0 None ≡ FaultAt 3 73
unfolding broken
at_fault = refl

limit_before_fault : run_end broken 5 0 (Some 3) ≡ MoreFrom 3
unfolding broken
limit_before_fault = refl

fault_at_start : run_end broken 5 3 (Some 4) ≡ FaultAt 3 73
unfolding broken
fault_at_start = refl

-- ranges
to_three : range_lines kept 5 0 (before 3) ≡ (1, 500 ∷ []) ∷ (2, 1000 ∷ []) ∷ []
unfolding kept
to_three = refl

more_from_three : range_end kept 5 0 (before 3) ≡ MoreFrom 3
unfolding kept
more_from_three = refl

-- a range that ends at the last position ends the run
to_the_size : range_end full 5 2 (before 5) ≡ AtEnd
unfolding full
to_the_size = refl

-- one that ends before its start has no lines, and is continued from its start
behind_its_end : range_lines full 5 3 (before 2) ≡ []
behind_its_end = refl

more_from_its_start : range_end full 5 3 (before 2) ≡ MoreFrom 3
more_from_its_start = refl

-- a range may end before a fault
before_the_fault : range_end broken 5 0 (before 3) ≡ MoreFrom 3
unfolding broken
before_the_fault = refl

at_the_fault : range_end broken 5 0 (before 4) ≡ FaultAt 3 73
unfolding broken
at_the_fault = refl
