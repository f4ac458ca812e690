-- The parts of a grid, of nearly the same number of positions each.
use Rattle.std.specs.Prelude.{ℕ, ◌*◌, ◌/◌, ◌-◌, ◌≤◌, nat_lt, not, Bool, ◌&&◌, Option, Some, None, if◌then◌else◌}

-- one of so many parts, counted from 1
pub record Part : Type 0 where
  pub number : ℕ
  pub count : ℕ
  pub first : 1 ≤ number
  pub last : number ≤ count

-- there is a part of this number among so many, which are a million at most
abbrev pub is_part : ℕ → ℕ → Bool
is_part number count = nat_lt 0 number && (not (nat_lt count number) && not (nat_lt 1000000 count))

-- the part of this number among so many, where there is one
abbrev pub part_in : ℕ → ℕ → Option (ℕ × ℕ)
part_in number count = if is_part number count then Some (number, count) else None

-- how many of `size` positions the first `parts` of so many parts have, the whole part of their share
abbrev pub share_of : ℕ → ℕ → ℕ → ℕ
share_of size count parts = size * parts / count

-- the position at which a part begins, and the one before which it ends
abbrev pub part_start : ℕ → Part → ℕ
part_start size part = share_of size part.count (part.number - 1)

abbrev pub part_end : ℕ → Part → ℕ
part_end size part = share_of size part.count part.number
