-- The steps of code behind `Sink`:
-- What a sink counts.
use Rattle.std.specs.Prelude.{ℕ, ◌+◌, ◌-◌, ◌^◌, min}

-- a count of failures stops at `u64::MAX`
abbrev pub one_more : ℕ → ℕ
one_more failures = min (failures + 1) (2 ^ 64 - 1)
