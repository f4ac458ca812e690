-- The steps of code behind `Marks`:
-- Which wheels move the inputs of each variable: the wheels of its slots, as the bits of a number.
use Rattle.std.specs.Prelude.{◌^◌, ℕ, ◌==◌, ◌&&◌, nat_lt, if◌then◌else◌, List, [], ◌∷◌, map}
use Rattle.std.specs.Int.Bits.{bit_or}
use Rattle.std.specs.List.{range_with_len}
use Rattle.fisca_situations.specs.Slots.{Slot}

-- the wheel of a slot as a bit, where the slot moves the variable; there are 16 wheels
abbrev pub mark_of : Slot → ℕ → ℕ
mark_of s x = if (s.variable == x) && nat_lt s.wheel 16 then 2 ^ s.wheel else 0

-- the wheels of the slots that move the variable
abbrev pub marks_of : List Slot → ℕ → ℕ
marks_of [] x = 0
marks_of (s ∷ ss) x = bit_or (mark_of s x) (marks_of ss x)

-- for each of so many variables, by its place
abbrev pub wheels_of : ℕ → List Slot → List ℕ
wheels_of variables ss = map (marks_of ss) (range_with_len 0 variables)
