-- The place of a member, as a column writes it.
use Rattle.std.specs.Prelude.{ℕ, List, Bool, ◌&&◌, nat_lt, length, if◌then◌else◌, Option, Some, None}
use Rattle.std.specs.Char.{is_ascii_digit}
use Rattle.std.specs.List.{list_all}
use Rattle.std.specs.Str.Parse.{digits_value}

-- decimal digits, with zeros before them or not
abbrev pub is_place : List ℕ → Bool
is_place t = nat_lt 0 (length t) && list_all is_ascii_digit t

abbrev pub if_below : ℕ → ℕ → Option ℕ
if_below count place = if nat_lt place count then Some place else None

-- the place of one of so many members, which is the first where none is written
abbrev pub member_at : ℕ → Option (List ℕ) → Option ℕ
member_at count None = if_below count 0
member_at count (Some t) = if is_place t then if_below count (digits_value 10 t) else None
