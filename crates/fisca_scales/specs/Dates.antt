-- Values that hold from a date on.
use Rattle.std.specs.Prelude.{ℕ, ◌/◌, ◌%◌, Bool, true, ◌&&◌, List, [], ◌∷◌, Option, Some, None, option_and_then, if◌then◌else◌}
use Rattle.std.specs.Ordering.{is_lt}
use Rattle.fisca_time.specs.Instant.{CivilDate, date_cmp}

-- a value from a date on, or none from it on
pub record Dated (V : Type 0) : Type 0 where
  pub date : CivilDate
  pub value : Option V

abbrev pub is_before : CivilDate → CivilDate → Bool
is_before a b = is_lt (date_cmp a b)

-- this member, or the other where that one is later
abbrev pub later : {V : Type 0} → Dated V → Option (Dated V) → Dated V
later d None = d
later d (Some e) = if is_before d.date e.date then e else d

-- of the members whose date is not after the instant, the one with the greatest date
abbrev pub latest : {V : Type 0} → List (Dated V) → CivilDate → Option (Dated V)
latest [] instant = None
latest (d ∷ ds) instant = if is_before instant d.date then latest ds instant else Some (later d (latest ds instant))

-- The value at an instant is that of the latest member. There is none before the first date, and where that value is null.
abbrev pub value_at : {V : Type 0} → List (Dated V) → CivilDate → Option V
value_at dates instant = option_and_then (λ d. d.value) (latest dates instant)

-- each date is before the next
abbrev pub is_in_order : {V : Type 0} → List (Dated V) → Bool
is_in_order [] = true
is_in_order (d ∷ []) = true
is_in_order (d ∷ e ∷ es) = is_before d.date e.date && is_in_order (e ∷ es)

-- the date of a number
abbrev pub date_of_number : ℕ → CivilDate
date_of_number n = record { year = n / 65536; month = n / 256 % 256; day = n % 256 }

-- a value by the number of its date
abbrev pub numbered_pair : {V : Type 0} → ℕ × Option V → Dated V
numbered_pair p = record { date = date_of_number p.0; value = p.1 }
