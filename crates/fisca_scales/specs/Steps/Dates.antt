-- The steps of code behind `Dates`:
-- Values that hold from a date on.
use Rattle.std.specs.Prelude.{ℕ, ◌+◌, ◌*◌, List, [], ◌∷◌}
use Rattle.std.specs.Ordering.{match_ordering}
use Rattle.fisca_time.specs.Instant.{CivilDate, date_cmp}
use Rattle.fisca_scales.specs.Dates.{Dated}

-- at its place in time; at a date that is there already, in that one's place
abbrev pub put_in_time : {V : Type 0} → Dated V → List (Dated V) → List (Dated V)
put_in_time d [] = d ∷ []
put_in_time d (e ∷ es) =
    match_ordering (date_cmp d.date e.date) (d ∷ e ∷ es) (record { date = e.date; value = d.value } ∷ es) (e ∷ put_in_time d es)

abbrev pub in_time_with : {V : Type 0} → List (Dated V) → List (Dated V) → List (Dated V)
in_time_with sorted [] = sorted
in_time_with sorted (d ∷ ds) = in_time_with (put_in_time d sorted) ds

-- in order of time
abbrev pub in_time : {V : Type 0} → List (Dated V) → List (Dated V)
in_time ds = in_time_with [] ds

-- a date as one number, in order of time
abbrev pub day_number : CivilDate → ℕ
day_number d = d.year * 65536 + (d.month * 256 + d.day)
