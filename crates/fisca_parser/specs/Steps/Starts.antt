-- Names of formulas: `formula`, `formula_YYYY`, `formula_YYYY_MM`, `formula_YYYY_MM_DD`.
use Rattle.std.specs.Prelude.{ℕ, ◌+◌, ◌*◌, ◌-◌, List, [], ◌∷◌, length, take, drop, nat_le, ◌&&◌, ◌==◌, if◌then◌else◌, Option, Some, None, codes}
use Rattle.std.specs.Char.{is_ascii_digit}
use Rattle.std.specs.Str.{bytes_eq}
use Rattle.fisca_time.specs.Instant.{CivilDate, is_on_calendar}

abbrev pub digit : ℕ → Option ℕ
digit b = if is_ascii_digit b then Some (b - 48) else None

abbrev pub tens : Option ℕ → Option ℕ → Option ℕ
tens None b = None
tens (Some m) None = None
tens (Some m) (Some n) = Some (m * 10 + n)

-- the number of two digits
abbrev pub two : ℕ → ℕ → Option ℕ
two a b = tens (digit a) (digit b)

abbrev pub hundreds : Option ℕ → Option ℕ → Option ℕ
hundreds None b = None
hundreds (Some m) None = None
hundreds (Some m) (Some n) = Some (m * 100 + n)

-- and of four
abbrev pub four : ℕ → ℕ → ℕ → ℕ → Option ℕ
four a b c d = hundreds (two a b) (two c d)

-- a day that the calendar has
abbrev pub day_if_real : CivilDate → Option CivilDate
day_if_real d = if is_on_calendar d then Some d else None

abbrev pub day_of : Option ℕ → Option ℕ → Option ℕ → Option CivilDate
day_of None m d = None
day_of (Some y) None d = None
day_of (Some y) (Some m) None = None
day_of (Some y) (Some m) (Some d) = day_if_real (record { year = y; month = m; day = d })

-- what stands behind the month, and behind the year; missing parts are 1
abbrev pub day_behind : Option ℕ → Option ℕ → List ℕ → Option CivilDate
day_behind year month [] = day_of year month (Some 1)
day_behind year month (u ∷ a ∷ b ∷ []) = if u == 95 then day_of year month (two a b) else None
day_behind year month _ = None

abbrev pub month_behind : Option ℕ → List ℕ → Option CivilDate
month_behind year [] = day_of year (Some 1) (Some 1)
month_behind year (u ∷ a ∷ b ∷ rest) = if u == 95 then day_behind year (two a b) rest else None
month_behind year _ = None

-- What stands behind `formula`. Without any part a formula is in force from the first day on.
abbrev pub start_behind : List ℕ → Option CivilDate
start_behind [] = day_of (Some 1) (Some 1) (Some 1)
start_behind (u ∷ a ∷ b ∷ c ∷ d ∷ rest) = if u == 95 then month_behind (four a b c d) rest else None
start_behind _ = None

-- from when on a formula of this name is in force, where it is the name of one
unfoldable pub start_of : List ℕ → Option CivilDate
start_of t = if nat_le 7 (length t) && bytes_eq (take 7 t) (codes "formula") then start_behind (drop 7 t) else None
