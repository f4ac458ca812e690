-- The steps of code behind `PeriodText`:
-- Texts of periods. A start is a year, a month or a day: `2010`, `2010-4` or `2010-04`, `2010-4-5` or `2010-04-05`. A period is written
-- as a start, as a unit and a start, or as a unit, a start and a size, with colons between: `2010-04`, `year:2010-04`, `day:2010-04-05:3`.
-- Eternity has two words of its own.
use Rattle.std.specs.Prelude.{ℕ, List, [], ◌∷◌}

-- ---- writing

-- the start in a text is its second piece under a unit, and else its only one
abbrev pub start_in : List (List ℕ) → List ℕ
start_in (_ ∷ start ∷ _) = start
start_in (start ∷ []) = start
start_in [] = []
