-- The steps of code behind the formula that is in force on a day.
use Rattle.std.specs.Prelude.{List, [], ◌∷◌, Bool, not, if◌then◌else◌, Option, Some, None}
use Rattle.std.specs.Ordering.{is_gt}
use Rattle.fisca_rules.specs.Rules.{DatedFormula}
use Rattle.fisca_time.specs.Instant.{CivilDate, date_cmp}

-- it starts on the day or before it
abbrev pub has_started : CivilDate → DatedFormula → Bool
has_started day d = not (is_gt (date_cmp d.start day))

-- of two the one that starts later; of two that start on one day the upper
abbrev pub later : Option DatedFormula → DatedFormula → DatedFormula
later None d = d
later (Some e) d = if is_gt (date_cmp d.start e.start) then d else e

abbrev pub latest_with : CivilDate → Option DatedFormula → DatedFormula → Option DatedFormula
latest_with day found d = if has_started day d then Some (later found d) else found

abbrev pub latest_of : CivilDate → Option DatedFormula → List DatedFormula → Option DatedFormula
latest_of day found [] = found
latest_of day found (d ∷ ds) = latest_of day (latest_with day found d) ds

-- of the formulas that start by the day the one that starts last
abbrev pub in_force : CivilDate → List DatedFormula → Option DatedFormula
in_force day ds = latest_of day None ds
