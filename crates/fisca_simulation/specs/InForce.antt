-- The formula that is in force on a day.
use Rattle.std.specs.Prelude.{◌≡◌, ⊤, ◌⊎◌, List, [], ◌∷◌, true, false, Option, Some, None}
use Rattle.std.specs.Ordering.{is_gt}
use Rattle.fisca_rules.specs.Rules.{DatedFormula}
use Rattle.fisca_time.specs.Instant.{CivilDate, date_cmp}
use Rattle.fisca_rules.specs.Steps.InForce.{has_started}

-- What that means

abbrev pub IsAmong : DatedFormula → List DatedFormula → Type 0
IsAmong d [] = ⊥
IsAmong d (e ∷ es) = (e ≡ d) ⊎ IsAmong d es

-- none of these that start by the day starts after it
abbrev pub IsLast : CivilDate → DatedFormula → List DatedFormula → Type 0
IsLast day d [] = ⊤
IsLast day d (e ∷ es) = (has_started day e ≡ true → is_gt (date_cmp e.start d.start) ≡ false) × IsLast day d es

abbrev pub NoneHasStarted : CivilDate → List DatedFormula → Type 0
NoneHasStarted day [] = ⊤
NoneHasStarted day (e ∷ es) = (has_started day e ≡ false) × NoneHasStarted day es

-- it is one of these, starts by the day, and none of them that does starts after it; or none of them starts by the day
abbrev pub IsInForce : CivilDate → List DatedFormula → Option DatedFormula → Type 0
IsInForce day ds None = NoneHasStarted day ds
IsInForce day ds (Some d) = IsAmong d ds × (has_started day d ≡ true) × IsLast day d ds
