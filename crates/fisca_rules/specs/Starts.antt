-- The days on which the formulas of a variable start.
use Rattle.std.specs.Prelude.{◌≡◌, ℕ, suc, List, [], ◌∷◌, false, if◌then◌else◌, Option, Some, None, IsSome}
use Rattle.std.specs.BTreeMap.{BTreeMap, get}
use Rattle.std.specs.Ordering.{is_eq, is_gt, is_lt}
use Rattle.fisca_time.specs.Instant.{CivilDate, date_cmp}
use Rattle.fisca_rules.specs.declared.dated.DatedFormula.{DatedFormula}

-- the place of the first of these, which stand from a place on, that starts on a day
abbrev pub place_from : ℕ → List DatedFormula → CivilDate → Option ℕ
place_from n [] day = None
place_from n (d ∷ ds) day = if is_eq (date_cmp d.start day) then Some n else place_from (suc n) ds day

-- the map has for each day the place of the first formula that starts on it
abbrev pub AreStarts : BTreeMap CivilDate ℕ → List DatedFormula → Type 0
AreStarts m ds = (day : CivilDate) → get date_cmp m day ≡ place_from 0 ds day

-- the map has the place by a day that is not after this one, and none of its days between the two
abbrev pub IsLastStart : CivilDate → BTreeMap CivilDate ℕ → ℕ → Type 0
IsLastStart day m place =
    (start : CivilDate) × (get date_cmp m start ≡ Some place) × (is_gt (date_cmp start day) ≡ false)
    × ((other : CivilDate) → is_gt (date_cmp other day) ≡ false → IsSome (get date_cmp m other) → is_lt (date_cmp start other) ≡ false)

-- each day of the map is after this one
abbrev pub NoneStarts : CivilDate → BTreeMap CivilDate ℕ → Type 0
NoneStarts day m = (other : CivilDate) → is_gt (date_cmp other day) ≡ false → get date_cmp m other ≡ None
