-- The steps of code behind `Columns`:
-- The key that a column names.
use Rattle.std.specs.Prelude.{ℕ, List, if◌then◌else◌, Option, Some, None, option_and_then}
use Rattle.std.specs.Result.{result_ok}
use Rattle.fisca_model.specs.Periods.{fits, is_eternity, key_period}
use Rattle.fisca_time.specs.Period.{Span, eternity}
use Rattle.fisca_time.specs.PeriodText.{period_of_text}
use Rattle.fisca_time.specs.declared.unit.Unit.{Unit}

-- the period of the key that a variable of this unit is asked for at a period: one definition period, and of an eternal variable any
abbrev pub asked_at : Unit → Span → Option Span
asked_at unit p = if fits unit p then Some (key_period unit p) else None

-- an eternal variable needs no period
abbrev pub asked_at_default : Unit → Option Span → Option Span
asked_at_default unit None = if is_eternity unit then Some eternity else None
asked_at_default unit (Some p) = asked_at unit p

-- the default period where none is written
abbrev pub period_at : Unit → Option Span → Option (List ℕ) → Option Span
period_at unit default None = asked_at_default unit default
period_at unit default (Some t) = option_and_then (asked_at unit) (result_ok (period_of_text t))
