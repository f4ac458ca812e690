-- The steps of code behind `Overlaps`:
-- Periods that share a day, and inputs whose periods do.
use Rattle.std.specs.Prelude.{ℕ, List, Bool, ◌==◌, ◌&&◌, not}
use Rattle.std.specs.List.{list_any}
use Rattle.std.specs.Ordering.{eq_by_cmp}
use Rattle.fisca_inputs.specs.declared.given.Given.{Given}
use Rattle.fisca_time.specs.Period.{Span, span_cmp}
use Rattle.fisca_inputs.specs.Overlaps.{shares_day}

-- a value is given for this variable and member, and for a period that shares a day with this one
abbrev pub is_across : ℕ → ℕ → Span → Given → Bool
is_across x m p g = (g.variable == x) && ((g.member == m) && shares_day g.period p)

abbrev pub is_other : Span → Given → Bool
is_other p g = not (eq_by_cmp span_cmp g.period p)

-- some value is
abbrev pub meets : List Given → ℕ → ℕ → Span → Bool
meets gs x m p = list_any (is_across x m p) gs

-- some value is, and its period is not equal to this one
abbrev pub overlaps : List Given → ℕ → ℕ → Span → Bool
overlaps gs x m p = list_any (λ g. is_across x m p g && is_other p g) gs
