-- The order in which given inputs are shared.
use Rattle.std.specs.Prelude.{ℕ, List, [], ◌∷◌, if◌then◌else◌, slice_get, Option, Some, None}
use Rattle.std.specs.Option.{option_cmp}
use Rattle.std.specs.Ordering.{nat_cmp, on, then_cmp, is_lt}
use Rattle.std.specs.declared.cmp.Ordering.{Ordering}
use Rattle.fisca_time.specs.Instant.{date_cmp}
use Rattle.fisca_time.specs.Period.{Span, days_of, months_of, start_of, unit_of}
use Rattle.fisca_time.specs.Unit.{is_day, unit_cmp}
use Rattle.fisca_time.specs.declared.unit.Unit.{Unit}
use Rattle.fisca_inputs.specs.Rules.{Rule}
use Rattle.fisca_inputs.specs.declared.given.Given.{Given}

-- in days for a variable of days, in months for all others
abbrev pub length_by : Unit → Span → ℕ
length_by unit p = if is_day unit then days_of p else months_of p

abbrev pub length_for : Option Rule → Span → ℕ
length_for None p = 0
length_for (Some r) p = length_by r.unit p

abbrev pub length_of : List Rule → Given → ℕ
length_of rules g = length_for (slice_get rules g.variable) g.period

-- by length, then start, then unit, the smaller first
abbrev pub given_cmp : List Rule → Given → Given → Ordering
given_cmp rules =
    then_cmp (on (length_of rules) nat_cmp) (then_cmp (on (λ g. start_of g.period) (option_cmp date_cmp)) (on (λ g. unit_of g.period) unit_cmp))

-- behind those that do not come after it
abbrev pub put_in_order : List Rule → Given → List Given → List Given
put_in_order rules g [] = g ∷ []
put_in_order rules g (h ∷ hs) = if is_lt (given_cmp rules g h) then g ∷ h ∷ hs else h ∷ put_in_order rules g hs

abbrev pub in_order_with : List Rule → List Given → List Given → List Given
in_order_with rules sorted [] = sorted
in_order_with rules sorted (g ∷ gs) = in_order_with rules (put_in_order rules g sorted) gs

-- the shorter first; those that the order does not tell apart stay in the order of the file
abbrev pub in_order : List Rule → List Given → List Given
in_order rules gs = in_order_with rules [] gs
