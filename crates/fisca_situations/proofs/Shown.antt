-- Values as examples write them, and months.
use Rattle.std.proofs.Common.{ℕ, ◌+◌, ◌-◌, ◌*◌}
use Rattle.std.specs.Prelude.{ℤ, Bool}
use Rattle.fisca_model.specs.declared.value.Value.{Value}
use Rattle.fisca_model.specs.declared.value.Value.TheVariants as v
use Rattle.fisca_time.specs.Period.{Span, months}
use Rattle.fisca_time.specs.declared.unit.Unit.TheVariants as unit

pub data Shown : Type 0 where
  number : ℤ → ℕ → Shown
  bool : Bool → Shown
  member : ℕ → Shown

abbrev pub shown : Value → Shown
shown (v.Number n) = number n.numerator n.denominator
shown (v.Bool b) = bool b
shown (v.Member i) = member i

abbrev pub month : ℕ → ℕ → Span
month year m = months unit.Month (12 * year + (m - 1)) 1

abbrev pub january : Span
january = month 2017 1
