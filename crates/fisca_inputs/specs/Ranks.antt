-- Ranks of given inputs, as the code has them.
use Rattle.std.specs.Prelude.{ℕ, Option}
use Rattle.std.specs.Option.{option_cmp}
use Rattle.std.specs.Ordering.{nat_cmp, ordering_then}
use Rattle.std.specs.declared.cmp.Ordering.{Ordering}
use Rattle.fisca_time.specs.Instant.{CivilDate, date_cmp}
use Rattle.fisca_time.specs.Unit.{unit_cmp}
use Rattle.fisca_time.specs.declared.unit.Unit.{Unit}

-- length, start, unit and place
abbrev pub Rank : Type 0
Rank = ℕ × (Option CivilDate × (Unit × ℕ))

abbrev pub rank_cmp : Rank → Rank → Ordering
rank_cmp a b = ordering_then (nat_cmp a.0 b.0) (ordering_then (option_cmp date_cmp a.1.0 b.1.0) (ordering_then (unit_cmp a.1.1.0 b.1.1.0) (nat_cmp a.1.1.1 b.1.1.1)))
