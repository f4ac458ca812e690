-- Counts of formulas that gave values.
use Rattle.std.specs.Prelude.{ℕ, ◌+◌, ◌-◌, ◌^◌, ◌==◌, min, if◌then◌else◌}
use Rattle.fisca_evaluator.specs.declared.counts.Counts.{Counts}

-- a count stops at `u64::MAX`
abbrev pub one_more : ℕ → ℕ
one_more count = min (count + 1) (2 ^ 64 - 1)

-- one value more is remembered, which reads these wheels
abbrev pub with_kept : ℕ → Counts → Counts
with_kept reads c = record {
  free = if reads == 0 then one_more c.free else c.free;
  bound = if reads == 0 then c.bound else one_more c.bound;
  lost = c.lost;
}

-- one value more found no memory
abbrev pub with_lost : Counts → Counts
with_lost c = record { free = c.free; bound = c.bound; lost = one_more c.lost }

abbrev pub no_counts : Counts
no_counts = record { free = 0; bound = 0; lost = 0 }
