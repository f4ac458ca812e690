-- Numerators that are merged, taken out and put over a larger denominator.
use Rattle.std.specs.Prelude.{◌≡◌, ℕ, ◌<◌, ℤ, pos, ◌*ℤ◌, List, map, length, cond, Bool}
use Rattle.fisca_vectors.specs.Vectors.{flag}
use Rattle.fisca_vectors.specs.Numerators.{at}

unfoldable pub merged_of : ℕ → ℕ → Bool → ℤ → ℤ → ℤ
merged_of f g flag x y = cond flag (x *ℤ pos f) (y *ℤ pos g)

-- `made` has the left numerator, brought by f, where the flag is true, and the right one, brought by g, elsewhere
pub record IsMerged (f g : ℕ) (flags : List Bool) (left right made : List ℤ) : Type 0 where
  pub lanes : length made ≡ length left
  pub each : (k : ℕ) → k < length left → at made k ≡ merged_of f g (flag flags k) (at left k) (at right k)

-- the numerators over a denominator that is f times as large
abbrev pub widened : ℕ → List ℤ → List ℤ
widened f ns = map (λ n. n *ℤ pos f) ns
