-- The places of groups of axes, by how many axes each has.
use Rattle.std.specs.Prelude.{ℕ, zero, suc, List, [], ◌∷◌}

abbrev pub so_many : ℕ → ℕ → List ℕ
so_many zero wheel = []
so_many (suc count) wheel = wheel ∷ so_many count wheel
