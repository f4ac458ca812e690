-- The steps of code behind `Groups`:
-- The places of groups of axes, by how many axes each has.
use Rattle.std.specs.Prelude.{ℕ, suc, List, [], ◌∷◌, ◌++◌}
use Rattle.fisca_run_file.specs.Groups.{so_many}

-- for each axis of groups of these lengths the place of its group, where the first group has this one
abbrev pub wheels_by : ℕ → List ℕ → List ℕ
wheels_by wheel [] = []
wheels_by wheel (n ∷ ns) = so_many n wheel ++ wheels_by (suc wheel) ns
