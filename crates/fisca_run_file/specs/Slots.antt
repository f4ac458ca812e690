-- What the axes of a run file move, and what stands at these keys where the axes have values.
use Rattle.std.specs.Prelude.{ℕ, List}
use Rattle.fisca_grid.specs.Grid.{counts_of}
use Rattle.fisca_writer.specs.Odometer.{places_at}
use Rattle.fisca_run_file.specs.RunFiles.{RunFile}

-- Places

-- the places of the groups at a position
abbrev pub places_of : RunFile → ℕ → List ℕ
places_of f position = places_at (counts_of f.groups) position
