-- The steps of code behind `Slots`:
-- What the axes of a run file move, and what stands at these keys where the axes have values.
use Rattle.std.specs.Prelude.{ℕ, List, [], ◌∷◌, Bool}
use Rattle.fisca_inputs.specs.declared.given.Given.{Given}
use Rattle.fisca_run_file.specs.RunFiles.{RunFile}
use Rattle.fisca_situations.specs.Slots.{Slot}
use Rattle.fisca_situations.specs.Steps.Slots.{slot_of}
use Rattle.fisca_symbols.specs.declared.tables.Tables.{Tables}
use Rattle.fisca_slots.specs.Turning.{wheels_from}

abbrev pub slots_with : Tables → List Bool → List ℕ → List Given → List Slot
slots_with c neutral [] gs = []
slots_with c neutral (wheel ∷ wheels) [] = []
slots_with c neutral (wheel ∷ wheels) (g ∷ gs) = slot_of c neutral wheel g ∷ slots_with c neutral wheels gs

-- what its axes move, in their order
abbrev pub slots_of : Tables → RunFile → List Slot
slots_of c f = slots_with c f.neutral (wheels_from 0 f.groups) f.moved
