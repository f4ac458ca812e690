-- The situation of a run file at a position of its grid: there the inputs that its axes move have the values of the axes.
use Rattle.std.specs.Prelude.{◌≡◌, ℕ, List, Option, option_map, Result, Ok}
use Rattle.fisca_inputs.specs.declared.fault.SituationFault.{SituationFault}
use Rattle.fisca_inputs.specs.declared.given.Given.{Given}
use Rattle.fisca_num.specs.Results.{and_then}
use Rattle.fisca_situations.specs.Situations.{Situation}
use Rattle.fisca_symbols.specs.declared.tables.Tables.{Tables}
use Rattle.fisca_run_file.specs.RunFiles.{RunFile}
use Rattle.fisca_run_file.specs.Steps.Positions.{moved_by, inputs_with}

-- Values

abbrev pub moved_at : Tables → RunFile → ℕ → Option (List Given)
moved_at c f position = moved_by c f.groups f.moved position

-- Situations

abbrev pub situation_with : Tables → RunFile → List Given → Result Situation SituationFault
situation_with c f moved = and_then (inputs_with c f moved) (λ es. Ok (record { members = f.members; inputs = es }))

-- the situation with which a run begins: the axes have the values with which the file was read
abbrev pub IsBeginning : Tables → RunFile → Situation → Type 0
IsBeginning c f s = situation_with c f f.moved ≡ Ok s

abbrev pub situation_at : Tables → RunFile → ℕ → Option (Result Situation SituationFault)
situation_at c f position = option_map (situation_with c f) (moved_at c f position)
