-- An axis in a situation: an input of its variable, member and period, with the value 0 for that of any step, is put in among those that are given, or in the
-- place of theirs, and all are shared anew.
use Rattle.std.specs.Prelude.{ℕ, List, Bool, Result, Ok}
use Rattle.fisca_inputs.specs.declared.fault.SituationFault.{SituationFault}
use Rattle.fisca_inputs.specs.declared.given.Given.{Given}
use Rattle.fisca_model.specs.declared.key.Key.{Key}
use Rattle.fisca_num.specs.Results.{and_then}
use Rattle.fisca_symbols.specs.declared.tables.Tables.{Tables}
use Rattle.fisca_situations.specs.Situations.{Situation}
use Rattle.fisca_situations.specs.Slots.{Slot}
use Rattle.fisca_situations.specs.Steps.Slots.{slot_of}
use Rattle.fisca_situations.specs.Steps.Axes.{put_in, moved_of, shared_anew}

-- The situation

-- what is given then, the situation, in which neutralised variables have no inputs, and what the axis moves, whose group has a place
pub record Moving : Type 0 where
  pub given : List Given
  pub situation : Situation
  pub slot : Slot

abbrev pub moving : Tables → List Bool → Situation → List Given → ℕ → Given → Result Moving SituationFault
moving c neutral s gs wheel g =
    and_then (shared_anew c neutral s.members (put_in gs g))
    (λ es. Ok (record { given = put_in gs g; situation = record { members = s.members; inputs = es }; slot = slot_of c neutral wheel g }))

abbrev pub with_axis : Tables → List Bool → Situation → List Given → ℕ → Key → Result Moving SituationFault
with_axis c neutral s gs wheel k = and_then (moved_of c s.members gs k) (moving c neutral s gs wheel)
