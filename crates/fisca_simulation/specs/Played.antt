-- How a noted dialogue ends where keys are answered, and what it needs on the way, in order.
use Rattle.std.specs.Prelude.{◌≡◌, List, [], ◌∷◌, ◌++◌, Option, Some, None, Result, Ok, Err}
use Rattle.fisca_model.specs.Seen.{key_of, value_seen}
use Rattle.fisca_model.specs.Values.{Value, Key}
use Rattle.fisca_model.specs.declared.value.Value.{Value as Given}
use Rattle.fisca_key_semantics.specs.Dialogues.{OperationFault}
use Rattle.fisca_ops.specs.Ended.{fault_seen}
use Rattle.fisca_simulation.specs.Noted.{Noted, gives, fails, stuck, asks, reads}
use Rattle.fisca_simulation.specs.declared.note.Halted.{Halted}
use Rattle.fisca_simulation.specs.declared.note.Halted.TheVariants as halted
use Rattle.fisca_simulation.specs.declared.note.Note.{Note}
use Rattle.fisca_simulation.specs.declared.note.Note.TheVariants as note

pub data End : Type 0 where
  value : Value → End
  fault : OperationFault → End
  -- the key that is asked for last has no value
  unanswered : End
  -- no formula of a rule set comes to this
  nowhere : End

pub record Played : Type 0 where
  pub notes : List Note
  pub end : End

abbrev pub after : Note → Played → Played
after n p = record { notes = n ∷ p.notes; end = p.end }

abbrev pub on_answer : Option Value → (Value → Played) → Played
on_answer None f = record { notes = []; end = unanswered }
on_answer (Some v) f = f v

-- W says the value of a key, where it has one
abbrev pub played : (Key → Option Value) → Noted → Played
played W (gives v) = record { notes = []; end = value v }
played W (fails e) = record { notes = []; end = fault e }
played W stuck = record { notes = []; end = nowhere }
played W (asks k go) = after (note.Asked (key_of k)) (on_answer (W k) (λ v. played W (go v)))
played W (reads r d) = after (note.Read r) (played W d)

abbrev pub IsSomewhere : End → Type 0
IsSomewhere (value v) = Unit {0}
IsSomewhere (fault e) = Unit {0}
IsSomewhere unanswered = Unit {0}
IsSomewhere nowhere = ⊥

-- it comes to a value, to a fault, or to a key that has no value
abbrev pub Moves : (Key → Option Value) → Noted → Type 0
Moves W d = IsSomewhere (played W d).end

-- what was noted before, and then what is needed, up to the end
abbrev pub Ends : End → List Note → List Note → Played → Type 0
Ends e old new p = (p.end ≡ e) × (new ≡ old ++ p.notes)

abbrev pub Plays : Result Given Halted → List Note → List Note → Played → Type 0
Plays (Ok v) old new p = Ends (value (value_seen v)) old new p
Plays (Err (halted.Fault e)) old new p = Ends (fault (fault_seen e)) old new p
Plays (Err halted.Unanswered) old new p = Ends unanswered old new p
-- want of memory tells nothing
Plays (Err halted.Memory) old new p = Unit {0}
