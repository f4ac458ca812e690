-- A loop that goes on behind what was noted: each turn asks, makes something of the answer, and leaves the rest.
use Rattle.std.proofs.Common.{◌≡◌, ℕ, List, ◌∷◌, ◌++◌, Option, Some, None, Result, Ok, Err, true, false, refl, ap, ◌∙◌, append_assoc}
use Rattle.fisca_num.specs.Number.{zero_number}
use Rattle.fisca_model.specs.Seen.{value_seen}
use Rattle.fisca_model.specs.Values.{Value, Key, number, bool}
use Rattle.fisca_model.specs.declared.value.Value.{Value as Given}
use Rattle.fisca_key_semantics.specs.Dialogues.{Dialogue}
use Rattle.fisca_ops.specs.Ended.{IsMoving, ended}
use Rattle.fisca_ops.specs.declared.fault.OperationFault.{OperationFault}
use Rattle.fisca_ops.specs.Steps.Totals.{beginning}
use Rattle.fisca_ops.specs.Totals.{step_of}
use Rattle.fisca_typing.specs.declared.operations.Total.{Total}
use Rattle.fisca_typing.specs.declared.operations.Total.TheVariants as total
use Rattle.fisca_simulation.specs.NotedFormulas.{from_first, in_turn, total_over}
use Rattle.fisca_simulation.specs.Noted.{Noted, behind, unread}
use Rattle.fisca_simulation.specs.Played.{Moves, Plays, played, value}
use Rattle.fisca_simulation.specs.declared.note.Halted.{Halted}
use Rattle.fisca_simulation.specs.declared.note.Note.{Note}
use Rattle.fisca_simulation.proofs.Playing.{Leads, leads_end, leads_moving, leads_next, leads_same, moves_first}
use Rattle.fisca_simulation.proofs.FollowedSteps.{at_once, moving_of}

-- what is left moves, goes on with a value, or ends the whole
module _ (W : Key → Option Value) (whole left d : Noted) (f : Value → Noted) (done first notes : List Note) (lead : Leads W whole done left) (is : left ≡ behind d f) (noted : notes ≡ first ++ done) where
  begun : Leads W whole done (behind d f)
  begun = leads_same W whole left (behind d f) done is lead

  pub left_moving : Moves W whole → Moves W d
  left_moving moves = moves_first W d f (leads_moving W whole (behind d f) done begun moves)

  pub goes_on : (v : Given) (mid : List Note) → Plays (Ok v) notes mid (played W d) → (now : List Note) × (mid ≡ first ++ now) × Leads W whole now (f (value_seen v))
  goes_on v mid answered = (
    done ++ (played W d).notes,
    answered.1 ∙ ap (λ ns. ns ++ (played W d).notes) noted ∙ append_assoc first done (played W d).notes,
    leads_next W whole d f (value_seen v) done begun answered.0,
  )

  pub ends_there : (h : Halted) (new : List Note) → Plays (Err h) notes new (played W d) → Plays (Err h) first new (played W whole)
  ends_there h new q = leads_end W whole d f h done first notes new begun noted q

-- what is made of the answer, and what is left then
abbrev pub turn : Noted → (Value → Dialogue) → (Value → Noted) → Noted
turn question f rest = behind question (λ x. behind (unread (f x)) rest)

module _ (W : Key → Option Value) (whole question left : Noted) (f : Value → Dialogue) (rest : Value → Noted) (done first notes : List Note) (lead : Leads W whole done left) (is : left ≡ turn question f rest) (noted : notes ≡ first ++ done) where
  pub turn_moving : Moves W whole → Moves W question
  turn_moving moves = left_moving W whole left question (λ x. behind (unread (f x)) rest) done first notes lead is noted moves

  pub turn_ends : (h : Halted) (new : List Note) → Plays (Err h) notes new (played W question) → Plays (Err h) first new (played W whole)
  turn_ends h new q = ends_there W whole left question (λ x. behind (unread (f x)) rest) done first notes lead is noted h new q

  module _ (x : Given) (mid : List Note) (answered : Plays (Ok x) notes mid (played W question)) where
    on : (now : List Note) × (mid ≡ first ++ now) × Leads W whole now (behind (unread (f (value_seen x))) rest)
    on = goes_on W whole left question (λ y. behind (unread (f y)) rest) done first notes lead is noted x mid answered

    pub step_moving : Moves W whole → IsMoving (f (value_seen x))
    step_moving moves = moving_of W (f (value_seen x)) (moves_first W (unread (f (value_seen x))) rest (leads_moving W whole (behind (unread (f (value_seen x))) rest) on.0 on.2 moves))

    pub step_ends : (h : Halted) (out : Result Given OperationFault) → ended out ≡ f (value_seen x) → ((w : Key → Option Value) (ns : List Note) → Plays (Err h) ns ns (played w (unread (ended out)))) → Plays (Err h) first mid (played W whole)
    step_ends h out e all = leads_end W whole (unread (f (value_seen x))) rest h on.0 first mid mid on.2 on.1 (at_once W (Err h) out (f (value_seen x)) mid e all)

    pub step_value : (y : Given) (out : Result Given OperationFault) → ended out ≡ f (value_seen x) → ((w : Key → Option Value) (ns : List Note) → Plays (Ok y) ns ns (played w (unread (ended out)))) → (played W (unread (f (value_seen x)))).end ≡ value (value_seen y)
    step_value y out e all = (at_once W (Ok y) out (f (value_seen x)) mid e all).0

    pub step_next : (y : Given) (out : Result Given OperationFault) → ended out ≡ f (value_seen x) → ((w : Key → Option Value) (ns : List Note) → Plays (Ok y) ns ns (played w (unread (ended out))))
        → (now : List Note) × (mid ≡ first ++ now) × Leads W whole now (rest (value_seen y))
    step_next y out e all =
        let once = at_once W (Ok y) out (f (value_seen x)) mid e all in
        let told = (played W (unread (f (value_seen x)))).notes in (
          on.0 ++ told,
          once.1 ∙ ap (λ ns. ns ++ told) on.1 ∙ append_assoc first on.0 told,
          leads_next W whole (unread (f (value_seen x))) rest (value_seen y) on.0 on.2 once.0,
        )

-- one person more
pub person_is : (step : Value → Value → Dialogue) (each : ℕ → Noted) (m : ℕ) (ms left : List ℕ) (sum : Value) → left ≡ m ∷ ms → in_turn step each left sum ≡ turn (each m) (step sum) (in_turn step each ms)
person_is step each m ms left sum is = ap (λ qs. in_turn step each qs sum) is

-- totals that begin with the first person, and those that begin with a value
pub total_first : (o : Total) (each : ℕ → Noted) (ms : List ℕ) → beginning o ≡ None → total_over o each ms ≡ from_first (step_of o) each ms
total_first total.Sum each ms e = absurd cc
total_first total.Min each ms e = refl
total_first total.Max each ms e = refl
total_first total.Any each ms e = absurd cc
total_first total.All each ms e = absurd cc

pub total_turn : (o : Total) (each : ℕ → Noted) (ms : List ℕ) (v : Value) → beginning o ≡ Some v → total_over o each ms ≡ in_turn (step_of o) each ms v
total_turn total.Sum each ms v e = let same : number zero_number ≡ v = cc in ap (in_turn (step_of total.Sum) each ms) same
total_turn total.Min each ms v e = absurd cc
total_turn total.Max each ms v e = absurd cc
total_turn total.Any each ms v e = let same : bool false ≡ v = cc in ap (in_turn (step_of total.Any) each ms) same
total_turn total.All each ms v e = let same : bool true ≡ v = cc in ap (in_turn (step_of total.All) each ms) same
