-- Situations in which only inputs of a wheel's variables are others.
use Rattle.std.proofs.Common.{◌≡◌, ℕ, Option, None, Some, refl, sym, ap, subst, ◌∙◌}
use Rattle.fisca_inputs.specs.Entries.{Entries, value_at}
use Rattle.fisca_model.specs.Seen.{key_of}
use Rattle.fisca_model.specs.declared.value.Value.{Value}
use Rattle.fisca_model.specs.Values.{Key}
use Rattle.fisca_num.specs.Number.{Number}
use Rattle.fisca_slots.proofs.TurnedSlots.{turned_other}
use Rattle.fisca_situations.specs.Steps.Slots as slots
use Rattle.fisca_situations.specs.Slots.{Slot}
use Rattle.fisca_simulation.specs.Simulations.{Simulation, computed, formula_of, given_or_computed, source_of, sources, variable_of}
use Rattle.fisca_typing.specs.Formulas.{Formula}
use Rattle.fisca_symbols.specs.declared.variable.Variable.{Variable}
use Rattle.fisca_evaluator.specs.Evaluators.{AreMarked, IsStill, IsTurned, turned_by}

module _ (marks : Key → ℕ) (wheel : ℕ) (old new : Simulation) (turned : IsTurned marks wheel old new) where
  -- the old rule set and the old members with the new inputs
  abbrev between : Simulation
  between = record { rules = old.rules; situation = record { members = old.situation.members; inputs = new.situation.inputs }; neutral = old.neutral }

  same : new ≡ between
  same = λ i. record { rules = turned.rules i; situation = record { members = turned.members i; inputs = new.situation.inputs }; neutral = turned.neutral i }

  same_computed : (k : Key) (v : Variable) (f : Option Formula) → computed between v k f ≡ computed old v k f
  same_computed k v None = refl
  same_computed k v (Some f) = refl

  same_given : (k : Key) (v : Variable) (o : Option Value) → given_or_computed between v k o ≡ given_or_computed old v k o
  same_given k v None = same_computed k v (formula_of old.rules old.neutral v k)
  same_given k v (Some x) = refl

  same_source : (k : Key) → value_at new.situation.inputs (key_of k) ≡ value_at old.situation.inputs (key_of k) → (o : Option Variable) → source_of between k o ≡ source_of old k o
  same_source k e None = refl
  same_source k e (Some v) = ap (given_or_computed between v k) e ∙ same_given k v (value_at old.situation.inputs (key_of k))

  pub turned_still : IsStill marks wheel old new
  turned_still k away = ap (λ m. sources m k) same ∙ same_source k (turned.inputs k away) (variable_of old.rules k)

-- An axis takes another value

pub slot_turned : (marks : Key → ℕ) (s : Slot) (v : Number) (m : Simulation) → AreMarked marks s → IsTurned marks s.wheel m (turned_by s v m)
slot_turned marks s v m marked = record {
  rules = refl;
  members = refl;
  neutral = refl;
  inputs = λ k away. turned_other s v m.situation.inputs (key_of k) (λ own. away (marked k own));
}

-- a simulation with other inputs
abbrev pub with_inputs : Simulation → Entries → Simulation
with_inputs m es = record { rules = m.rules; situation = record { members = m.situation.members; inputs = es }; neutral = m.neutral }

pub slot_still : (marks : Key → ℕ) (s : Slot) (v : Number) (old new : Simulation) (es : Entries) → AreMarked marks s → new ≡ old → es ≡ slots.turned s v new.situation.inputs
    → IsStill marks s.wheel old (with_inputs new es)
slot_still marks s v old new es marked stays anew =
    let is : with_inputs new es ≡ turned_by s v old = ap (with_inputs new) anew ∙ ap (turned_by s v) stays in
    subst (IsStill marks s.wheel old) (sym is) (turned_still marks s.wheel old (turned_by s v old) (slot_turned marks s v old marked))
