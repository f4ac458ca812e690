-- Inputs that are of the types of their variables, where an axis takes another value.
use Rattle.std.proofs.Common.{◌≡◌, ℕ, List, Bool, true, false, Option, None, Some, refl, sym, ap, subst, ◌∙◌, if◌then◌else◌}
use Rattle.std.specs.Prelude.{Result, Ok, Err, option_map}
use Rattle.std.specs.List.{list_any}
use Rattle.fisca_inputs.specs.Entries.{Entries, same_key, value_at}
use Rattle.fisca_model.specs.Seen.{value_seen}
use Rattle.fisca_inputs.specs.Typed.{IsValueOf, is_typed}
use Rattle.fisca_model.specs.declared.value.Value.{Value}
use Rattle.fisca_model.specs.declared.value.Value.TheVariants.{Number as number}
use Rattle.fisca_model.specs.declared.key.Key.{Key}
use Rattle.fisca_model.specs.Values as meaning
use Rattle.fisca_model.specs.Tables.{variable_type}
use Rattle.fisca_num.specs.Number.{Number}
use Rattle.fisca_num.specs.declared.faults.NumFault.{NumFault}
use Rattle.fisca_rules.specs.Rules.{known_by}
use Rattle.fisca_slots.proofs.Anew.{looked_set}
use Rattle.fisca_slots.proofs.Parts.{in_parts}
use Rattle.fisca_slots.proofs.Turned.{stand, stand_even}
use Rattle.fisca_slots.proofs.TurnedSlots.{turned_is}
use Rattle.fisca_situations.specs.Slots.{Slot}
use Rattle.fisca_situations.specs.Steps.Slots.{keys_of, share_in, turned}
use Rattle.fisca_simulation.specs.Simulations.{Simulation}
use Rattle.fisca_simulation.specs.Sound.{InputsFit}
use Rattle.fisca_model.specs.Tables.{Tables}
use Rattle.fisca_model.specs.declared.value_type.ValueType.{ValueType}
use Rattle.fisca_model.specs.declared.value_type.ValueType.TheVariants as vt
use Rattle.fisca_evaluator.specs.Evaluators.{turned_by}

none_some : (w : Value) → None ≡ Some w → ⊥
none_some w e = cc

some_same : (x w : Value) → Some x ≡ Some w → x ≡ w
some_same x w e = cc

-- what holds of the old values and of each number at the keys that are set holds of the new values
module _ (P : Value → Type 0) (k : Key) where
  stands : (ks : List Key) (r : Result Number NumFault) (b : Bool) → list_any (same_key k) ks ≡ b → (x : Value) → P x → (b ≡ true → (n : Number) → P (number n)) → P (stand r ks k x)
  stands ks (Ok n) true is x old anew = subst (λ c. P (if c then number n else x)) (sym is) (anew refl n)
  stands ks (Ok n) false is x old anew = subst (λ c. P (if c then number n else x)) (sym is) old
  stands ks (Err f) b is x old anew = old

  holds : (s : Slot) (v : Number) (es : Entries) (w : Value) → value_at (turned s v es) k ≡ Some w → ((x : Value) → value_at es k ≡ Some x → P x)
      → (list_any (same_key k) (keys_of s) ≡ true → (n : Number) → P (number n)) → P w
  holds s v es w at old anew = by (value_at es k) refl (sym looked ∙ at)
    where
      looked : value_at (turned s v es) k ≡ option_map (stand (share_in s v) (keys_of s) k) (value_at es k)
      looked = ap (λ fs. value_at fs k) (turned_is s v es) ∙ looked_set (stand (share_in s v) (keys_of s)) (stand_even (share_in s v) (keys_of s)) es k

      by : (o : Option Value) → value_at es k ≡ o → option_map (stand (share_in s v) (keys_of s) k) o ≡ Some w → P w
      by None is e = absurd (none_some w e)
      by (Some x) is e =
          subst P (some_same (stand (share_in s v) (keys_of s) k x) w e)
          (stands (keys_of s) (share_in s v) (list_any (same_key k) (keys_of s)) refl x (old x is) anew)

-- a variable that has a number for a value has all of them
each_number : (c : Tables) (t : Option ValueType) (m n : Number) → is_typed c t (meaning.number m) ≡ true → is_typed c t (meaning.number n) ≡ true
each_number c None m n h = h
each_number c (Some vt.Number) m n h = refl
each_number c (Some vt.Bool) m n h = h
each_number c (Some (vt.Enum e)) m n h = h

pub turned_fit : (s : Slot) (v : Number) (m : Simulation) → InputsFit m.rules m.situation → (key : Key) (n : Number) → key.variable ≡ s.variable
    → value_at m.situation.inputs key ≡ Some (number n) → InputsFit m.rules (turned_by s v m).situation
turned_fit s v m fit key n own is k w at =
    let c = known_by m.rules in
    holds (λ x. IsValueOf c k.variable (value_seen x)) k s v m.situation.inputs w at (fit k)
    (λ inside more. subst (λ x. IsValueOf c x (meaning.number more)) (own ∙ sym (in_parts k s.variable s.member s.periods inside).0)
    (each_number c (variable_type c key.variable) n more (fit key (number n) is)))

-- the same where the variable has numbers
pub numbers_fit : (s : Slot) (v : Number) (m : Simulation) → variable_type (known_by m.rules) s.variable ≡ Some vt.Number → InputsFit m.rules m.situation
    → InputsFit m.rules (turned_by s v m).situation
numbers_fit s v m numbers fit k w at =
    let c = known_by m.rules in
    holds (λ x. IsValueOf c k.variable (value_seen x)) k s v m.situation.inputs w at (fit k)
    (λ inside more. subst (λ x. IsValueOf c x (meaning.number more)) (sym (in_parts k s.variable s.member s.periods inside).0)
    (subst (λ t. is_typed c t (meaning.number more) ≡ true) (sym numbers) refl))
