-- What an evaluator answers, as the code has it, is the answer of the key.
use Rattle.std.proofs.Common.{◌≡◌, Option, Some, None, Result, Ok, Err, refl, sym, ap, ◌∙◌}
use Rattle.std.specs.Prelude.{◌≢◌}
use Rattle.fisca_key_semantics.specs.Answers.{answer}
use Rattle.fisca_model.specs.Causes as inquiry
use Rattle.fisca_model.specs.Causes.{Cause, Fault}
use Rattle.fisca_model.specs.Seen.{key_of, key_seen, value_seen}
use Rattle.fisca_model.specs.declared.value.Value.{Value}
use Rattle.fisca_model.specs.declared.key.Key.{Key}
use Rattle.fisca_model.specs.Values as meaning
use Rattle.fisca_simulation.specs.Simulations.{Simulation, normal_key, sources}
use Rattle.fisca_model.specs.EvalFaults.{IsAnswer, told}
use Rattle.fisca_simulation.proofs.Steps.{is_told}
use Rattle.fisca_simulation.specs.Told.{as_told, fault_of, told_in, value_of}
use Rattle.fisca_model.specs.declared.eval_fault.EvalFault.TheVariants as fault

-- What a row answers

-- What is told

back_seen : (x : meaning.Value) → x ≡ value_seen (value_of x)
back_seen (meaning.number n) = refl
back_seen (meaning.bool b) = refl
back_seen (meaning.member i) = refl

told_back : (c : Cause) (k : meaning.Key) → c ≢ inquiry.stuck → told (fault_of c (key_of k)) ≡ Some (inquiry.fault_at c k)
told_back inquiry.zero_divisor k h = refl
told_back inquiry.too_wide k h = refl
told_back inquiry.parameter_undefined k h = refl
told_back inquiry.bad_scale k h = refl
told_back inquiry.no_member k h = refl
told_back inquiry.period_mismatch k h = refl
told_back inquiry.period_out_of_range k h = refl
told_back inquiry.cycle k h = refl
told_back inquiry.too_deep k h = refl
told_back inquiry.stuck k h = absurd (h refl)

abbrev IsMoving : Result meaning.Value Fault → Type 0
IsMoving a = (f : Fault) → a ≡ Err f → f.cause ≢ inquiry.stuck

told_so : (a : Result meaning.Value Fault) → IsMoving a → IsAnswer a (as_told a)
told_so (Ok x) h = ap Ok (back_seen x)
told_so (Err f) h = is_told (told (fault_of f.cause (key_of f.key))) f (Err f) (told_back f.cause f.key (h f refl)) refl

some_none : (f : Fault) → ◌≡◌ {A = Option Fault} (Some f) None → ⊥
some_none f e = cc

never_memory : (a : Result meaning.Value Fault) → IsMoving a → as_told a ≢ Err fault.Memory
never_memory (Ok x) h e = cc
never_memory (Err f) h e =
    let same : fault_of f.cause (key_of f.key) ≡ fault.Memory = cc in
    some_none f (sym (told_back f.cause f.key (h f refl)) ∙ ap told same)

module _ (m : Simulation) (moving : (k : meaning.Key) → IsMoving (answer (sources m) k)) (key : Key) where
  pub is_answer : IsAnswer (answer (sources m) (normal_key m.rules (key_seen key))) (told_in m key)
  is_answer = told_so (answer (sources m) (normal_key m.rules (key_seen key))) (moving (normal_key m.rules (key_seen key)))

  pub is_no_want : told_in m key ≢ Err fault.Memory
  is_no_want = never_memory (answer (sources m) (normal_key m.rules (key_seen key))) (moving (normal_key m.rules (key_seen key)))
