-- Values are of the types of their variables, and no operand is of a wrong one, where the sources are sound.
use Rattle.std.proofs.Common.{◌≡◌, ap, sym, subst, ◌∙◌, ℕ, zero, suc, Option, Some, None, refl}
use Rattle.std.specs.Prelude.{Result, Ok, Err}
use Rattle.fisca_key_semantics.proofs.Fuel.{within_zero, within_suc}
use Rattle.fisca_key_semantics.specs.Answers.{Halt, fault, out, Source, Sources, refused, known, formula, Oracle, outcome, through, at_once, from_source, value_within, settled, answer, verdict, verdict_by, first_again}
use Rattle.fisca_key_semantics.specs.Inquiry.{of_key}
use Rattle.fisca_key_semantics.specs.Inquiry as inquiry
use Rattle.fisca_model.specs.Causes as why
use Rattle.fisca_inputs.proofs.Typed.{then_ok}
use Rattle.fisca_inputs.specs.Typed.{IsValueOf}
use Rattle.fisca_model.specs.Values.{Value, Key}
use Rattle.fisca_key_semantics.specs.Dialogues.{Dialogue, gives, fails, stuck, asks}
use Rattle.fisca_key_semantics.specs.Dialogues as d
use Rattle.fisca_model.specs.Tables.{variable_type}
use Rattle.fisca_num.specs.Results.{and_then}
use Rattle.fisca_model.specs.Tables.{Tables}
use Rattle.fisca_simulation.specs.Sound.{GivesOnly, IsSound, AreSound}
use Rattle.fisca_simulation.proofs.Casts.{typed_is_of}

through_ok : (key : Key) (r : Result Value Halt) (v : Value) → through key r ≡ Ok v → r ≡ Ok v
through_ok key (Ok w) v h = cc
through_ok key (Err (fault f)) v h = cc
through_ok key (Err (out chain)) v h = cc

module _ (c : Tables) (src : Sources) (sound : AreSound c src) where
  abbrev Fits : Oracle → Type 0
  Fits W = (k : Key) (v : Value) → W k ≡ Ok v → IsValueOf c k.variable v

  outcome_fits : (W : Oracle) → Fits W → (key : Key) (P : Value → Type 0) (e : Dialogue) → GivesOnly c P e → (v : Value) → outcome W (of_key key e) ≡ Ok v → P v
  outcome_fits W fit key P (gives w) g v h = let same : w ≡ v = cc in subst P same g
  outcome_fits W fit key P (fails f) g v h = cc
  outcome_fits W fit key P stuck g v h = absurd g
  outcome_fits W fit key P (asks k f) g v h =
      let one = then_ok (W k) (λ w. outcome W (of_key key (f w))) v h in
      outcome_fits W fit key P (f one.0) (g.2 one.0 (typed_is_of c (variable_type c k.variable) g.0 one.0 g.1 (fit k one.0 one.1))) v one.2

  pub values_fit : (n : ℕ) → Fits (value_within src n)
  values_fit zero k v h = by (src k) (sym (within_zero src k) ∙ h)
    where
      by : (s : Source) → at_once s k ≡ Ok v → IsValueOf c k.variable v
      by refused e = cc
      by (known w) e = cc
      by (formula q) e = cc
  values_fit (suc n) k v h = by (values_fit n) (src k) (sound k) (sym (within_suc src n k) ∙ h)
    where
      by : Fits (value_within src n) → (s : Source) → IsSound c k s → from_source s k (value_within src n) ≡ Ok v → IsValueOf c k.variable v
      by fit refused t e = cc
      by fit (known w) t e = let same : w ≡ v = cc in subst (IsValueOf c k.variable) same t
      by fit (formula q) t e =
          let out : outcome (value_within src n) q ≡ Ok v = through_ok k (outcome (value_within src n) q) v e in
          outcome_fits (value_within src n) fit k (IsValueOf c k.variable) t.0 t.2 v (ap (outcome (value_within src n)) (sym t.1) ∙ out)

  pub answers_fit : (k : Key) (v : Value) → answer src k ≡ Ok v → IsValueOf c k.variable v
  unfolding answer
  answers_fit k v h = by (value_within src 100 k) refl h
    where
      by : (r : Result Value Halt) → value_within src 100 k ≡ r → settled k r ≡ Ok v → IsValueOf c k.variable v
      by (Ok w) e q = let same : w ≡ v = cc in values_fit 100 k v (e ∙ ap (λ x. Ok x) same)
      by (Err (fault f)) e q = cc
      by (Err (out chain)) e q = cc

  -- Operands

  abbrev Moves : Oracle → Type 0
  Moves W = (k : Key) (f : why.Fault) → W k ≡ Err (fault f) → f.cause ≡ why.stuck → ⊥

  own_fault : (key : Key) (e : d.OperationFault) → (inquiry.named key e).cause ≡ why.stuck → ⊥
  own_fault key d.zero_divisor h = cc
  own_fault key d.too_wide h = cc
  own_fault key d.parameter_undefined h = cc
  own_fault key d.bad_scale h = cc
  own_fault key d.no_member h = cc
  own_fault key (d.period_mismatch k) h = cc
  own_fault key d.period_out_of_range h = cc

  same_cause : (f g : why.Fault) → ◌≡◌ {A = Result Value Halt} (Err (fault f)) (Err (fault g)) → g.cause ≡ why.stuck → f.cause ≡ why.stuck
  same_cause f g h s = let same : f ≡ g = cc in ap (λ (x : why.Fault). x.cause) same ∙ s

  outcome_moves : (W : Oracle) → Fits W → Moves W → (key : Key) (P : Value → Type 0) (e : Dialogue) → GivesOnly c P e → (f : why.Fault) → outcome W (of_key key e) ≡ Err (fault f)
      → f.cause ≡ why.stuck → ⊥
  outcome_moves W fit move key P (gives w) g f h s = cc
  outcome_moves W fit move key P (fails x) g f h s = own_fault key x (same_cause (inquiry.named key x) f h s)
  outcome_moves W fit move key P stuck g f h s = absurd g
  outcome_moves W fit move key P (asks k go) g f h s =
      by (λ v a q. outcome_moves W fit move key P (go v) (g.2 v (typed_is_of c (variable_type c k.variable) g.0 v g.1 (fit k v a))) f q s) (W k) refl h
    where
      by : ((v : Value) → W k ≡ Ok v → outcome W (of_key key (go v)) ≡ Err (fault f) → ⊥) → (r : Result Value Halt) → W k ≡ r → and_then r (λ v. outcome W (of_key key (go v))) ≡ Err (fault f) → ⊥
      by more (Ok v) a q = more v a q
      by more (Err (fault x)) a q = move k x a (same_cause x f q s)
      by more (Err (out chain)) a q = cc

  pub values_move : (n : ℕ) → Moves (value_within src n)
  values_move zero k f h s = by (src k) (sym (within_zero src k) ∙ h)
    where
      by : (x : Source) → at_once x k ≡ Err (fault f) → ⊥
      by refused e = let stuck_there : why.period_mismatch ≡ why.stuck = same_cause (why.fault_at why.period_mismatch k) f e s in cc
      by (known w) e = cc
      by (formula q) e = cc
  values_move (suc n) k f h s = by (values_move n) (src k) (sound k) (sym (within_suc src n k) ∙ h)
    where
      through_fault : (r : Result Value Halt) → through k r ≡ Err (fault f) → r ≡ Err (fault f)
      through_fault (Ok w) q = cc
      through_fault (Err (fault g)) q = q
      through_fault (Err (out chain)) q = cc

      by : Moves (value_within src n) → (x : Source) → IsSound c k x → from_source x k (value_within src n) ≡ Err (fault f) → ⊥
      by move refused t e = let stuck_there : why.period_mismatch ≡ why.stuck = same_cause (why.fault_at why.period_mismatch k) f e s in cc
      by move (known w) t e = cc
      by move (formula q) t e =
          let out : outcome (value_within src n) q ≡ Err (fault f) = through_fault (outcome (value_within src n) q) e in
          outcome_moves (value_within src n) (values_fit n) move k (IsValueOf c k.variable) t.0 t.2 f (ap (outcome (value_within src n)) (sym t.1) ∙ out) s

  pub answers_move : (k : Key) (f : why.Fault) → answer src k ≡ Err f → f.cause ≡ why.stuck → ⊥
  unfolding answer
  answers_move k f h s = by (value_within src 100 k) refl h
    where
      same_told : (g : why.Fault) → ◌≡◌ {A = Result Value why.Fault} (Err g) (Err f) → g.cause ≡ why.stuck
      same_told g q = let same : g ≡ f = cc in ap (λ (x : why.Fault). x.cause) same ∙ s

      by_again : (o : Option Key) → (verdict_by o k).cause ≡ why.stuck → ⊥
      by_again None q = cc
      by_again (Some j) q = cc

      by : (r : Result Value Halt) → value_within src 100 k ≡ r → settled k r ≡ Err f → ⊥
      by (Ok w) e q = cc
      by (Err (fault g)) e q = values_move 100 k g e (same_told g q)
      by (Err (out chain)) e q = by_again (first_again chain) (same_told (verdict k chain) q)
