-- The steps of a key's work.
use Rattle.std.proofs.Common.{◌≡◌, suc, ◌<◌, List, [], ◌∷◌, ◌++◌, length, map, Option, Some, Result, Ok, Err, refl, sym, ap, subst, ◌∙◌, arith}
use Rattle.fisca_key_semantics.specs.Answers.{Oracle, outcome, value_within, verdict}
use Rattle.fisca_key_semantics.specs.Chains.{asked}
use Rattle.fisca_model.specs.Causes.{Fault}
use Rattle.fisca_key_semantics.specs.Inquiry.{Inquiry, of_key, named}
use Rattle.fisca_key_semantics.specs.Stacks.{first_of, left_below, ends_below, IsAskable}
use Rattle.fisca_key_semantics.proofs.Below.{below_ok, below_full, below_known, below_formula, left_fault, asked_more, asked_less}
use Rattle.fisca_check.specs.Formulas.{formula_view}
use Rattle.fisca_check.specs.declared.formula.TypedFormula.{TypedFormula}
use Rattle.fisca_model.specs.Seen.{key_seen, value_seen}
use Rattle.fisca_inputs.specs.Typed.{IsValueOf}
use Rattle.fisca_model.specs.declared.value.Value.{Value as Given}
use Rattle.fisca_model.specs.declared.key.Key.{Key}
use Rattle.fisca_machine.specs.Running.{before}
use Rattle.fisca_machine.specs.Context.{tables, groups}
use Rattle.fisca_key_semantics.specs.Dialogues as meaning
use Rattle.fisca_model.specs.Values.{Value}
use Rattle.fisca_key_semantics.specs.Dialogues.{Dialogue, gives, fails, stuck, asks}
use Rattle.fisca_typing.specs.Meaning.{formula_means}
use Rattle.fisca_model.specs.Tables.{variable_type}
use Rattle.fisca_simulation.specs.Simulations.{start_point}
use Rattle.fisca_simulation.specs.Sound.{GivesOnly, AreSound}
use Rattle.fisca_simulation.proofs.Casts.{typed_is_of}
use Rattle.fisca_simulation.proofs.SourceLookups.{sources_sound}
use Rattle.fisca_simulation.proofs.ValueTypes.{values_fit}
use Rattle.fisca_symbols.specs.declared.variable.Variable.{Variable}
use Rattle.fisca_model.specs.Tables.{Tables}
use Rattle.fisca_ops.specs.Casts.{cast}
use Rattle.fisca_ops.specs.Ended.{IsMoving}
use Rattle.fisca_model.specs.EvalFaults.{IsAnswer, IsTold, told}
use Rattle.fisca_simulation.specs.PlainEvaluations.{IsPlainEvaluation, IsWork, IsAtHand, known_in, seen, sources_in, wanted, wanted_of_work, work}
use Rattle.fisca_model.specs.declared.eval_fault.EvalFault.{EvalFault}
use Rattle.fisca_simulation.specs.declared.plain_evaluation.PlainEvaluation.{PlainEvaluation}

-- Faults

pub is_told : (o : Option Fault) (f : Fault) (want : Result Value Fault) → o ≡ Some f → want ≡ Err f → IsTold o want
is_told o f want e h = subst (λ x. IsTold x want) (sym e) h

-- Lengths

so_long : {X Y : Type 0} (f : X → Y) (xs : List X) → length (map f xs) ≡ length xs
so_long f [] = refl
so_long f (x ∷ xs) = ap suc (so_long f xs)

pub one_behind : {X Y : Type 0} (f : X → Y) (xs : List X) (x : X) → map f (xs ++ x ∷ []) ≡ map f xs ++ f x ∷ []
one_behind f [] x = refl
one_behind f (y ∷ ys) x = ap (λ zs. f y ∷ zs) (one_behind f ys x)

-- A value that is at hand

module _ (keys : List Key) (key : Key) (value : Given) where
  abbrev chain_fault : Fault
  chain_fault = verdict (first_of (map key_seen keys) (key_seen key)) (map key_seen keys ++ key_seen key ∷ [])

  pub at_hand_full : (e : EvalFault) → told e ≡ Some chain_fault → length keys ≡ 100 → IsAtHand keys key value (Err e)
  at_hand_full e t long s h =
      is_told (told e) chain_fault _ t (below_full s (map key_seen keys) (key_seen key) (subst IsAskable (sym h) tt) (so_long key_seen keys ∙ long))

  pub at_hand_ok : length keys < 100 → IsAtHand keys key value (Ok value)
  at_hand_ok room s h = below_known s (map key_seen keys) (key_seen key) (value_seen value) h (omega (arith, so_long key_seen keys))

-- What gives a value or a fault moves

pub moving : (c : Tables) (P : Value → Type 0) (d : Dialogue) → GivesOnly c P d → IsMoving d
moving c P (gives v) h = tt
moving c P (fails f) h = tt
moving c P stuck h = absurd h
moving c P (asks k go) h = tt

module _ (s : PlainEvaluation) (v : Variable) (f : TypedFormula) (key : Key) where
  -- a formula, where it begins
  pub begins : IsPlainEvaluation s → before (formula_means (tables s.context) (groups s.context) (formula_view f) (start_point v (key_seen key))) (cast v.value_type) ≡ work s v f key
  begins is = λ i. before (formula_means (is.tables i) (is.groups i) (formula_view f) (start_point v (key_seen key))) (cast v.value_type)

  module _ (keys : List Key) where
    abbrev W : Oracle
    W = value_within (sources_in s) (left_below (map key_seen keys))

    abbrev whole : Inquiry
    whole = of_key (key_seen key) (work s v f key)

    pub by_formula_full : IsWork s v f key → (e : EvalFault) → told e ≡ Some (verdict (first_of (map key_seen keys) (key_seen key)) (map key_seen keys ++ key_seen key ∷ [])) → length keys ≡ 100 → IsAnswer (wanted s keys key) (Err e)
    by_formula_full is e t long =
        is_told (told e) _ _ t (below_full (sources_in s) (map key_seen keys) (key_seen key) (subst IsAskable (sym is.source) tt) (so_long key_seen keys ∙ long))

    pub by_formula_room : IsWork s v f key → length keys < 100 → wanted s keys key ≡ wanted_of_work s (keys ++ key ∷ []) v f key
    by_formula_room is room =
        below_formula (sources_in s) (map key_seen keys) (key_seen key) whole is.source (omega (arith, so_long key_seen keys))
        ∙ ap (λ ks. ends_below (sources_in s) ks (key_seen key) whole) (sym (one_behind key_seen keys key))

    -- of the formula's dialogue r is left
    module _ (r : Dialogue) (ends_so : outcome W whole ≡ outcome W (of_key (key_seen key) r)) where
      pub failed : (e : EvalFault) (x : meaning.OperationFault) → told e ≡ Some (named (key_seen key) x) → r ≡ fails x → IsAnswer (wanted_of_work s keys v f key) (Err e)
      failed e x t is = is_told (told e) _ _ t (left_fault (sources_in s) (map key_seen keys) (key_seen key) whole r ends_so x is)

      module _ (j : Key) (go : Value → Dialogue) (is : r ≡ asks (key_seen j) go) where
        module _ (x : Given) (a : wanted s keys j ≡ Ok (value_seen x)) where
          pub goes_on : outcome W whole ≡ outcome W (of_key (key_seen key) (go (value_seen x)))
          goes_on = asked_more (sources_in s) (map key_seen keys) (key_seen key) whole r ends_so (key_seen j) go is (value_seen x) a

          pub fewer : length (asked W (of_key (key_seen key) (go (value_seen x)))) < length (asked W (of_key (key_seen key) r))
          fewer = asked_less (sources_in s) (map key_seen keys) (key_seen key) whole r ends_so (key_seen j) go is (value_seen x) a

          pub goes_soundly : IsPlainEvaluation s → GivesOnly (known_in s) (IsValueOf (known_in s) key.variable) r → GivesOnly (known_in s) (IsValueOf (known_in s) key.variable) (go (value_seen x))
          goes_soundly evaluation h =
              let c = known_in s in
              let g : GivesOnly c (IsValueOf c key.variable) (asks (key_seen j) go) = subst (GivesOnly c (IsValueOf c key.variable)) is h in
              let sound : AreSound c (sources_in s) = sources_sound (seen s) evaluation.safe evaluation.fit in
              g.2 (value_seen x) (typed_is_of c (variable_type c j.variable) g.0 (value_seen x) g.1 (values_fit c (sources_in s) sound (left_below (map key_seen keys)) (key_seen j) (value_seen x) (below_ok (map key_seen keys) (key_seen j) (W (key_seen j)) (value_seen x) a)))
