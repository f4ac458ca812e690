-- What is answered for keys below others without any work.
use Rattle.std.proofs.Common.{◌≡◌, ◌-◌, ◌<◌, ◌≤◌, ◌++◌, ◌∷◌, [], inl, inr, List, length, map, Option, Some, None, option_map, Err, false, refl, sym, ap, subst, ◌∙◌, arith}
use Rattle.std.proofs.lemmas.List.{length-map}
use Rattle.fisca_key_semantics.specs.Answers.{Sources, formula, known}
use Rattle.fisca_key_semantics.specs.Chains.{IsPath, PathFrom}
use Rattle.fisca_model.specs.Causes.{Fault, fault_at, too_deep}
use Rattle.fisca_key_semantics.specs.Inquiry.{Inquiry}
use Rattle.fisca_key_semantics.specs.Keys.{In, has}
use Rattle.fisca_key_semantics.specs.Stacks.{first_of, left_below, IsAskable}
use Rattle.fisca_key_semantics.proofs.Paths.{has-none, path_tail}
use Rattle.fisca_memo_theory.specs.Entries.{Entries, Entry, Remembered}
use Rattle.fisca_memo_theory.specs.Memory.{HasFormula, IsKnown, IsTrueEntry, IsTrueMemory}
use Rattle.fisca_memo_theory.specs.Reads.{AreReads, IsReads}
use Rattle.fisca_memo_theory.proofs.Reading.{known_reads}
use Rattle.fisca_memo_theory.proofs.Settled.{low_known, tall_answer, full_answer, at_hand_known}
use Rattle.fisca_memo_theory.proofs.WorkDone.{work_none}
use Rattle.fisca_model.specs.Seen.{key_seen, value_seen}
use Rattle.fisca_model.specs.declared.value.Value.{Value as Given}
use Rattle.fisca_model.specs.declared.key.Key.{Key}
use Rattle.fisca_model.specs.Values.{Key as Asked}
use Rattle.fisca_evaluator.specs.Found.{entry_seen}
use Rattle.fisca_evaluator.specs.declared.known.Known.{Known}
use Rattle.fisca_evaluator.specs.Recalled.{IfTold, IsDoneBelow, IsStack, IsKnownBelow, IsKnownOf}
use Rattle.fisca_evaluator.specs.Evaluations.{HasRead, marks_in, sources_in, wanted}
use Rattle.fisca_evaluator.specs.declared.evaluation.Evaluation.{Evaluation}

pub if_told : (o : Option Fault) (P : Type 0) → P → IfTold o P
if_told None P p = tt
if_told (Some f) P p = p

-- each key of a stack has a formula, which asks for the next
path_formula : (src : Sources) (x : Asked) (rest : List Asked) (key : Asked) → PathFrom src x (rest ++ key ∷ []) → HasFormula src x
path_formula src x [] key p = (p.0.inquiry, p.0.is_formula)
path_formula src x (j ∷ js) key p = (p.0.inquiry, p.0.is_formula)

stack_formula : (src : Sources) (stack : List Asked) (key k : Asked) → IsPath src (stack ++ key ∷ []) → In k stack → HasFormula src k
stack_formula src [] key k p i = absurd i
stack_formula src (x ∷ xs) key k p (inl e) = subst (HasFormula src) e (path_formula src x xs key p)
stack_formula src (x ∷ xs) key k p (inr t) = stack_formula src xs key k (path_tail src x (xs ++ key ∷ []) p) t

-- what no formula gives is not remembered, and stands on no stack
module _ (s : Evaluation) (keys : List Key) (key : Key) (none : (d : Inquiry) → sources_in s (key_seen key) ≡ formula d → ⊥) where
  pub not_remembered : (m : Entries) → IsTrueMemory (sources_in s) m → m (key_seen key) ≡ None
  not_remembered m truth = by (m (key_seen key)) refl
    where
      by : (o : Option Entry) → m (key_seen key) ≡ o → o ≡ None
      by None e = refl
      by (Some x) e = let f = truth.formulas (key_seen key) (x, e) in absurd (none f.0 f.1)

  pub not_standing : IsStack (sources_in s) keys key → has (map key_seen keys) (key_seen key) ≡ false
  not_standing stack = has-none (map key_seen keys) (key_seen key) (λ i. let f = stack_formula (sources_in s) (map key_seen keys) (key_seen key) (key_seen key) stack.path i in none f.0 f.1)

module _ (s : Evaluation) (keys : List Key) (key : Key) where
  -- what is found of the key
  module _ (m : Entries) (o : Option Known) (k : Known) (truth : IsTrueMemory (sources_in s) m) (is : o ≡ Some k) (e : option_map entry_seen o ≡ m (key_seen key)) where
    found_so : IsKnownOf (sources_in s) key k
    found_so = subst (IsTrueEntry (sources_in s) (key_seen key)) (sym e ∙ ap (option_map entry_seen) is) (truth.each (key_seen key))

    pub hit_below : k.height ≤ 100 - length keys → IsKnownBelow (sources_in s) keys key k
    hit_below le = low_known (sources_in s) (map key_seen keys) (key_seen key) (value_seen k.value) k.height found_so (omega (arith, le, length-map keys key_seen))

    pub hit_tall : IsStack (sources_in s) keys key → 100 - length keys < k.height → wanted s keys key ≡ Err (fault_at too_deep (first_of (map key_seen keys) (key_seen key)))
    hit_tall stack more = tall_answer (sources_in s) (map key_seen keys) (key_seen key) stack k.height found_so.height_is (omega (arith, more, length-map keys key_seen))

    pub hit_read : AreReads (marks_in s) (sources_in s) m → HasRead s key k
    hit_read reads = reads (key_seen key) (entry_seen k) (sym e ∙ ap (option_map entry_seen) is)

  -- a hundred other keys stand above it
  pub full_below : IsStack (sources_in s) keys key → has (map key_seen keys) (key_seen key) ≡ false → IsAskable (sources_in s (key_seen key)) → length keys ≡ 100 → wanted s keys key ≡ Err (fault_at too_deep (first_of (map key_seen keys) (key_seen key)))
  full_below stack away is long = full_answer (sources_in s) (map key_seen keys) (key_seen key) stack away is (length-map keys key_seen ∙ long)

  pub full_done : (m : Entries) → length keys ≡ 100 → IsDoneBelow (sources_in s) m keys key
  full_done m long k w = absurd (work_none (sources_in s) (Remembered m) (key_seen key) k _ (omega (arith, length-map keys key_seen, long)) w)

  pub hand_below : (v : Given) → sources_in s (key_seen key) ≡ known (value_seen v) → length keys < 100 → IsKnown (sources_in s) (left_below (map key_seen keys)) (key_seen key) (value_seen v) 1
  hand_below v e room = at_hand_known (sources_in s) (map key_seen keys) (key_seen key) (value_seen v) e (omega (arith, room, length-map keys key_seen))

  pub hand_read : (v : Given) → sources_in s (key_seen key) ≡ known (value_seen v) → IsReads (marks_in s) (sources_in s) (key_seen key) (marks_in s (key_seen key))
  hand_read v e = known_reads (marks_in s) (sources_in s) (key_seen key) (value_seen v) e
