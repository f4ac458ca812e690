-- What is left of a number, part by part.
use Rattle.std.proofs.Common.{◌≡◌, ◌≢◌, ℕ, suc, ◌+◌, List, drop, Option, Some, None, slice_get, arith, sym, ap, ◌∙◌, refl, is_some, if◌then◌else◌}
use Rattle.std.specs.Prelude.{Result, Ok, Err}
use Rattle.fisca_num.specs.Number.{Number}
use Rattle.fisca_num.specs.Operations.{difference_of}
use Rattle.fisca_num.specs.declared.faults.NumFault.{NumFault}
use Rattle.fisca_inputs.specs.Entries.{Entries, value_at}
use Rattle.fisca_inputs.specs.Faults.{at_line}
use Rattle.fisca_inputs.specs.Sharing.{rest_of, count_free}
use Rattle.fisca_inputs.specs.Steps.Sharing.{computed, without}
use Rattle.fisca_inputs.specs.declared.fault.SituationFault.{SituationFault}
use Rattle.fisca_inputs.specs.declared.fault.SituationKind.TheVariants.{BadValue, Memory}
use Rattle.fisca_model.specs.declared.value.Value.{Value}
use Rattle.fisca_model.specs.declared.value.Value.TheVariants as v
use Rattle.fisca_model.specs.declared.key.Key.{Key}
use Rattle.fisca_inputs.proofs.Steps.{drop_at, goes_on, stops}

bad_value : (line : ℕ) (f : SituationFault) → at_line line BadValue ≡ f → f.kind ≢ Memory
bad_value line f e memory = let same : BadValue ≡ Memory = ap (λ (g : SituationFault). g.kind) e ∙ memory in cc

without_fault : (line : ℕ) (o : Option Value) (n : Number) (f : SituationFault) → without line o n ≡ Err f → f.kind ≢ Memory
without_fault line None n f e = cc
without_fault line (Some (v.Number m)) n f e = by (difference_of n m) e
  where
    by : (r : Result Number NumFault) → computed line r ≡ Err f → f.kind ≢ Memory
    by (Ok p) h = cc
    by (Err q) h = bad_value line f (cc h)
without_fault line (Some (v.Bool b)) n f e = bad_value line f (cc e)
without_fault line (Some (v.Member i)) n f e = bad_value line f (cc e)

module _ (line : ℕ) (es : Entries) (ks : List Key) (i : ℕ) (k : Key) (at : slice_get ks i ≡ Some k) (n : Number) (whole : Result Number SituationFault)
    (before : rest_of line es (drop i ks) n ≡ whole) where
  pub rest_less : (x : Value) (m : Number) → Some x ≡ value_at es k → Ok m ≡ without line (Some x) n → rest_of line es (drop (i + 1) ks) m ≡ whole
  rest_less x m there less =
      goes_on (λ k n. without line (value_at es k) n) (rest_of line es) (λ k ks n. refl) ks i k n m whole at (ap (λ o. without line o n) (sym there) ∙ sym less) before

  pub rest_same : None ≡ value_at es k → rest_of line es (drop (i + 1) ks) n ≡ whole
  rest_same none = goes_on (λ k n. without line (value_at es k) n) (rest_of line es) (λ k ks n. refl) ks i k n n whole at (ap (λ o. without line o n) (sym none)) before

  pub rest_stops : (x : Value) (f : SituationFault) → Some x ≡ value_at es k → Err f ≡ without line (Some x) n → (whole ≡ Err f) × (f.kind ≢ Memory)
  rest_stops x f there refused = (
    stops (λ k n. without line (value_at es k) n) (rest_of line es) (λ k ks n. refl) ks i k n f whole at (ap (λ o. without line o n) (sym there) ∙ sym refused) before,
    without_fault line (Some x) n f (sym refused),
  )

module _ (es : Entries) (ks : List Key) (i : ℕ) (k : Key) (at : slice_get ks i ≡ Some k) (free whole : ℕ) (before : free + count_free es (drop i ks) ≡ whole) where
  one : count_free es (drop i ks) ≡ (if is_some (value_at es k) then count_free es (drop (i + 1) ks) else suc (count_free es (drop (i + 1) ks)))
  one = ap (count_free es) (drop_at ks i k at)

  pub count_same : (x : Value) → Some x ≡ value_at es k → free + count_free es (drop (i + 1) ks) ≡ whole
  count_same x there =
      let e = one ∙ ap (λ o. if is_some o then count_free es (drop (i + 1) ks) else suc (count_free es (drop (i + 1) ks))) (sym there) in
      omega (arith, before, e)

  pub count_more : None ≡ value_at es k → (free + 1) + count_free es (drop (i + 1) ks) ≡ whole
  count_more none =
      let e = one ∙ ap (λ o. if is_some o then count_free es (drop (i + 1) ks) else suc (count_free es (drop (i + 1) ks))) (sym none) in
      omega (arith, before, e)
