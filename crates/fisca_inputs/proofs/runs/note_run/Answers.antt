use Rattle.std.proofs.Common.{◌≡◌, ◌<◌, ◌∙◌, ℕ, ap, arith, subst, inl, inr}
use Rattle.std.specs.Prelude.{◌⊎◌}
use Rattle.std.specs.Map.{lookup}
use Rattle.std.specs.Option.{unwrap_or}
use Rattle.std.proofs.lemmas.Bool.{cases_lt}
use Rattle.fisca_inputs.specs.Entries.{same_key}
use Rattle.fisca_inputs.specs.Steps.Runs.{AreFilled}
use Rattle.fisca_inputs.proofs.Filled.{run_noted}
use Rattle.fisca_inputs.proofs.runs.note_run.Goals as goal

pub returns-clause-filled : goal.returns-clause-filled
returns-clause-filled c = λ es filled all.
    let k = c.args.key in
    let count = c.args.count in
    let old = c.args.runs.now.entries in
    let n = c.max.result in
    let made = c.in_ok-runs.ensures.update.1 n in
    let was : c.or_insert-run.result.now ≡ unwrap_or (lookup (same_key k) old) 0 = c.or_insert-run.ensures.value ∙ ap (λ o. unwrap_or o 0) c.in_ok-runs.ensures.value in
    let each : (places : ℕ) → places < n → (places < unwrap_or (lookup (same_key k) old) 0) ⊎ (places < count) = λ places lt.
    elim (cases_lt places count) [
      | inl p ↦ inr p
      | inr le ↦ inl (omega (arith, lt, was, le, c.max.ensures))
    ] in
    subst (AreFilled es) (grind (arith, made)) (run_noted es k count filled old n each all)
