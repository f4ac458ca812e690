use Rattle.std.proofs.Common.{◌<◌, ◌∙◌, ◌≡◌, ℕ, ap, arith, subst}
use Rattle.std.specs.Prelude.{◌⊎◌}
use Rattle.std.specs.List.{AllByRecursion}
use Rattle.std.specs.Map.{keys_of, lookup}
use Rattle.std.specs.Option.{unwrap_or}
use Rattle.fisca_inputs.specs.Defaults.{HaveFirst}
use Rattle.fisca_inputs.specs.Entries.{same_key}
use Rattle.fisca_inputs.proofs.First.{first_noted, keys_noted}
use Rattle.fisca_inputs.proofs.inputs.note_member.Goals as goal

pub returns-clause-keys : goal.returns-clause-keys
returns-clause-keys c =
    let e = c.in_ok-rows.field-0 in
    let n = c.first_with.result in
    let noted = ap keys_of (c.in_ok-rows.ensures.update.1 n) ∙ keys_noted c.args.row c.args.rows.now.entries n in
    grind (arith, noted)

pub returns-clause-first : goal.returns-clause-first
returns-clause-first c = λ es there all.
    let row = c.args.row in
    let old = c.args.rows.now.entries in
    let n = c.first_with.result in
    let made = c.in_ok-rows.ensures.update.1 n in
    let was : c.or_insert-first.result.now ≡ unwrap_or (lookup (same_key row) old) 0 = c.or_insert-first.ensures.value ∙ ap (λ o. unwrap_or o 0) c.in_ok-rows.ensures.value in
    subst (AllByRecursion (HaveFirst es)) (grind (arith, made))
    (first_noted es row c.args.member there old n (subst (λ (first : ℕ). (m : ℕ) → m < n → (m < first) ⊎ (m ≡ c.args.member)) was c.first_with.ensures) all)
