use Rattle.std.proofs.Common.{◌≡◌, ◌∙◌, sym, arith, length, inl, inr, ◌⊎◌}
use Rattle.std.proofs.lemmas.Bool.{eqb-true, eqb-false}
use Rattle.fisca_num.proofs.Forms.{AreParts, no_digit, no_places, too_long, too_wide, value_read, not_few, is_few}
use Rattle.fisca_num.proofs.literals.value_of_parts.Goals as goal
use Rattle.fisca_num.proofs.literals.value_of_parts.Goals.{else-is_empty-via-then-is_empty+else-is_empty-2, else-is_empty-via-else-is_empty, then-number-gt-LIMIT-via-then-number-gt-LIMIT, then-number-gt-LIMIT-via-else-number-gt-LIMIT+then-not-read}

pub returns-then-is_empty-2 : goal.returns-then-is_empty-2
returns-then-is_empty-2 c = no_digit _ _ _ (eqb-true _ 0 (sym c.is_empty.ensures ∙ c.if-is_empty.true)) (eqb-true _ 0 (sym c.is_empty-then-is_empty.ensures ∙ c.if-is_empty-2.true))

pub returns-in_default : goal.returns-in_default
returns-in_default c = no_places _ _ _ c.requires.whole c.in_default.ensures

pub returns-then-number-gt-LIMIT : goal.returns-then-number-gt-LIMIT
returns-then-number-gt-LIMIT c =
    let some : (length c.args.whole.now ≡ 0 → ⊥) ⊎ (length c.args.places.now ≡ 0 → ⊥) = elim c.else-is_empty.branch [
      | else-is_empty-via-then-is_empty+else-is_empty-2 w ↦ inr (eqb-false _ 0 (sym w.is_empty-then-is_empty.ensures ∙ w.if-is_empty-2.false))
      | else-is_empty-via-else-is_empty w ↦ inl (eqb-false _ 0 (sym c.is_empty.ensures ∙ w.if-is_empty.false))
    ] in
    let parts : AreParts c.args.whole.now c.args.places.now = record { some = some; whole = c.requires.whole; places = c.in-Some.ensures.0 } in
    elim c.then-number-gt-LIMIT.branch [
      | then-number-gt-LIMIT-via-then-number-gt-LIMIT w ↦ too_wide _ _ _ parts (omega (arith, w.if-number-gt-LIMIT.true, c.requires.number))
      | then-number-gt-LIMIT-via-else-number-gt-LIMIT+then-not-read w ↦ too_long _ _ _ parts (sym c.in-Some.ensures.1.few_is ∙ not_few _ w.if-not-read.true)
    ]

pub returns : goal.returns
returns c =
    let some : (length c.args.whole.now ≡ 0 → ⊥) ⊎ (length c.args.places.now ≡ 0 → ⊥) = elim c.else-is_empty.branch [
      | else-is_empty-via-then-is_empty+else-is_empty-2 w ↦ inr (eqb-false _ 0 (sym w.is_empty-then-is_empty.ensures ∙ w.if-is_empty-2.false))
      | else-is_empty-via-else-is_empty w ↦ inl (eqb-false _ 0 (sym c.is_empty.ensures ∙ w.if-is_empty.false))
    ] in
    let parts : AreParts c.args.whole.now c.args.places.now = record { some = some; whole = c.requires.whole; places = c.in-Some.ensures.0 } in
    c.decimal.ensures ∙ value_read _ _ _ c.args.number _ _ _ parts c.requires.number (omega arith) c.in-Some.ensures.1 (is_few _ c.if-not-read.false)
