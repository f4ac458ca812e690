use Rattle.std.proofs.Common.{◌≡◌, ℕ, Bool, true, false, Err, pos, to_z, w64, arith, refl, sym, ap, ◌∙◌, if◌then◌else◌}
use Rattle.std.specs.Prelude.{◌==◌}
use Rattle.std.proofs.lemmas.Bool.{eqb-true}
use Rattle.std.proofs.lemmas.Int.{ints}
use Rattle.fisca_inputs.proofs.Parting.{part_by, whole_there}
use Rattle.fisca_inputs.specs.Steps.Sharing.{part_ratio}
use Rattle.fisca_num.specs.Operations.{number_of, number_over}
use Rattle.fisca_num.specs.declared.faults.NumFault.TheVariants.{ZeroDivisor}
use Rattle.fisca_situations.proofs.slot.part_of.Goals as goal

not_zero : (n : ℕ) → (n ≡ 0 → ⊥) → (n == 0) ≡ false
not_zero n some = by (n == 0) refl
  where
    by : (b : Bool) → (n == 0) ≡ b → b ≡ false
    by true e = absurd (some (eqb-true n 0 e))
    by false e = refl

pub unreachable-requires : goal.unreachable-requires
unreachable-requires c =
    let same : to_z w64 c.args.count ≡ pos c.args.count = omega (arith, ints, c.requires) in
    whole_there c.args.count c.in-Err.field-0 c.requires (ap (λ z. number_over z (pos 1)) (sym same) ∙ (sym c.new.ensures ∙ c.in-Err.is))

pub returns : goal.returns
returns c =
    let same : to_z w64 c.args.count ≡ pos c.args.count = omega (arith, ints, c.requires) in
    let part = part_by c.args.value c.in-Ok.parts c.args.count c.requires (ap (λ z. number_over z (pos 1)) (sym same) ∙ (sym c.new.ensures ∙ c.in-Ok.is)) in
    let some = not_zero c.args.count c.if-count-eq0.false in
    c.div.ensures ∙ (part ∙ sym (ap (λ b. if b then Err ZeroDivisor else number_of (part_ratio c.args.value c.args.count)) some))
