-- Laws of one given input.
use Rattle.std.proofs.Common.{◌≡◌, ℕ, List, [], Bool, true, false, Some, sym, ap, ◌∙◌, if◌then◌else◌}
use Rattle.std.specs.Prelude.{Ok, Err, Result}
use Rattle.fisca_model.specs.Periods.{fits, key_period}
use Rattle.fisca_num.specs.Number.{Number}
use Rattle.fisca_symbols.specs.declared.variable.SetInput.TheVariants as sharing
use Rattle.fisca_num.specs.Results.{and_then}
use Rattle.fisca_inputs.specs.Defaults.{rows_of, with_defaults}
use Rattle.fisca_inputs.specs.Entries.{Entries, key, value_at}
use Rattle.fisca_inputs.specs.Inputs.{inputs_of}
use Rattle.fisca_inputs.specs.Steps.Order.{in_order}
use Rattle.fisca_inputs.specs.Faults.{at_line}
use Rattle.fisca_inputs.specs.Rules.{Rule}
use Rattle.fisca_inputs.specs.Steps.Rules.{is_longer}
use Rattle.fisca_inputs.specs.Sharing.{all_shared, shared, over_parts, divided_value, alone}
use Rattle.fisca_inputs.specs.Steps.Sharing.{parts_of}
use Rattle.fisca_inputs.specs.Totals.{AddUpTo, value_or_default}
use Rattle.fisca_inputs.specs.declared.fault.SituationFault.{SituationFault}
use Rattle.fisca_inputs.specs.declared.fault.SituationKind.TheVariants.{PeriodMismatch}
use Rattle.fisca_inputs.specs.declared.given.Given.{Given}
use Rattle.fisca_model.specs.declared.value.Value.TheVariants as v
use Rattle.fisca_model.specs.declared.key.Key.{Key}
use Rattle.fisca_inputs.proofs.Beside.{defaults_beside}
use Rattle.fisca_inputs.proofs.Shares.{divided_adds}

pub divided_input_adds : (r : Rule) (g : Given) (n : Number) (es after : Entries) → fits r.unit g.period ≡ false → r.set_input ≡ Some sharing.DivideByPeriod
    → g.value ≡ v.Number n → shared r g es ≡ Ok after → AddUpTo after (parts_of r g) n
divided_input_adds r g n es after own divides number h =
    by (is_longer r.unit g.period) (ap (λ b. if b then alone g.line (key g.variable g.member (key_period r.unit g.period)) g.value es else whole (is_longer r.unit g.period)) (sym own) ∙ h)
  where
    whole : Bool → Result Entries SituationFault
    whole b = if b then over_parts r.set_input g (parts_of r g) es else Err (at_line g.line PeriodMismatch)

    by : (b : Bool) → (if b then over_parts r.set_input g (parts_of r g) es else Err (at_line g.line PeriodMismatch)) ≡ Ok after → AddUpTo after (parts_of r g) n
    by true e =
        let plain : divided_value g.line (v.Number n) (parts_of r g) es ≡ Ok after =
        ap (λ x. divided_value g.line x (parts_of r g) es) (sym number) ∙ ap (λ s. over_parts s g (parts_of r g) es) (sym divides) ∙ e in
        divided_adds g.line n (parts_of r g) es after plain
    by false e = cc

pub defaults_stand : (rules : List Rule) (counts : List ℕ) (givens : List Given) (es after : Entries) → all_shared rules (in_order rules givens) [] ≡ Ok es
    → inputs_of rules counts givens ≡ Ok after → (k : Key) → value_at after k ≡ value_or_default rules counts es k
defaults_stand rules counts givens es after first whole =
    defaults_beside rules counts givens es after (ap (λ r. and_then r (λ fs. with_defaults rules counts givens (rows_of fs) fs)) (sym first) ∙ whole)
