-- How a condition on an axis is read, and when a value meets it.
use Rattle.std.specs.Prelude.{ℕ, Bool, true, false, List, [], ◌∷◌, length, drop, Option, Some, None, option_and_then, Result, Ok, Err, if◌then◌else◌, nat_eq, codes}
use Rattle.std.specs.List.{starts_with}
use Rattle.std.specs.declared.cmp.Ordering.{Ordering}
use Rattle.std.specs.declared.cmp.Ordering.TheVariants.{Less, Greater}
use Rattle.std.specs.declared.cmp.Ordering.TheVariants as order
use Rattle.fisca_num.specs.declared.faults.NumFault.{NumFault}
use Rattle.fisca_num.specs.Number.{Number, number_cmp}
use Rattle.fisca_num.specs.Literal.{number_of_literal}
use Rattle.fisca_grid.specs.declared.condition.AxisComparison.{AxisComparison}
use Rattle.fisca_grid.specs.declared.condition.AxisCondition.{AxisCondition}
use Rattle.fisca_grid.specs.declared.condition.AxisComparison.TheVariants.{AtLeast, AtMost, Equal, NotEqual, Above, Below}
use Rattle.fisca_grid.specs.Steps.Condition.{after, past_spaces}

-- a value that stands so to the constant meets the comparison
abbrev pub is_met_by : AxisComparison → Ordering → Bool
is_met_by AtLeast Less = false
is_met_by AtLeast other = true
is_met_by AtMost Greater = false
is_met_by AtMost other = true
is_met_by Equal order.Equal = true
is_met_by Equal other = false
is_met_by NotEqual order.Equal = false
is_met_by NotEqual other = true
is_met_by Above Greater = true
is_met_by Above other = false
is_met_by Below Less = true
is_met_by Below other = false

-- the first of these signs that begins the text, with what follows it
abbrev pub first_sign : List (AxisComparison × List ℕ) → List ℕ → Option (AxisComparison × List ℕ)
first_sign [] text = None
first_sign (sign ∷ signs) text = if starts_with nat_eq text sign.1 then Some (sign.0, drop (length sign.1) text) else first_sign signs text

-- the comparisons and their signs, a longer sign before the one that begins it
abbrev pub signs : List (AxisComparison × List ℕ)
signs = (AtLeast, codes ">=") ∷ (AtMost, codes "<=") ∷ (Equal, codes "==") ∷ (NotEqual, codes "!=") ∷ (Above, codes ">") ∷ (Below, codes "<") ∷ []

-- the comparison whose sign begins the text, and what follows the sign
abbrev pub comparison_of : List ℕ → Option (AxisComparison × List ℕ)
comparison_of text = first_sign signs text

-- a comparison with the number that a literal writes
abbrev pub with_constant : AxisComparison → Result Number NumFault → Option AxisCondition
with_constant comparison (Ok constant) = Some (record { comparison = comparison; constant = constant })
with_constant comparison (Err fault) = None

-- a comparison, and behind it, perhaps after spaces, a decimal literal
abbrev pub comparison_in : List ℕ → Option AxisCondition
comparison_in text = option_and_then (λ sign. with_constant sign.0 (number_of_literal (past_spaces sign.1))) (comparison_of text)

-- the condition that a text states of the axis of this name: the name, a comparison and a decimal literal, where spaces may stand around the comparison
abbrev pub condition_of : List ℕ → List ℕ → Option AxisCondition
condition_of name text = option_and_then (λ rest. comparison_in (past_spaces rest)) (after name text)

-- a value meets a condition
abbrev pub meets : AxisCondition → Number → Bool
meets condition value = is_met_by condition.comparison (number_cmp value condition.constant)
