-- When the values of keys meet the conditions of a filter.
use Rattle.std.specs.Prelude.{List, [], ◌∷◌, ℕ, ◌==◌, Bool, true, false, not, if◌then◌else◌, Result, Ok}
use Rattle.fisca_grid.specs.Condition.{is_met_by}
use Rattle.fisca_grid.specs.declared.condition.AxisComparison.{AxisComparison}
use Rattle.fisca_grid.specs.declared.condition.AxisComparison.TheVariants.{AtLeast, AtMost, Equal, NotEqual, Above, Below}
use Rattle.fisca_model.specs.declared.value.Value.{Value}
use Rattle.fisca_model.specs.declared.value.Value.TheVariants as v
use Rattle.fisca_model.specs.declared.key.Key.{Key}
use Rattle.fisca_num.specs.Number.{Number, number_cmp}
use Rattle.fisca_num.specs.Results.{and_then}
use Rattle.fisca_rows.specs.declared.condition.Condition.{Condition}

-- values that are the same, or not; without an order the other comparisons are never met
abbrev pub is_met_by_sameness : AxisComparison → Bool → Bool
is_met_by_sameness Equal same = same
is_met_by_sameness NotEqual same = not same
is_met_by_sameness _ _ = false

abbrev pub same_bool : Bool → Bool → Bool
same_bool true b = b
same_bool false b = not b

-- by the order of numbers; a constant of another type is never met
abbrev pub meets_number : AxisComparison → Number → Value → Bool
meets_number x n (v.Number m) = is_met_by x (number_cmp n m)
meets_number x n (v.Bool b) = false
meets_number x n (v.Member i) = false

abbrev pub meets_bool : AxisComparison → Bool → Value → Bool
meets_bool x a (v.Number m) = false
meets_bool x a (v.Bool b) = is_met_by_sameness x (same_bool a b)
meets_bool x a (v.Member i) = false

abbrev pub meets_member : AxisComparison → ℕ → Value → Bool
meets_member x i (v.Number m) = false
meets_member x i (v.Bool b) = false
meets_member x i (v.Member j) = is_met_by_sameness x (i == j)

-- a value of its key meets a condition
abbrev pub meets : Condition → Value → Bool
meets x (v.Number n) = meets_number x.comparison n x.constant
meets x (v.Bool b) = meets_bool x.comparison b x.constant
meets x (v.Member i) = meets_member x.comparison i x.constant

-- whether all hold: in order, up to the first that does not, or else the first fault
abbrev pub all_met : {F : Type 0} → (Key → Result Value F) → List Condition → Result Bool F
all_met answer [] = Ok true
all_met answer (x ∷ xs) = and_then (answer x.key) (λ w. if meets x w then all_met answer xs else Ok false)
