-- How an output comes out: whether the value of its key is near enough to the expected one.
use Rattle.std.specs.Prelude.{List, [], ◌∷◌, Bool, true, false, Option, Some, None, Result, Ok, Err}
use Rattle.fisca_model.specs.declared.value.Value.{Value}
use Rattle.fisca_num.specs.Number.{Number, zero_number}
use Rattle.fisca_num.specs.declared.faults.NumFault.{NumFault}
use Rattle.fisca_test_file.specs.declared.outcome.Outcome.{Outcome}
use Rattle.fisca_test_file.specs.declared.outcome.Outcome.TheVariants.{Passed, Missed, TooWide}

-- Numbers

-- how far it may be at most: by each margin that there is, and not at all where there is none
abbrev pub bounds_of : Option Number → Option Number → List Number
bounds_of None None = zero_number ∷ []
bounds_of (Some absolute) None = absolute ∷ []
bounds_of None (Some relative) = relative ∷ []
bounds_of (Some absolute) (Some relative) = absolute ∷ relative ∷ []

-- Outputs

abbrev pub outcome_by : {F : Type 0} → Value → Result Bool NumFault → Outcome F
outcome_by got (Ok true) = Passed
outcome_by got (Ok false) = Missed got
outcome_by got (Err f) = TooWide
