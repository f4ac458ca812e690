-- The steps of code behind `Verdicts`:
-- How an output comes out: whether the value of its key is near enough to the expected one.
use Rattle.std.specs.Prelude.{ℕ, List, Bool, true, false, not, ◌==◌, if◌then◌else◌, Option, Some, None, Result, Ok, Err}
use Rattle.std.specs.Int.{is_negative}
use Rattle.std.specs.List.{list_all}
use Rattle.std.specs.Ordering.{is_gt}
use Rattle.fisca_model.specs.declared.value.Value.{Value}
use Rattle.fisca_model.specs.declared.value.Value.TheVariants as v
use Rattle.fisca_num.specs.Number.{Number, number_cmp, negation_of}
use Rattle.fisca_num.specs.Operations.{difference_of, product_of}
use Rattle.fisca_num.specs.declared.faults.NumFault.{NumFault}
use Rattle.fisca_num.specs.Results.{and_then}
use Rattle.fisca_test_file.specs.declared.margins.Margins.{Margins}
use Rattle.fisca_test_file.specs.declared.outcome.Outcome.{Outcome}
use Rattle.fisca_test_file.specs.declared.outcome.Outcome.TheVariants.{Passed, Missed, TooWide, Faulted}
use Rattle.fisca_test_file.specs.Verdicts.{bounds_of, outcome_by}

-- Numbers

-- without its sign
abbrev pub size_of : Number → Number
size_of x = if is_negative x.numerator then negation_of x else x

-- how far a value is from the expected one
abbrev pub distance : Number → Number → Result Number NumFault
distance expected got = and_then (difference_of got expected) (λ d. Ok (size_of d))

-- how far a relative margin lets it be
abbrev pub relative_bound : Number → Number → Result Number NumFault
relative_bound margin expected = and_then (product_of margin expected) (λ b. Ok (size_of b))

abbrev pub bound_in : Option Number → Number → Result (Option Number) NumFault
bound_in None expected = Ok None
bound_in (Some margin) expected = and_then (relative_bound margin expected) (λ b. Ok (Some b))

abbrev pub is_at_most : Number → Number → Bool
is_at_most d bound = not (is_gt (number_cmp d bound))

-- within all of them
abbrev pub is_within : List Number → Number → Bool
is_within bounds d = list_all (is_at_most d) bounds

-- The difference and all bounds are worked out first, so that one that is too wide is told whatever the others say.
abbrev pub number_passes : Margins → Number → Number → Result Bool NumFault
number_passes m expected got =
    and_then (distance expected got) (λ d. and_then (bound_in m.relative expected) (λ b. Ok (is_within (bounds_of m.absolute b) d)))

-- Values

abbrev pub same_bool : Bool → Bool → Bool
same_bool true b = b
same_bool false b = not b

abbrev pub is_near : Margins → Number → Value → Result Bool NumFault
is_near m expected (v.Number n) = number_passes m expected n
is_near m expected (v.Bool b) = Ok false
is_near m expected (v.Member i) = Ok false

abbrev pub is_bool : Bool → Value → Bool
is_bool expected (v.Number n) = false
is_bool expected (v.Bool b) = same_bool expected b
is_bool expected (v.Member i) = false

abbrev pub is_member : ℕ → Value → Bool
is_member expected (v.Number n) = false
is_member expected (v.Bool b) = false
is_member expected (v.Member i) = expected == i

-- a number is near enough, a bool or a member of an Enum the same
abbrev pub value_passes : Margins → Value → Value → Result Bool NumFault
value_passes m (v.Number expected) got = is_near m expected got
value_passes m (v.Bool expected) got = Ok (is_bool expected got)
value_passes m (v.Member expected) got = Ok (is_member expected got)

-- Outputs

-- a key without a value fails the output
abbrev pub outcome_of : {F : Type 0} → Margins → Value → Result Value F → Outcome F
outcome_of m expected (Ok got) = outcome_by got (value_passes m expected got)
outcome_of m expected (Err f) = Faulted f

abbrev pub is_passed : {F : Type 0} → Outcome F → Bool
is_passed Passed = true
is_passed (Missed got) = false
is_passed TooWide = false
is_passed (Faulted f) = false
