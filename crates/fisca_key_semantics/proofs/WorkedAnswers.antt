-- Values within a fuel and answers beside their sentences.
use Rattle.std.proofs.Common.{◌≡◌, ℕ, zero, suc, List, [], ◌∷◌, true, refl}
use Rattle.std.specs.Prelude.{Some, false, slice_get, Ok, Err}
use Rattle.std.specs.Option.{unwrap_or}
use Rattle.fisca_num.specs.Number.{one_number}
use Rattle.fisca_time.specs.Period.{eternity, months}
use Rattle.fisca_time.specs.declared.unit.Unit.TheVariants as unit
use Rattle.fisca_model.specs.Values.{Value, Key, number}
use Rattle.fisca_key_semantics.specs.Dialogues as d
use Rattle.fisca_key_semantics.specs.Answers.{Source, Sources, fault, out, refused, known, formula, value_within, answer, first_again, verdict}
use Rattle.fisca_model.specs.Causes.{fault_at, zero_divisor, period_mismatch, cycle, too_deep, stuck}
use Rattle.fisca_key_semantics.specs.Inquiry.{gives, fails, asks, of_key}
use Rattle.fisca_key_semantics.specs.Keys.{same_key}

abbrev at : ℕ → Key
at m = record { variable = 0; member = m; period = eternity }

abbrev one : Value
one = number one_number

-- For members one after another: a period that does not fit; an input or a default; formulas that give a value, that fail, that ask for
-- the input, for the one that fails, for themselves, for one that asks for itself, for each other, and at a period that does not fit.
abbrev listed : List Source
listed =
    refused
    ∷ known one
    ∷ formula (gives one)
    ∷ formula (fails (fault_at zero_divisor (at 3)))
    ∷ formula (asks (at 1) gives)
    ∷ formula (asks (at 3) gives)
    ∷ formula (asks (at 6) gives)
    ∷ formula (asks (at 6) gives)
    ∷ formula (asks (at 9) gives)
    ∷ formula (asks (at 8) gives)
    ∷ formula (asks (at 0) gives)
    ∷ []

abbrev src : Sources
src k = unwrap_or (slice_get listed k.member) refused

-- A period that does not fit comes first, even without fuel.
refused_without_fuel : value_within src 0 (at 0) ≡ Err (fault (fault_at period_mismatch (at 0)))
unfolding value_within
refused_without_fuel = refl

-- Without fuel there is a chain of the key alone, also where there is an input.
no_fuel : value_within src 0 (at 1) ≡ Err (out (at 1 ∷ []))
unfolding value_within
no_fuel = refl

-- An input or a default is the value.
input_is_the_value : value_within src 1 (at 1) ≡ Ok one
unfolding value_within
input_is_the_value = refl

-- What the formula gives is the value, and its fault the fault.
formula_gives : value_within src 1 (at 2) ≡ Ok one
unfolding value_within
formula_gives = refl

formula_fails : value_within src 1 (at 3) ≡ Err (fault (fault_at zero_divisor (at 3)))
unfolding value_within
formula_fails = refl

-- A formula's questions are answered with one fuel less, and a chain below goes on from its key.
too_little_fuel : value_within src 1 (at 4) ≡ Err (out (at 4 ∷ at 1 ∷ []))
unfolding value_within
too_little_fuel = refl

enough_fuel : value_within src 2 (at 4) ≡ Ok one
unfolding value_within
enough_fuel = refl

-- The fault of a key that is asked for stays, and names that key; so does a period that does not fit.
fault_stays : answer src (at 5) ≡ Err (fault_at zero_divisor (at 3))
unfolding value_within answer
fault_stays = refl

mismatch_names_the_key_asked_for : answer src (at 10) ≡ Err (fault_at period_mismatch (at 0))
unfolding value_within answer
mismatch_names_the_key_asked_for = refl

-- A key that needs itself is a cycle, which names the first key of the chain that comes again.
asks_for_itself : answer src (at 6) ≡ Err (fault_at cycle (at 6))
unfolding value_within answer
asks_for_itself = refl

asks_for_a_cycle : answer src (at 7) ≡ Err (fault_at cycle (at 6))
unfolding value_within answer
asks_for_a_cycle = refl

ask_for_each_other : answer src (at 8) ≡ Err (fault_at cycle (at 8))
unfolding value_within answer
ask_for_each_other = refl

-- A hundred keys may ask for one another; a hundred and one are too many, also where the last has an input. That names the key first asked for.
abbrev counting : Sources
counting k = by k.member where
  by : ℕ → Source
  by zero = known one
  by (suc m) = formula (asks (at m) gives)

hundred_keys : answer counting (at 99) ≡ Ok one
unfolding value_within answer
hundred_keys = refl

one_key_more : answer counting (at 100) ≡ Err (fault_at too_deep (at 100))
unfolding value_within answer
one_key_more = refl

-- The first key that stands again, and not the one that comes again first.
first_that_stands_again : first_again (at 1 ∷ at 2 ∷ at 3 ∷ at 3 ∷ at 2 ∷ []) ≡ Some (at 2)
first_that_stands_again = refl

no_key_twice : verdict (at 5) (at 1 ∷ at 2 ∷ []) ≡ fault_at too_deep (at 5)
no_key_twice = refl

-- A formula's own faults are told of its key, the mismatch of a period that it asks for of the key asked for.
own_fault : of_key (at 1) (d.fails d.zero_divisor) ≡ fails (fault_at zero_divisor (at 1))
own_fault = refl

mismatch_of_another : of_key (at 1) (d.fails (d.period_mismatch (at 2))) ≡ fails (fault_at period_mismatch (at 2))
mismatch_of_another = refl

stuck_is_a_fault : of_key (at 1) d.stuck ≡ fails (fault_at stuck (at 1))
stuck_is_a_fault = refl

-- Keys differ by variable, member or period; a year and its twelve months are not one period.
same : same_key (at 1) (at 1) ≡ true
same = refl

other_member : same_key (at 1) (at 2) ≡ false
other_member = refl

other_period : same_key (record { variable = 0; member = 1; period = months unit.Year 24204 1 }) (record { variable = 0; member = 1; period = months unit.Month 24204 12 }) ≡ false
other_period = refl
