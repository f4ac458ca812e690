-- The steps of code behind `Sharing`:
-- Given inputs, one after another, as values of keys.
use Rattle.std.specs.Prelude.{ℕ, pos, ◌*◌, ◌==◌, List, map, if◌then◌else◌, Option, Some, None, Result, Ok, Err}
use Rattle.std.specs.Ordering.{int_eq}
use Rattle.fisca_num.specs.Number.{Number}
use Rattle.fisca_num.specs.Rational.{Ratio}
use Rattle.fisca_num.specs.Operations.{number_of, difference_of}
use Rattle.fisca_num.specs.declared.faults.NumFault.{NumFault}
use Rattle.fisca_num.specs.Results.{and_then}
use Rattle.fisca_time.specs.Period.{subs}
use Rattle.fisca_time.specs.declared.unit.Unit.{Unit}
use Rattle.fisca_inputs.specs.Entries.{Entries, key}
use Rattle.fisca_inputs.specs.Steps.Entries.{put_all}
use Rattle.fisca_inputs.specs.Faults.{at_line}
use Rattle.fisca_inputs.specs.Rules.{Rule}
use Rattle.fisca_inputs.specs.declared.fault.SituationFault.{SituationFault}
use Rattle.fisca_inputs.specs.declared.fault.SituationKind.TheVariants.{BadValue, InconsistentInput}
use Rattle.fisca_inputs.specs.declared.given.Given.{Given}
use Rattle.fisca_model.specs.declared.key.Key.{Key}
use Rattle.fisca_model.specs.declared.value.Value.{Value}
use Rattle.fisca_model.specs.declared.value.Value.TheVariants as v

-- what is too wide is a bad value
abbrev pub computed : ℕ → Result Number NumFault → Result Number SituationFault
computed line (Ok n) = Ok n
computed line (Err e) = Err (at_line line BadValue)

-- Dividing

abbrev pub without : ℕ → Option Value → Number → Result Number SituationFault
without line None n = Ok n
without line (Some (v.Number m)) n = computed line (difference_of n m)
without line (Some (v.Bool b)) n = Err (at_line line BadValue)
without line (Some (v.Member i)) n = Err (at_line line BadValue)

-- one of so many equal parts of a number
abbrev pub part_ratio : Number → ℕ → Ratio
part_ratio n count = record { numerator = n.numerator; denominator = n.denominator * count }

abbrev pub share_of : ℕ → Number → ℕ → Result Number SituationFault
share_of line n count = computed line (number_of (part_ratio n count))

-- equally over those that have none; where all have one, nothing may be left
abbrev pub spread : ℕ → ℕ → List Key → Entries → Number → Result Entries SituationFault
spread line count ks es n =
    if count == 0 then (if int_eq n.numerator (pos 0) then Ok es else Err (at_line line InconsistentInput))
    else and_then (share_of line n count) (λ share. put_all line (v.Number share) ks es)

-- One given input

-- the keys of the parts of a period by the definition period, in order of time
abbrev pub parts_by : Unit → Given → List Key
parts_by unit g = map (λ p. key g.variable g.member p) (subs g.period unit)

abbrev pub parts_of : Rule → Given → List Key
parts_of r g = parts_by r.unit g
