-- Given inputs, one after another, as values of keys.
use Rattle.std.specs.Prelude.{ℕ, suc, List, [], ◌∷◌, if◌then◌else◌, slice_get, Option, Some, None, Result, Ok, Err}
use Rattle.fisca_model.specs.Periods.{fits, key_period}
use Rattle.fisca_num.specs.Number.{Number}
use Rattle.fisca_num.specs.Results.{and_then}
use Rattle.fisca_symbols.specs.declared.variable.SetInput.{SetInput}
use Rattle.fisca_symbols.specs.declared.variable.SetInput.TheVariants as sharing
use Rattle.fisca_inputs.specs.Entries.{Entries, key, value_at}
use Rattle.fisca_inputs.specs.Steps.Entries.{has, put, put_all}
use Rattle.fisca_inputs.specs.Faults.{at_line}
use Rattle.fisca_inputs.specs.Rules.{Rule}
use Rattle.fisca_inputs.specs.Steps.Rules.{is_longer}
use Rattle.fisca_inputs.specs.declared.fault.SituationFault.{SituationFault}
use Rattle.fisca_inputs.specs.declared.fault.SituationKind.TheVariants.{UnknownVariable, BadValue, PeriodMismatch, InconsistentInput}
use Rattle.fisca_inputs.specs.declared.given.Given.{Given}
use Rattle.fisca_model.specs.declared.key.Key.{Key}
use Rattle.fisca_model.specs.declared.value.Value.{Value}
use Rattle.fisca_model.specs.declared.value.Value.TheVariants as v
use Rattle.fisca_inputs.specs.Steps.Sharing.{without, spread, parts_of}

-- Dividing

-- a number less the values that these keys have, one after another
abbrev pub rest_of : ℕ → Entries → List Key → Number → Result Number SituationFault
rest_of line es [] n = Ok n
rest_of line es (k ∷ ks) n = and_then (without line (value_at es k) n) (rest_of line es ks)

abbrev pub count_free : Entries → List Key → ℕ
count_free es [] = 0
count_free es (k ∷ ks) = if has es k then count_free es ks else suc (count_free es ks)

-- the number less what the parts have already is shared over those that have nothing
abbrev pub divided : ℕ → Number → List Key → Entries → Result Entries SituationFault
divided line n ks es = and_then (rest_of line es ks n) (spread line (count_free es ks) ks es)

abbrev pub divided_value : ℕ → Value → List Key → Entries → Result Entries SituationFault
divided_value line (v.Number n) ks es = divided line n ks es
divided_value line (v.Bool b) ks es = Err (at_line line BadValue)
divided_value line (v.Member i) ks es = Err (at_line line BadValue)

-- One given input

-- of its own definition period: no two of one key
abbrev pub alone : ℕ → Key → Value → Entries → Result Entries SituationFault
alone line k x es = if has es k then Err (at_line line InconsistentInput) else put line k x es

-- dispatched, each part that has no value gets the whole
abbrev pub over_parts : Option SetInput → Given → List Key → Entries → Result Entries SituationFault
over_parts None g ks es = Err (at_line g.line PeriodMismatch)
over_parts (Some sharing.DivideByPeriod) g ks es = divided_value g.line g.value ks es
over_parts (Some sharing.DispatchByPeriod) g ks es = put_all g.line g.value ks es

-- its key where it is of the definition period
abbrev pub own_key : Rule → Given → Key
own_key r g = key g.variable g.member (key_period r.unit g.period)

abbrev pub shared : Rule → Given → Entries → Result Entries SituationFault
shared r g es =
    if fits r.unit g.period then alone g.line (own_key r g) g.value es
    else (if is_longer r.unit g.period then over_parts r.set_input g (parts_of r g) es else Err (at_line g.line PeriodMismatch))

abbrev pub shared_by : Option Rule → Given → Entries → Result Entries SituationFault
shared_by None g es = Err (at_line g.line UnknownVariable)
shared_by (Some r) g es = shared r g es

-- one after another
abbrev pub all_shared : List Rule → List Given → Entries → Result Entries SituationFault
all_shared rules [] es = Ok es
all_shared rules (g ∷ gs) es = and_then (shared_by (slice_get rules g.variable) g es) (all_shared rules gs)
