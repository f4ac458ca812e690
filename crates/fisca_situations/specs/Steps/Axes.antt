-- The steps of code behind `Axes`:
-- An axis in a situation: an input of its variable, member and period, with the value 0 for that of any step, is put in among those that are given, or in the
-- place of theirs, and all are shared anew.
use Rattle.std.specs.Prelude.{List, [], ◌∷◌, Bool, map, nat_lt, if◌then◌else◌, Option, Some, None, Result, Ok, Err, slice_get}
use Rattle.fisca_inputs.specs.Entries.{Entries, same_key}
use Rattle.fisca_inputs.specs.Faults.{at_line}
use Rattle.fisca_inputs.specs.Inputs.{inputs_of, key_given, without_marked}
use Rattle.fisca_inputs.specs.Steps.Overlaps.{overlaps}
use Rattle.fisca_inputs.specs.Rules.{rule_of}
use Rattle.fisca_inputs.specs.declared.fault.SituationFault.{SituationFault}
use Rattle.fisca_inputs.specs.declared.fault.SituationKind.{SituationKind}
use Rattle.fisca_inputs.specs.declared.fault.SituationKind.TheVariants.{UnknownVariable, UnknownPerson, BadValue, InconsistentInput}
use Rattle.fisca_inputs.specs.declared.given.Given.{Given}
use Rattle.fisca_model.specs.declared.value.Value.TheVariants.{Number}
use Rattle.fisca_model.specs.declared.key.Key.{Key}
use Rattle.fisca_model.specs.Periods.{key_period}
use Rattle.fisca_num.specs.Number.{zero_number}
use Rattle.fisca_num.specs.Results.{and_then}
use Rattle.fisca_groups.specs.Lookup.{count_at, counts_of}
use Rattle.fisca_groups.specs.declared.entity_members.EntityMembers.{EntityMembers}
use Rattle.fisca_symbols.specs.declared.tables.Tables.{Tables}
use Rattle.fisca_symbols.specs.declared.variable.Variable.{Variable}
use Rattle.fisca_situations.specs.Steps.Slots.{has_numbers}

-- one input put in, or in the place of that of just this variable, member and period
abbrev pub put_in : List Given → Given → List Given
put_in [] g = g ∷ []
put_in (h ∷ hs) g = if same_key (key_given h) (key_given g) then g ∷ hs else h ∷ put_in hs g

-- no line says what a call asks for
abbrev pub refused : {X : Type 0} → SituationKind → Result X SituationFault
refused k = Err (at_line 0 k)

abbrev pub of_no_line : {X : Type 0} → Result X SituationFault → Result X SituationFault
of_no_line (Ok x) = Ok x
of_no_line (Err f) = refused f.kind

-- The input

-- the period of an eternal variable is the eternal one
abbrev pub moved : Variable → Key → Given
moved x k = record { variable = k.variable; member = k.member; period = key_period x.definition_period k.period; value = Number zero_number; line = 0 }

-- an input of just this period is replaced; one of another that shares a day with it contradicts it
abbrev pub moved_apart : List Given → Given → Result Given SituationFault
moved_apart gs g = if overlaps gs g.variable g.member g.period then refused InconsistentInput else Ok g

abbrev pub moved_by_member : Bool → List Given → Variable → Key → Result Given SituationFault
moved_by_member there gs x k = if there then moved_apart gs (moved x k) else refused UnknownPerson

-- the variable has numbers, and the member is there
abbrev pub moved_by : List EntityMembers → List Given → Key → Option Variable → Result Given SituationFault
moved_by ms gs k None = refused UnknownVariable
moved_by ms gs k (Some x) =
    if has_numbers x.value_type then moved_by_member (nat_lt k.member (count_at ms x.entity)) gs x k else refused BadValue

abbrev pub moved_of : Tables → List EntityMembers → List Given → Key → Result Given SituationFault
moved_of c ms gs k = moved_by ms gs k (slice_get c.variables k.variable)

-- The situation

abbrev pub shared_anew : Tables → List Bool → List EntityMembers → List Given → Result Entries SituationFault
shared_anew c neutral ms gs =
    of_no_line (and_then (inputs_of (map rule_of c.variables) (counts_of ms) gs) (λ es. Ok (without_marked neutral es)))
