-- The steps of code behind `Slots`:
-- What an axis moves: the keys of its inputs, and what stands at these where it has a value. To turn a slot is to set the inputs of its keys anew, where
-- all others stay.
use Rattle.std.specs.Prelude.{ℕ, ◌==◌, List, [], ◌∷◌, length, map, Bool, true, false, if◌then◌else◌, Option, Some, None, Result, Ok, Err, slice_get}
use Rattle.fisca_inputs.specs.Anew.{set_keys}
use Rattle.fisca_inputs.specs.Entries.{Entries, key}
use Rattle.fisca_inputs.specs.Steps.Inputs.{is_marked}
use Rattle.fisca_inputs.specs.Rules.{Rule, rule_of}
use Rattle.fisca_inputs.specs.Steps.Sharing.{part_ratio}
use Rattle.fisca_inputs.specs.declared.given.Given.{Given}
use Rattle.fisca_model.specs.declared.value.Value.TheVariants as value
use Rattle.fisca_model.specs.declared.key.Key.{Key}
use Rattle.fisca_model.specs.Periods.{fits, key_period}
use Rattle.fisca_num.specs.Number.{Number}
use Rattle.fisca_num.specs.Operations.{number_of}
use Rattle.fisca_num.specs.declared.faults.NumFault.{NumFault}
use Rattle.fisca_num.specs.declared.faults.NumFault.TheVariants.{ZeroDivisor}
use Rattle.fisca_symbols.specs.declared.tables.Tables.{Tables}
use Rattle.fisca_symbols.specs.declared.variable.DeclaredType.{DeclaredType}
use Rattle.fisca_symbols.specs.declared.variable.DeclaredType.TheVariants as type
use Rattle.fisca_symbols.specs.declared.variable.SetInput.{SetInput}
use Rattle.fisca_symbols.specs.declared.variable.SetInput.TheVariants.{DivideByPeriod, DispatchByPeriod}
use Rattle.fisca_symbols.specs.declared.variable.Variable.{Variable}
use Rattle.fisca_time.specs.Period.{Span, subs}
use Rattle.fisca_situations.specs.Steps.Cuts.{cut_for}
use Rattle.fisca_situations.specs.Slots.{Slot, slot_with}

abbrev pub keys_of : Slot → List Key
keys_of s = map (λ p. key s.variable s.member p) s.periods

-- The slot of an axis

-- an axis moves numbers
abbrev pub has_numbers : DeclaredType → Bool
has_numbers type.Float = true
has_numbers type.Int = true
has_numbers _ = false

-- the period itself where it is of the definition period, and else its parts
abbrev pub periods_of : Rule → Given → List Span
periods_of r g = if fits r.unit g.period then key_period r.unit g.period ∷ [] else subs g.period r.unit

abbrev pub divides : Option SetInput → Bool
divides None = false
divides (Some DivideByPeriod) = true
divides (Some DispatchByPeriod) = false

-- the parts of its period get equal shares of the value, and not each the whole
abbrev pub is_divided : Rule → Given → Bool
is_divided r g = if fits r.unit g.period then false else divides r.set_input

-- a neutralised variable has no inputs
abbrev pub slot_by : Bool → Option Variable → ℕ → Given → Slot
slot_by neutral None wheel g = slot_with wheel g type.Float false []
slot_by true (Some x) wheel g = slot_with wheel g x.value_type false []
slot_by false (Some x) wheel g = slot_with wheel g x.value_type (is_divided (rule_of x) g) (periods_of (rule_of x) g)

abbrev pub slot_of : Tables → List Bool → ℕ → Given → Slot
slot_of c neutral wheel g = slot_by (is_marked neutral g.variable) (slice_get c.variables g.variable) wheel g

-- Turning

abbrev pub part_of : ℕ → Number → Result Number NumFault
part_of count v = if count == 0 then Err ZeroDivisor else number_of (part_ratio v count)

abbrev pub share_by : Bool → ℕ → Number → Result Number NumFault
share_by true count v = part_of count v
share_by false count v = Ok v

-- what each key gets of a value of the axis, which is cut where the variable has whole numbers
abbrev pub share_in : Slot → Number → Result Number NumFault
share_in s v = share_by s.is_divided (length s.periods) (cut_for s.value_type v)

abbrev pub set_share : List Key → Result Number NumFault → Entries → Entries
set_share ks (Ok n) es = set_keys ks (value.Number n) es
set_share ks (Err f) es = es

-- The inputs, where those of a slot are set anew. A share that is too wide sets none: no value of an axis of an accepted
-- file has one, since its inputs can be shared at each position (`positions_have_situations` of `fisca_commands`).
abbrev pub turned : Slot → Number → Entries → Entries
turned s v es = set_share (keys_of s) (share_in s v) es
