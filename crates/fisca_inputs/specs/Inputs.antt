-- The inputs of a situation.
use Rattle.std.specs.Prelude.{ℕ, not, List, [], ◌∷◌, ◌++◌, if◌then◌else◌, filter, Bool, Result, Ok, Err}
use Rattle.std.specs.List.{list_any}
use Rattle.fisca_num.specs.Results.{and_then}
use Rattle.fisca_inputs.specs.Defaults.{rows_of, with_defaults}
use Rattle.fisca_inputs.specs.Entries.{Entries, key, same_key}
use Rattle.fisca_inputs.specs.Faults.{at_line}
use Rattle.fisca_inputs.specs.Steps.Order.{in_order}
use Rattle.fisca_inputs.specs.Rules.{Rule}
use Rattle.fisca_inputs.specs.Sharing.{all_shared}
use Rattle.fisca_inputs.specs.declared.fault.SituationFault.{SituationFault}
use Rattle.fisca_inputs.specs.declared.fault.SituationKind.TheVariants.{InconsistentInput}
use Rattle.fisca_inputs.specs.declared.given.Given.{Given}
use Rattle.fisca_model.specs.declared.key.Key.{Key}
use Rattle.fisca_inputs.specs.Steps.Inputs.{is_marked}

-- The inputs that are given, in the order of the file, with the number of members of each kind: the shorter are shared first, and then each
-- member that has none gets the default beside another's.
abbrev pub inputs_of : List Rule → List ℕ → List Given → Result Entries SituationFault
inputs_of rules counts gs = and_then (all_shared rules (in_order rules gs) []) (λ es. with_defaults rules counts gs (rows_of es) es)

-- Reading

abbrev pub key_given : Given → Key
key_given g = key g.variable g.member g.period

-- one more, while they are read: no two of one variable, member and period
abbrev pub and_given : List Given → Given → Result (List Given) SituationFault
and_given gs g = if list_any (λ h. same_key (key_given g) (key_given h)) gs then Err (at_line g.line InconsistentInput) else Ok (gs ++ g ∷ [])

-- Neutralised variables

-- without the entries of these variables
abbrev pub without_marked : List Bool → Entries → Entries
without_marked marks es = filter (λ e. not (is_marked marks e.0.variable)) es
