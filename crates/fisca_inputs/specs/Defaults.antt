-- Defaults beside another member's input.
use Rattle.std.specs.Prelude.{◌≡◌, ◌<◌, true, ℕ, List, [], ◌∷◌, ◌++◌, if◌then◌else◌, slice_get, Option, Some, None, Result, Ok}
use Rattle.std.specs.List.{list_any}
use Rattle.fisca_num.specs.Results.{and_then}
use Rattle.fisca_inputs.specs.Entries.{Entries, key, same_key}
use Rattle.fisca_inputs.specs.Steps.Entries.{has, put_all}
use Rattle.fisca_inputs.specs.Rules.{Rule}
use Rattle.fisca_inputs.specs.declared.fault.SituationFault.{SituationFault}
use Rattle.fisca_inputs.specs.declared.given.Given.{Given}
use Rattle.fisca_model.specs.declared.key.Key.{Key}
use Rattle.fisca_model.specs.declared.value.Value.{Value}
use Rattle.fisca_inputs.specs.Steps.Defaults.{first_line, row_of, count_of}

abbrev pub row_with : ℕ → Option Value → List Key → Entries → Result Entries SituationFault
row_with line None ks es = Ok es
row_with line (Some x) ks es = put_all line x ks es

abbrev pub beside_by : Option Rule → List ℕ → List Given → Key → Entries → Result Entries SituationFault
beside_by None counts gs k es = Ok es
beside_by (Some r) counts gs k es = row_with (first_line gs k.variable) r.default (row_of k.variable (count_of counts r.entity) k.period) es

-- beside this key, each member that has no value for the variable and period gets the variable's default
abbrev pub beside : List Rule → List ℕ → List Given → Key → Entries → Result Entries SituationFault
beside rules counts gs k es = beside_by (slice_get rules k.variable) counts gs k es

-- the key of the first member stands for all at its variable and period
abbrev pub row_key : Key → Key
row_key k = key k.variable 0 k.period

abbrev pub and_row : List Key → Key → List Key
and_row rows k = if list_any (same_key k) rows then rows else rows ++ k ∷ []

abbrev pub rows_with : List Key → Entries → List Key
rows_with rows [] = rows
rows_with rows (e ∷ es) = rows_with (and_row rows (row_key e.0)) es

-- the variables and periods that some member has a value for, each once
abbrev pub rows_of : Entries → List Key
rows_of es = rows_with [] es

-- the first members, so many, have a value for the variable and period of this key
abbrev pub HaveFirst : Entries → Key × ℕ → Type 0
HaveFirst es row = (m : ℕ) → m < row.1 → has es (key row.0.variable m row.0.period) ≡ true

-- beside each of these
abbrev pub with_defaults : List Rule → List ℕ → List Given → List Key → Entries → Result Entries SituationFault
with_defaults rules counts gs [] es = Ok es
with_defaults rules counts gs (k ∷ ks) es = and_then (beside rules counts gs k es) (with_defaults rules counts gs ks)
