-- The steps of code behind `Entries`:
-- Values by keys: a finite map, as the list of its entries.
use Rattle.std.specs.Prelude.{ℕ, Bool, nat_lt, if◌then◌else◌, List, [], ◌∷◌, ◌++◌, length, Result, Ok, Err}
use Rattle.std.specs.Option.{is_some}
use Rattle.fisca_num.specs.Results.{and_then}
use Rattle.fisca_inputs.specs.Faults.{at_line}
use Rattle.fisca_inputs.specs.declared.fault.SituationFault.{SituationFault}
use Rattle.fisca_inputs.specs.declared.fault.SituationKind.TheVariants.{TooMany}
use Rattle.fisca_model.specs.declared.key.Key.{Key}
use Rattle.fisca_model.specs.declared.value.Value.{Value}
use Rattle.fisca_inputs.specs.Entries.{Entries, value_at, limit}

abbrev pub has : Entries → Key → Bool
has es k = is_some (value_at es k)

-- one entry more, at most a hundred thousand; a fault is told of this line
abbrev pub put : ℕ → Key → Value → Entries → Result Entries SituationFault
put line k x es = if nat_lt (length es) limit then Ok (es ++ (k, x) ∷ []) else Err (at_line line TooMany)

abbrev pub put_free : ℕ → Value → Key → Entries → Result Entries SituationFault
put_free line x k es = if has es k then Ok es else put line k x es

-- each of these keys that has no value gets this one
abbrev pub put_all : ℕ → Value → List Key → Entries → Result Entries SituationFault
put_all line x [] es = Ok es
put_all line x (k ∷ ks) es = and_then (put_free line x k es) (put_all line x ks)
