-- What the value of a key comes from, beside the sources of keys.
use Rattle.std.specs.Prelude.{◌≡◌, true, false, Some}
use Rattle.fisca_check.specs.Formulas.{formula_view}
use Rattle.fisca_groups.specs.Grouped.{grouped}
use Rattle.fisca_inputs.specs.Entries.{value_at}
use Rattle.fisca_inputs.specs.Steps.Inputs.{is_marked}
use Rattle.fisca_inputs.specs.Steps.Rules.{default_of}
use Rattle.fisca_key_semantics.specs.Answers.{formula, known, refused}
use Rattle.fisca_key_semantics.specs.Inquiry.{of_key}
use Rattle.fisca_model.specs.Seen.{key_of, value_seen}
use Rattle.fisca_model.specs.Values.{Key}
use Rattle.fisca_model.specs.declared.value.Value.{Value as Given}
use Rattle.fisca_simulation.specs.Simulations.{Simulation, formula_of, sources, variable_of, worked_out}
use Rattle.fisca_symbols.specs.declared.variable.Variable.{Variable}
use Rattle.fisca_explain.specs.declared.origin.Origin.{Origin}
use Rattle.fisca_explain.specs.declared.origin.Origin.TheVariants as origin

-- its variable's default
abbrev pub IsDefault : Simulation → Key → Type 0
IsDefault m k = (v : Variable) × (x : Given) × (variable_of m.rules k ≡ Some v) × (default_of v.default_value ≡ Some x) × (sources m k ≡ known (value_seen x))

abbrev pub IsOrigin : Simulation → Key → Origin → Type 0
IsOrigin m k origin.Unfit = sources m k ≡ refused
IsOrigin m k origin.Input = (x : Given) × (value_at m.situation.inputs (key_of k) ≡ Some x) × (sources m k ≡ known (value_seen x))
IsOrigin m k origin.Default = (is_marked m.neutral k.variable ≡ false) × IsDefault m k
IsOrigin m k origin.Neutral = (is_marked m.neutral k.variable ≡ true) × IsDefault m k
IsOrigin m k (origin.Formula v f) =
    (variable_of m.rules k ≡ Some v.now) × (formula_of m.rules m.neutral v.now k ≡ Some (formula_view f.now))
    × (sources m k ≡ formula (of_key k (worked_out m.rules (grouped m.situation.members) v.now k (formula_view f.now))))
