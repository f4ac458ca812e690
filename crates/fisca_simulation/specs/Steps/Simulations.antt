-- The steps of code behind `Simulations`:
-- What the values of keys come from, in a situation under a rule set.
use Rattle.std.specs.Prelude.{ℕ, List, [], ◌∷◌, Bool, false, true, slice_get, Option, Some, None}
use Rattle.fisca_model.specs.Values.{Key}
use Rattle.fisca_model.specs.Periods.{key_period}
use Rattle.fisca_rules.specs.Rules.{DatedFormula, Rules}
use Rattle.fisca_symbols.specs.declared.variable.Variable.{Variable}

-- Formulas

abbrev pub all_dated : Option (List DatedFormula) → List DatedFormula
all_dated None = []
all_dated (Some ds) = ds

abbrev pub are_some : List DatedFormula → Bool
are_some [] = false
are_some (d ∷ ds) = true

-- whether the variable at a place has formulas, in force or not
abbrev pub has_formulas : Rules → ℕ → Bool
has_formulas r n = are_some (all_dated (slice_get r.formulas n))

-- Sources

-- a key of an eternal variable has the eternal period, whatever period it is asked for at
abbrev pub own_key : Option Variable → Key → Key
own_key None k = k
own_key (Some v) k = record k { period = key_period v.definition_period k.period }
