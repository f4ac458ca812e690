-- The steps of code behind `Check`:
-- What `fisca check` answers and writes.
use Rattle.std.specs.Prelude.{ℕ, ◌++◌, List, count_by, length, codes}
use Rattle.std.specs.Fmt.{decimal}
use Rattle.fisca_params.specs.Steps.Lookup.{is_counted}
use Rattle.fisca_rules.specs.Rules.{Rules}

-- the line of so many entities, variables, and dated parameters with scales
abbrev pub text_of_counts : ℕ → ℕ → ℕ → List ℕ
text_of_counts entities variables parameters =
    codes "entities " ++ (decimal entities ++ (codes ", variables " ++ (decimal variables ++ (codes ", parameters " ++ (decimal parameters ++ codes "\n")))))

-- the line of a rule set
abbrev pub text_of : Rules → List ℕ
text_of rules = text_of_counts (length rules.entities) (length rules.variables) (count_by is_counted rules.parameters)
