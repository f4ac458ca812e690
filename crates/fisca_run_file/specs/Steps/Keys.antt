-- The steps of code behind `Keys`:
-- The keys of a run file: `axes`, and perhaps `period`, `input`, `filter`, `columns` and `neutralize`.
use Rattle.std.specs.Prelude.{ℕ, List, Bool, true, ◌&&◌, ◌||◌, is_some, if◌then◌else◌, codes}
use Rattle.std.specs.Str.{bytes_eq}
use Rattle.fisca_columns.specs.Steps.Calc.{period_in, are_columns}
use Rattle.fisca_yaml.specs.Node.{Node}

-- A period that can be read, any input, and one scalar or a list of scalars for columns, conditions and names to neutralise; beside `axes` there is no
-- other key.
abbrev pub is_accepted : List ℕ → Node → Bool
is_accepted key n =
    if bytes_eq key (codes "period") then is_some (period_in n)
    else (if bytes_eq key (codes "input") then true
    else ((bytes_eq key (codes "columns") || (bytes_eq key (codes "filter") || bytes_eq key (codes "neutralize"))) && are_columns n))
