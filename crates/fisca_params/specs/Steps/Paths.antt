-- The steps of code behind `Paths`:
-- Which files are parameter files, and the names in their paths.
use Rattle.std.specs.Prelude.{ℕ, nat_eq, ◌-◌, List, length, take, Option, Some, None, if◌then◌else◌, codes}
use Rattle.std.specs.List.{ends_with}

-- what stands before an ending
abbrev pub without_ending : List ℕ → List ℕ → Option (List ℕ)
without_ending ending text =
    if ends_with nat_eq text ending then Some (take (length text - length ending) text) else None

abbrev pub first_of : Option (List ℕ) → Option (List ℕ) → Option (List ℕ)
first_of (Some a) b = Some a
first_of None b = b

-- without the ending of a YAML file
abbrev pub without_yaml : List ℕ → Option (List ℕ)
without_yaml text = first_of (without_ending (codes ".yaml") text) (without_ending (codes ".yml") text)
