-- The steps of code behind `Defaults`:
-- Defaults beside another member's input.
use Rattle.std.specs.Prelude.{ℕ, ◌==◌, List, [], ◌∷◌, map, if◌then◌else◌, slice_get}
use Rattle.std.specs.List.{range_with_len}
use Rattle.std.specs.Option.{unwrap_or}
use Rattle.fisca_time.specs.Period.{Span}
use Rattle.fisca_inputs.specs.Entries.{key}
use Rattle.fisca_inputs.specs.declared.given.Given.{Given}
use Rattle.fisca_model.specs.declared.key.Key.{Key}

-- the line of the first input of a variable, in the order of the file
abbrev pub first_line : List Given → ℕ → ℕ
first_line [] x = 0
first_line (g ∷ gs) x = if g.variable == x then g.line else first_line gs x

-- the keys of all members at one period
abbrev pub row_of : ℕ → ℕ → Span → List Key
row_of x count p = map (λ m. key x m p) (range_with_len 0 count)

-- how many persons or groups there are of a kind
abbrev pub count_of : List ℕ → ℕ → ℕ
count_of counts entity = unwrap_or (slice_get counts entity) 0
