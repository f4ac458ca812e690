-- How the words of a command line are read.
use Rattle.std.specs.Prelude.{ℕ, ◌^◌, List, [], ◌∷◌, Option, Some, None, option_map, option_and_then, codes, if◌then◌else◌, ◌&&◌, nat_lt}
use Rattle.std.specs.Char.{is_ascii_digit}
use Rattle.std.specs.List.{list_all}
use Rattle.std.specs.Str.Parse.{digits_value}
use Rattle.std.specs.Result.{result_ok}
use Rattle.fisca_num.specs.Number.{Number}
use Rattle.fisca_num.specs.Literal.{number_of_literal}
use Rattle.fisca_grid.specs.declared.axes.AxisSpec.{AxisSpec}
use Rattle.fisca_grid.specs.Steps.Words.{is_identifier, around_first, around_last}
use Rattle.fisca_writer.specs.Parts.{part_in}

-- the number that decimal digits say, where there is at least one and the number is below 2^64
abbrev pub count_of : List ℕ → Option ℕ
count_of [] = None
count_of (b ∷ bs) = if list_all is_ascii_digit (b ∷ bs) && nat_lt (digits_value 10 (b ∷ bs)) (2 ^ 64) then Some (digits_value 10 (b ∷ bs)) else None

-- the number that a decimal literal writes, where it is one
abbrev pub literal_of : List ℕ → Option Number
literal_of text = result_ok (number_of_literal text)

-- the bounds that `MIN..MAX` says: two decimal literals around the first `..`
abbrev pub bounds_of : List ℕ → Option (Number × Number)
bounds_of text = option_and_then (λ parts. option_and_then (λ min. option_map (λ max. (min, max)) (literal_of parts.1)) (literal_of parts.0)) (around_first (codes "..") text)

-- an axis of these bounds and this count
abbrev pub axis_spec : Number × Number → ℕ → AxisSpec
axis_spec bounds count = record { count = count; min = bounds.0; max = bounds.1 }

-- the axis that `MIN..MAX/COUNT` says: bounds and a count around the last `/`
abbrev pub spec_of : List ℕ → Option AxisSpec
spec_of text = option_and_then (λ parts. option_and_then (λ bounds. option_map (axis_spec bounds) (count_of parts.1)) (bounds_of parts.0)) (around_last (codes "/") text)

-- the name and the axis that a word `NAME=MIN..MAX/COUNT` says
abbrev pub axis_of : List ℕ → Option (List ℕ × AxisSpec)
axis_of word = option_and_then (λ parts. option_and_then (λ spec. if is_identifier parts.0 then Some (parts.0, spec) else None) (spec_of parts.1)) (around_first (codes "=") word)

-- the number of a part and the count of parts that `I/N` says
abbrev pub part_of : List ℕ → Option (ℕ × ℕ)
part_of word = option_and_then (λ parts. option_and_then (λ number. option_and_then (λ count. part_in number count) (count_of parts.1)) (count_of parts.0)) (around_first (codes "/") word)
