-- The steps of code behind `Written`:
-- How a column is written: `NAME`, `NAME#INDEX`, `NAME@PERIOD` or `NAME#INDEX@PERIOD`.
use Rattle.std.specs.Prelude.{ℕ, List, [], ◌∷◌, ◌==◌, if◌then◌else◌, Option, Some, None}
use Rattle.fisca_columns.specs.Written.{Parts, number_sign, at_sign}

-- what stands before the first such sign, and what behind it, if there is one
abbrev pub cut : ℕ → List ℕ → List ℕ × Option (List ℕ)
cut sign [] = ([], None)
cut sign (b ∷ bs) = if b == sign then ([], Some bs) else (b ∷ (cut sign bs).0, (cut sign bs).1)

-- the parts of a text, which is written in just one way
abbrev pub parts_of : List ℕ → Parts
parts_of text =
    let front = cut at_sign text in let name = cut number_sign front.0 in record { name = name.0; index = name.1; period = front.1 }
