-- The characters of numbers, as their bytes.
use Rattle.std.specs.Prelude.{ℕ}

abbrev pub plus : ℕ
plus = 43

abbrev pub minus : ℕ
minus = 45

abbrev pub point : ℕ
point = 46

abbrev pub slash : ℕ
slash = 47

abbrev pub zero_digit : ℕ
zero_digit = 48

abbrev pub underscore : ℕ
underscore = 95
