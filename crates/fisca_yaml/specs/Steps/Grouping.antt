-- The steps of code behind `Grouping`:
-- The lines, grouped by their depth, and what they stand for.
use Rattle.std.specs.Prelude.{ℕ, List, [], ◌∷◌, Bool, true, ◌==◌, ◌||◌, ◌&&◌, nat_le, if◌then◌else◌}
use Rattle.fisca_yaml_scalars.specs.Characters.{plus_sign, dash}
use Rattle.fisca_yaml_scalars.specs.Steps.Scalars.{ends_line}

-- a sign or a digit
abbrev pub is_sign : ℕ → Bool
is_sign b = (b == plus_sign) || ((b == dash) || (nat_le 48 b && nat_le b 57))

-- what may follow `|` or `>`: signs, blanks and a comment
abbrev pub is_header : List ℕ → Bool
is_header [] = true
is_header (b ∷ bs) = if is_sign b then is_header bs else ends_line (b ∷ bs)
