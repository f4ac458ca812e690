-- The steps of code behind `Casts`:
-- What a formula's result becomes as a value of its variable.
use Rattle.std.specs.Prelude.{ℤ, pos, negsuc, Bool, nat_lt, if◌then◌else◌}
use Rattle.std.specs.Ordering.{is_eq}
use Rattle.fisca_num.specs.Number.{Number, number_cmp, zero_number}
use Rattle.fisca_num.specs.Operations.{number_over}
use Rattle.fisca_key_semantics.specs.Dialogues.{Dialogue, fails, computed, too_wide}

-- a whole number of 32 bits, of which one is the sign
abbrev pub fits_int : ℤ → Bool
fits_int (pos m) = nat_lt m 2147483648
fits_int (negsuc m) = nat_lt m 2147483648

abbrev pub if_int : ℤ → Dialogue
if_int n = if fits_int n then computed (number_over n (pos 1)) else fails too_wide

abbrev pub is_zero : Number → Bool
is_zero n = is_eq (number_cmp n zero_number)
