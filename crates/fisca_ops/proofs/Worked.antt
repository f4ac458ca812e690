-- The definitions of casts, persons and totals, worked out on small ones.
use Rattle.std.proofs.Common.{◌≡◌, ℕ, ℤ, pos, negsuc, [], ◌∷◌, ◌<◌, ◌^◌, unsigned_abs, refl, lit<}
use Rattle.std.specs.Prelude.{true, false, Some, None, ◌==◌, if◌then◌else◌}
use Rattle.fisca_key_semantics.specs.Dialogues.{Dialogue, gives, fails, stuck, computed, too_wide}
use Rattle.fisca_model.specs.Values.{number, bool, member}
use Rattle.fisca_typing.specs.Meaning.{total_over}
use Rattle.fisca_model.specs.Groups.{Groups}
use Rattle.fisca_num.specs.Number.{zero_number, one_number, whole_number}
use Rattle.fisca_num.specs.Operations.{number_over}
use Rattle.fisca_num.specs.Rational.{IsLowest, IsWithin}
use Rattle.fisca_symbols.specs.declared.variable.DeclaredType.TheVariants as declared
use Rattle.fisca_model.specs.Tables.{whole_role, subrole_of}
use Rattle.fisca_model.specs.declared.role_place.RolePlace.{RolePlace}
use Rattle.fisca_typing.specs.declared.operations.Total.TheVariants as total
use Rattle.fisca_ops.specs.Casts.{cast}
use Rattle.fisca_ops.specs.Persons.{persons_from, first}
use Rattle.fisca_ops.specs.Totals.{step_of}
use Rattle.fisca_ops.specs.Steps.Totals.{beginning}

-- Casts

abbrev cast_number : (n : ℤ) → unsigned_abs n < 2 ^ 63 → Dialogue
cast_number n h = cast declared.Int (number (whole_number n h))

bool_as_number : cast declared.Float (bool true) ≡ gives (number one_number)
bool_as_number = refl

bool_as_whole_number : cast declared.Int (bool false) ≡ computed (number_over (pos 0) (pos 1))
bool_as_whole_number = refl

cut_towards_zero : (l : IsLowest (pos 7) 2) (w : IsWithin (pos 7) 2)
    → cast declared.Int (number (record { numerator = pos 7; denominator = 2; lowest = l; within = w })) ≡ computed (number_over (pos 3) (pos 1))
cut_towards_zero l w = refl

cut_below_zero : (l : IsLowest (negsuc 6) 2) (w : IsWithin (negsuc 6) 2)
    → cast declared.Int (number (record { numerator = negsuc 6; denominator = 2; lowest = l; within = w })) ≡ computed (number_over (negsuc 2) (pos 1))
cut_below_zero l w = refl

highest : cast_number (pos 2147483647) (lit< tt) ≡ computed (number_over (pos 2147483647) (pos 1))
highest = refl

above : cast_number (pos 2147483648) (lit< tt) ≡ fails too_wide
above = refl

lowest : cast_number (negsuc 2147483647) (lit< tt) ≡ computed (number_over (negsuc 2147483647) (pos 1))
lowest = refl

below : cast_number (negsuc 2147483648) (lit< tt) ≡ fails too_wide
below = refl

nothing_is_false : cast declared.Bool (number zero_number) ≡ gives (bool false)
nothing_is_false = refl

below_zero_is_true : cast declared.Bool (number (whole_number (negsuc 0) (lit< tt))) ≡ gives (bool true)
below_zero_is_true = refl

member_stays : cast (declared.Enum 0) (member 3) ≡ gives (member 3)
member_stays = refl

member_is_no_number : cast declared.Float (member 3) ≡ stuck
member_is_no_number = refl

days_have_no_values : cast declared.Date (number zero_number) ≡ stuck
days_have_no_values = refl

-- Persons: 5 and 9 in the first subrole, 7 in the second role

abbrev role_at : ℕ → RolePlace
role_at p = if p == 7 then whole_role 1 else subrole_of 0 0

abbrev g : Groups
g = record { group_of = λ e p. 2; role_of = λ e p. role_at p; persons = λ e m. 5 ∷ 7 ∷ 9 ∷ [] }

any_person : persons_from g 0 3 None 1 ≡ 7 ∷ 9 ∷ []
any_person = refl

of_the_role : persons_from g 0 3 (Some (whole_role 0)) 0 ≡ 5 ∷ 9 ∷ []
of_the_role = refl

behind_the_first : persons_from g 0 3 (Some (whole_role 0)) 1 ≡ 9 ∷ []
behind_the_first = refl

of_another_subrole : first (persons_from g 0 3 (Some (subrole_of 0 1)) 0) ≡ None
of_another_subrole = refl

-- Totals: what they are of nobody, and of one person more

abbrev each : ℕ → Dialogue
each m = gives (bool (m == 5))

any_of_nobody : total_over total.Any each [] ≡ gives (bool false)
any_of_nobody = refl

beginning_of_all : beginning total.All ≡ Some (bool true)
beginning_of_all = refl

all_of_two : total_over total.All each (5 ∷ 7 ∷ []) ≡ gives (bool false)
all_of_two = refl

one_more_in_any : step_of total.Any (bool false) (bool true) ≡ gives (bool true)
one_more_in_any = refl
