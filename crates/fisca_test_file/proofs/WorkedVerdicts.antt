-- The definition of verdicts, and of what is told of them, worked out on small ones.
use Rattle.std.proofs.Common.{◌≡◌, ℕ, ◌*◌, ◌%◌, List, [], ◌∷◌, ◌++◌, codes, refl, sym, lit<, ap, ◌∙◌, ◌<◌, ◌^◌, unsigned_abs, arith, length}
use Rattle.std.specs.Prelude.{pos, negsuc, Bool, true, false, Some, None, Result, Ok, Err, if◌then◌else◌, ◌==◌}
use Rattle.std.proofs.Math.Nat.{eq-one_of_dvd-one}
use Rattle.std.proofs.lemmas.Nat.Gcd.{IsGcd-from_mod, IsGcd-from_zero}
use Rattle.std.specs.Int.{IsGcd}
use Rattle.fisca_num.specs.Lowest.{IsCoprime}
use Rattle.std.specs.Fmt.{decimal}
use Rattle.fisca_inputs.specs.Entries.{key}
use Rattle.fisca_model.specs.declared.value.Value.{Value}
use Rattle.fisca_model.specs.declared.value.Value.TheVariants as v
use Rattle.fisca_model.specs.declared.key.Key.{Key}
use Rattle.fisca_groups.specs.declared.entity_members.EntityMembers.{EntityMembers}
use Rattle.fisca_num.specs.Number.{Number, ratio_of, whole_number, zero_number}
use Rattle.fisca_num.specs.Operations.{difference_of, only_number_of, product_of}
use Rattle.fisca_num.specs.Rational.{IsTooWide, ratio_difference, ratio_product}
use Rattle.std.proofs.lemmas.Int.{unsigned_abs-mul}
use Rattle.fisca_num.specs.Text.{text_of as number_text}
use Rattle.fisca_num.specs.declared.faults.NumFault.{NumFault}
use Rattle.fisca_num.specs.declared.faults.NumFault.TheVariants as number
use Rattle.fisca_time.specs.Period.{Span, months}
use Rattle.fisca_time.specs.PeriodText.{text_of as period_text}
use Rattle.fisca_time.specs.declared.unit.Unit.TheVariants as unit
use Rattle.fisca_model.specs.Tables.{Tables, Variable}
use Rattle.fisca_model.specs.declared.value_type.ValueType.{ValueType}
use Rattle.fisca_model.specs.declared.value_type.ValueType.TheVariants as type
use Rattle.fisca_test_file.specs.Report.{TestContext, test_context, counts_text, output_line, report_text, verdict_text}
use Rattle.fisca_test_file.specs.Tests.{Test}
use Rattle.fisca_test_file.specs.Verdicts.{outcome_by}
use Rattle.fisca_test_file.specs.Steps.Verdicts.{value_passes}
use Rattle.fisca_test_file.specs.declared.outcome.Outcome.{Outcome}
use Rattle.fisca_test_file.specs.declared.outcome.Outcome.TheVariants as outcome
use Rattle.fisca_test_file.specs.declared.margins.Margins.{Margins}

-- Numbers of so many hundredths more than a whole number

one_more_hundredth : (n : ℕ) → n % 100 ≡ 1 → IsCoprime n 100
one_more_hundredth n e k p q =
    let gcd : IsGcd n 100 1 = IsGcd-from_mod n 100 1 (rw e (IsGcd-from_mod 100 1 1 (IsGcd-from_zero 1 0 refl))) in
    eq-one_of_dvd-one (gcd.2 k p q)

abbrev over_seventy_one : Number
over_seventy_one = record {
  numerator = pos 7101;
  denominator = 100;
  lowest = record { positive = lit< tt; coprime = one_more_hundredth 7101 refl };
  within = record { above = lit< tt; below = lit< tt };
}

abbrev one_over : Number
one_over = record {
  numerator = pos 101;
  denominator = 100;
  lowest = record { positive = lit< tt; coprime = one_more_hundredth 101 refl };
  within = record { above = lit< tt; below = lit< tt };
}

abbrev over_two_hundred_two : Number
over_two_hundred_two = record {
  numerator = pos 20201;
  denominator = 100;
  lowest = record { positive = lit< tt; coprime = one_more_hundredth 20201 refl };
  within = record { above = lit< tt; below = lit< tt };
}

abbrev two_over : Number
two_over = record {
  numerator = pos 201;
  denominator = 100;
  lowest = record { positive = lit< tt; coprime = one_more_hundredth 201 refl };
  within = record { above = lit< tt; below = lit< tt };
}

abbrev hundredth : Number
hundredth = record {
  numerator = pos 1;
  denominator = 100;
  lowest = record { positive = lit< tt; coprime = one_more_hundredth 1 refl };
  within = record { above = lit< tt; below = lit< tt };
}

abbrev one : Number
one = whole_number (pos 1) (lit< tt)

abbrev two : Number
two = whole_number (pos 2) (lit< tt)

abbrev minus_one : Number
minus_one = whole_number (negsuc 0) (lit< tt)

abbrev minus_two : Number
minus_two = whole_number (negsuc 1) (lit< tt)

abbrev sixty_nine : Number
sixty_nine = whole_number (pos 69) (lit< tt)

abbrev seventy : Number
seventy = whole_number (pos 70) (lit< tt)

abbrev seventy_one : Number
seventy_one = whole_number (pos 71) (lit< tt)

abbrev two_hundred : Number
two_hundred = whole_number (pos 200) (lit< tt)

abbrev two_hundred_two : Number
two_hundred_two = whole_number (pos 202) (lit< tt)

abbrev minus_two_hundred : Number
minus_two_hundred = whole_number (negsuc 199) (lit< tt)

abbrev greatest : Number
greatest = whole_number (pos 9223372036854775807) (lit< tt)

abbrev minus_greatest : Number
minus_greatest = whole_number (negsuc 9223372036854775806) (lit< tt)

-- Differences and products, by their only number

one_above : difference_of seventy_one seventy ≡ Ok one
unfolding difference_of
one_above = sym (only_number_of (ratio_difference (ratio_of seventy_one) (ratio_of seventy)) (Ok one) (record { some = lit< tt; same = refl; lowest = one.lowest }))

one_below : difference_of sixty_nine seventy ≡ Ok minus_one
unfolding difference_of
one_below = sym (only_number_of (ratio_difference (ratio_of sixty_nine) (ratio_of seventy)) (Ok minus_one) (record { some = lit< tt; same = refl; lowest = minus_one.lowest }))

more_above : difference_of over_seventy_one seventy ≡ Ok one_over
unfolding difference_of
more_above = sym (only_number_of (ratio_difference (ratio_of over_seventy_one) (ratio_of seventy)) (Ok one_over) (record { some = lit< tt; same = refl; lowest = one_over.lowest }))

none_between : difference_of seventy seventy ≡ Ok zero_number
unfolding difference_of
none_between = sym (only_number_of (ratio_difference (ratio_of seventy) (ratio_of seventy)) (Ok zero_number) (record { some = lit< tt; same = refl; lowest = zero_number.lowest }))

two_above : difference_of two_hundred_two two_hundred ≡ Ok two
unfolding difference_of
two_above = sym (only_number_of (ratio_difference (ratio_of two_hundred_two) (ratio_of two_hundred)) (Ok two) (record { some = lit< tt; same = refl; lowest = two.lowest }))

more_than_two_above : difference_of over_two_hundred_two two_hundred ≡ Ok two_over
unfolding difference_of
more_than_two_above = sym (only_number_of (ratio_difference (ratio_of over_two_hundred_two) (ratio_of two_hundred)) (Ok two_over) (record { some = lit< tt; same = refl; lowest = two_over.lowest }))

same_below_zero : difference_of minus_two_hundred minus_two_hundred ≡ Ok zero_number
unfolding difference_of
same_below_zero = sym (only_number_of (ratio_difference (ratio_of minus_two_hundred) (ratio_of minus_two_hundred)) (Ok zero_number) (record { some = lit< tt; same = refl; lowest = zero_number.lowest }))

hundredth_of_two_hundred : product_of hundredth two_hundred ≡ Ok two
unfolding product_of
hundredth_of_two_hundred = sym (only_number_of (ratio_product (ratio_of hundredth) (ratio_of two_hundred)) (Ok two) (record { some = lit< tt; same = refl; lowest = two.lowest }))

hundredth_of_its_negation : product_of hundredth minus_two_hundred ≡ Ok minus_two
unfolding product_of
hundredth_of_its_negation = sym (only_number_of (ratio_product (ratio_of hundredth) (ratio_of minus_two_hundred)) (Ok minus_two) (record { some = lit< tt; same = refl; lowest = minus_two.lowest }))

abbrev the_wide : Outcome ℕ
the_wide = outcome.TooWide

-- Verdicts on numbers

abbrev exact : Margins
exact = record { absolute = None; relative = None }

abbrev within : Number → Margins
within a = record { absolute = Some a; relative = None }

abbrev share : Number → Margins
share r = record { absolute = None; relative = Some r }

abbrev both : Number → Number → Margins
both a r = record { absolute = Some a; relative = Some r }

abbrev verdict : Margins → Number → Number → Result Bool NumFault
verdict m expected got = value_passes m (v.Number expected) (v.Number got)

equal : verdict exact seventy seventy ≡ Ok true
equal = rw none_between refl

not_equal : verdict exact seventy seventy_one ≡ Ok false
not_equal = rw one_above refl

-- at most the margin, on either side
near : verdict (within one) seventy seventy_one ≡ Ok true
near = rw one_above refl

near_below : verdict (within one) seventy sixty_nine ≡ Ok true
near_below = rw one_below refl

far : verdict (within one) seventy over_seventy_one ≡ Ok false
far = rw more_above refl

no_room : verdict (within zero_number) seventy seventy_one ≡ Ok false
no_room = rw one_above refl

-- a hundredth of 200 is 2
near_by_share : verdict (share hundredth) two_hundred two_hundred_two ≡ Ok true
near_by_share = rw (two_above, hundredth_of_two_hundred) refl

far_by_share : verdict (share hundredth) two_hundred over_two_hundred_two ≡ Ok false
far_by_share = rw (more_than_two_above, hundredth_of_two_hundred) refl

-- the size of the product counts
share_of_a_number_below_zero : verdict (share hundredth) minus_two_hundred minus_two_hundred ≡ Ok true
share_of_a_number_below_zero = rw (same_below_zero, hundredth_of_its_negation) refl

-- both margins have to hold
one_margin_of_two : verdict (both one hundredth) two_hundred two_hundred_two ≡ Ok false
one_margin_of_two = rw (two_above, hundredth_of_two_hundred) refl

both_margins : verdict (both two hundredth) two_hundred two_hundred_two ≡ Ok true
both_margins = rw (two_above, hundredth_of_two_hundred) refl

-- What is too wide: the difference, or the share, whatever the other margin says

too_wide : IsTooWide (ratio_difference (ratio_of greatest) (ratio_of minus_greatest))
too_wide = record {
  some = lit< tt;
  wide = λ r h w.
      let same : unsigned_abs r.numerator * 1 ≡ 18446744073709551614 * r.denominator =
      sym (unsigned_abs-mul r.numerator (pos 1)) ∙ ap unsigned_abs h.same ∙ unsigned_abs-mul (pos 18446744073709551614) (pos r.denominator) in
      let some : 0 < r.denominator = h.lowest.positive in
      let within : unsigned_abs r.numerator < 2 ^ 63 = w.above in
      omega arith;
}

whole_way : difference_of greatest minus_greatest ≡ Err number.TooWide
unfolding difference_of
whole_way = sym (only_number_of (ratio_difference (ratio_of greatest) (ratio_of minus_greatest)) (Err number.TooWide) too_wide)

twice_the_greatest : IsTooWide (ratio_product (ratio_of two) (ratio_of greatest))
twice_the_greatest = record {
  some = lit< tt;
  wide = λ r h w.
      let same : unsigned_abs r.numerator * 1 ≡ 18446744073709551614 * r.denominator =
      sym (unsigned_abs-mul r.numerator (pos 1)) ∙ ap unsigned_abs h.same ∙ unsigned_abs-mul (pos 18446744073709551614) (pos r.denominator) in
      let some : 0 < r.denominator = h.lowest.positive in
      let within : unsigned_abs r.numerator < 2 ^ 63 = w.above in
      omega arith;
}

wide_share : product_of two greatest ≡ Err number.TooWide
unfolding product_of
wide_share = sym (only_number_of (ratio_product (ratio_of two) (ratio_of greatest)) (Err number.TooWide) twice_the_greatest)

none_at_all : difference_of greatest greatest ≡ Ok zero_number
unfolding difference_of
none_at_all = sym (only_number_of (ratio_difference (ratio_of greatest) (ratio_of greatest)) (Ok zero_number) (record { some = lit< tt; same = refl; lowest = zero_number.lowest }))

wide_difference : verdict (within greatest) minus_greatest greatest ≡ Err number.TooWide
wide_difference = rw whole_way refl

-- also where the difference is 0
wide_bound : verdict (both one two) greatest greatest ≡ Err number.TooWide
wide_bound = rw (none_at_all, wide_share) refl

told_of_what_is_too_wide : outcome_by (v.Number greatest) (verdict (both one two) greatest greatest) ≡ the_wide
told_of_what_is_too_wide = rw (none_at_all, wide_share) refl

-- Other values

same_bools : value_passes exact (v.Bool true) (v.Bool true) ≡ Ok true
same_bools = refl

other_bools : value_passes (within one) (v.Bool false) (v.Bool true) ≡ Ok false
other_bools = refl

same_members : value_passes exact (v.Member 1) (v.Member 1) ≡ Ok true
same_members = refl

other_members : value_passes (within one) (v.Member 0) (v.Member 1) ≡ Ok false
other_members = refl

-- What is told: a number of a person, a bool and an Enum

abbrev variable : List ℕ → ValueType → Variable
variable name t = record { name = name; entity = 0; value_type = Some t; definition_period = unit.Month }

abbrev country : Tables
country = record {
  entities = [];
  enums = record { name = codes "Occupancy"; members = codes "tenant" ∷ codes "owner" ∷ [] } ∷ [];
  variables = variable (codes "contribution") type.Number ∷ variable (codes "owns") type.Bool ∷ variable (codes "occupancy") (type.Enum 0) ∷ variable (codes "bare") type.Number ∷ [];
  nodes = [];
}

abbrev persons : List EntityMembers
persons = record { names = codes "person" ∷ []; homes = [] } ∷ []

abbrev january : Span
january = months unit.Month (12 * 2017) 1

abbrev at : ℕ → Key
at x = key x 0 january

-- the first variable is this number, the second is true, the third its second member, and the fourth divides by 0
abbrev answer : Number → Key → Result Value ℕ
answer n k = if k.variable == 0 then Ok (v.Number n) else if k.variable == 1 then Ok (v.Bool true) else if k.variable == 2 then Ok (v.Member 1) else Err k.variable

abbrev where_it_is : Number → TestContext ℕ
where_it_is n = test_context country persons (answer n) (λ f. codes "ZeroDivisor") (λ f. Some (at f))

abbrev nameless_fault : Number → TestContext ℕ
nameless_fault n = test_context country persons (answer n) (λ f. codes "Lost") (λ f. None)

-- a key, as it is told
abbrev told : List ℕ → List ℕ
told name = (name ++ codes " ") ++ ((codes "person" ++ codes " ") ++ period_text january)

near_is_told : verdict_text (where_it_is seventy_one) 1 (Some (codes "near")) (within one) ((at 0, v.Number seventy) ∷ []) ≡ codes "ok near\n" ++ []
near_is_told = rw one_above refl

far_is_told : verdict_text (where_it_is over_seventy_one) 2 (Some (codes "far")) (within one) ((at 0, v.Number seventy) ∷ [])
    ≡ codes "failed far\n" ++ (((codes "  " ++ (told (codes "contribution") ++ codes ": ")) ++ ((codes "expected " ++ (number_text seventy ++ (codes ", got " ++ number_text over_seventy_one))) ++ codes "\n")) ++ [])
far_is_told = rw more_above refl

nameless : verdict_text (where_it_is one) 12 None exact [] ≡ (codes "ok " ++ ((codes "test " ++ decimal 12) ++ codes "\n")) ++ []
nameless = refl

empty_name : verdict_text (where_it_is one) 3 (Some []) exact [] ≡ codes "ok \n"
empty_name = refl

other_bool_is_told : output_line (where_it_is one) exact (at 1, v.Bool false) ≡ (codes "  " ++ (told (codes "owns") ++ codes ": ")) ++ codes "expected false, got true\n"
other_bool_is_told = refl

other_member_is_told : output_line (where_it_is one) exact (at 2, v.Member 0)
    ≡ (codes "  " ++ (told (codes "occupancy") ++ codes ": ")) ++ ((codes "expected " ++ (codes "tenant" ++ (codes ", got " ++ codes "owner"))) ++ codes "\n")
other_member_is_told = refl

fault_is_told : output_line (where_it_is one) exact (at 3, v.Number one) ≡ (codes "  " ++ (told (codes "bare") ++ codes ": ")) ++ ((codes "ZeroDivisor" ++ (codes " " ++ told (codes "bare"))) ++ codes "\n")
fault_is_told = refl

fault_without_a_key : output_line (nameless_fault one) exact (at 3, v.Number one) ≡ (codes "  " ++ (told (codes "bare") ++ codes ": ")) ++ codes "Lost\n"
fault_without_a_key = refl

-- an output that passed has no line, and one that failed fails the test
second_fails : verdict_text (where_it_is one) 1 (Some (codes "both")) exact ((at 1, v.Bool true) ∷ (at 1, v.Bool false) ∷ [])
    ≡ codes "failed both\n" ++ ((codes "  " ++ (told (codes "owns") ++ codes ": ")) ++ codes "expected false, got true\n" ++ [])
second_fails = refl

-- A file of two tests, in one of which a penny more comes out

abbrev far_test : Test
far_test = record { name = Some (codes "far"); situation = record { members = persons; inputs = (at 0, v.Number one) ∷ [] }; margins = within one; outputs = (at 0, v.Number seventy) ∷ [] }

abbrev near_test : Test
near_test = record { name = Some (codes "near"); situation = record { members = persons; inputs = [] }; margins = within one; outputs = (at 0, v.Number seventy) ∷ [] }

abbrev test_context_in : Test → TestContext ℕ
test_context_in t = where_it_is (if length t.situation.inputs == 0 then seventy_one else over_seventy_one)

two_tests : report_text test_context_in (near_test ∷ far_test ∷ [])
    ≡ (codes "ok near\n" ++ (codes "failed far\n" ++ (((codes "  " ++ (told (codes "contribution") ++ codes ": ")) ++ ((codes "expected " ++ (number_text seventy ++ (codes ", got " ++ number_text over_seventy_one))) ++ codes "\n")) ++ []) ++ []))
    ++ (codes "passed " ++ (decimal 1 ++ (codes ", failed " ++ (decimal 1 ++ codes "\n"))))
two_tests = rw (one_above, more_above) refl

no_tests : report_text test_context_in [] ≡ codes "passed " ++ (decimal 0 ++ (codes ", failed " ++ (decimal 0 ++ codes "\n")))
no_tests = refl

counts : counts_text 1 12 ≡ codes "passed " ++ (decimal 1 ++ (codes ", failed " ++ (decimal 12 ++ codes "\n")))
counts = refl
