-- The definitions of values and of scale sums, worked out on small parameters.
use Rattle.std.proofs.Common.{◌≡◌, ℕ, ◌<◌, ◌*◌, ◌^◌, List, [], ◌∷◌, Some, None, refl, sym, lit<}
use Rattle.std.specs.Prelude.{pos, negsuc, Bool, true, false, Ok, Err}
use Rattle.std.proofs.Math.Nat.{eq-one_of_dvd-one}
use Rattle.fisca_num.specs.Rational.{IsSame, ratio_sum, ratio_difference, ratio_product}
use Rattle.fisca_num.specs.Number.{Number, ratio_of, whole_number, zero_number}
use Rattle.fisca_num.specs.Operations.{sum_of, difference_of, product_of, only_number_of}
use Rattle.fisca_time.specs.Instant.{CivilDate}
use Rattle.fisca_scales.specs.declared.fault.ParamFault.TheVariants as fault
use Rattle.fisca_scales.specs.Dates.{Dated, value_at}
use Rattle.fisca_scales.specs.Steps.Dates.{in_time}
use Rattle.fisca_scales.specs.Scale.{ScaleText, scale_sum}

abbrev day : ℕ → ℕ → ℕ → CivilDate
day y m d = record { year = y; month = m; day = d }

abbrev from : {V : Type 0} → CivilDate → V → Dated V
from date v = record { date = date; value = Some v }

abbrev none_from : {V : Type 0} → CivilDate → Dated V
none_from date = record { date = date; value = None }

abbrev whole : (n : ℕ) → n < 2 ^ 63 → Number
whole n h = whole_number (pos n) h

-- 1 / d
abbrev part : (d : ℕ) → 0 < d → d < 2 ^ 63 → Number
part d some h = record {
  numerator = pos 1;
  denominator = d;
  lowest = record { positive = some; coprime = λ k p q. eq-one_of_dvd-one p };
  within = record { above = lit< tt; below = h };
}

-- The age of majority is 18 from the first of July 1962 on.
majority : List (Dated ℕ)
majority = from (day 1962 7 1) 18 ∷ []

before_majority : value_at majority (day 1962 6 30) ≡ None
unfolding majority
before_majority = refl

on_its_day : value_at majority (day 1962 7 1) ≡ Some 18
unfolding majority
on_its_day = refl

-- dates in any order, a null, and a date that comes twice
changed : List (Dated ℕ)
changed = in_time (none_from (day 2010 1 1) ∷ from (day 2000 1 1) 1 ∷ from (day 2005 6 1) 2 ∷ from (day 2015 1 1) 3 ∷ [])

the_latest : value_at changed (day 2009 12 31) ≡ Some 2
unfolding changed
the_latest = refl

none_after_null : value_at changed (day 2014 12 31) ≡ None
unfolding changed
none_after_null = refl

again : value_at changed (day 2015 1 1) ≡ Some 3
unfolding changed
again = refl

-- the number that stands for a sum, a difference or a product
sum_is : (a b v : Number) → IsSame (ratio_of v) (ratio_sum (ratio_of a) (ratio_of b)) → 0 < a.denominator * b.denominator → sum_of a b ≡ Ok v
unfolding sum_of
sum_is a b v same some = sym (only_number_of (ratio_sum (ratio_of a) (ratio_of b)) (Ok v) (record { some = some; same = same; lowest = v.lowest }))

difference_is : (a b v : Number) → IsSame (ratio_of v) (ratio_difference (ratio_of a) (ratio_of b)) → 0 < a.denominator * b.denominator → difference_of a b ≡ Ok v
unfolding difference_of
difference_is a b v same some = sym (only_number_of (ratio_difference (ratio_of a) (ratio_of b)) (Ok v) (record { some = some; same = same; lowest = v.lowest }))

product_is : (a b v : Number) → IsSame (ratio_of v) (ratio_product (ratio_of a) (ratio_of b)) → 0 < a.denominator * b.denominator → product_of a b ≡ Ok v
unfolding product_of
product_is a b v same some = sym (only_number_of (ratio_product (ratio_of a) (ratio_of b)) (Ok v) (record { some = some; same = same; lowest = v.lowest }))

abbrev since : Number → List (Dated Number)
since v = from (day 2013 1 1) v ∷ []

abbrev n0 : Number
n0 = zero_number

abbrev n1000 : Number
n1000 = whole 1000 (lit< tt)

abbrev fiftieth : Number
fiftieth = part 50 (lit< tt) (lit< tt)

abbrev tenth : Number
tenth = part 10 (lit< tt) (lit< tt)

-- the contribution: 2 percent from 0 on, 10 percent from 1000 on
abbrev contribution : ScaleText
contribution = record {
  is_single_amount = false;
  brackets = record { threshold = since n0; rate = since fiftieth; amount = [] } ∷ record { threshold = since n1000; rate = since tenth; amount = [] } ∷ [];
}

of_1500 : scale_sum contribution (day 2016 11 1) (whole 1500 (lit< tt)) ≡ Ok (whole 70 (lit< tt))
of_1500 =
    rw (
      difference_is n1000 n0 n1000 refl (lit< tt),
      product_is fiftieth n1000 (whole 20 (lit< tt)) refl (lit< tt),
      sum_is n0 (whole 20 (lit< tt)) (whole 20 (lit< tt)) refl (lit< tt),
      difference_is (whole 1500 (lit< tt)) n1000 (whole 500 (lit< tt)) refl (lit< tt),
      product_is tenth (whole 500 (lit< tt)) (whole 50 (lit< tt)) refl (lit< tt),
      sum_is (whole 20 (lit< tt)) (whole 50 (lit< tt)) (whole 70 (lit< tt)) refl (lit< tt),
    ) refl

of_1000 : scale_sum contribution (day 2016 11 1) n1000 ≡ Ok (whole 20 (lit< tt))
of_1000 =
    rw (difference_is n1000 n0 n1000 refl (lit< tt), product_is fiftieth n1000 (whole 20 (lit< tt)) refl (lit< tt), sum_is n0 (whole 20 (lit< tt)) (whole 20 (lit< tt)) refl (lit< tt)) refl

below_0 : scale_sum contribution (day 2016 11 1) (whole_number (negsuc 4) (lit< tt)) ≡ Ok n0
below_0 = refl

before_2013 : scale_sum contribution (day 2012 12 31) n1000 ≡ Err fault.Undefined
before_2013 = refl

-- amounts 5 from 0 on and 20 from 1000 on, written in the other order
abbrev amounts : Bool → ScaleText
amounts single = record {
  is_single_amount = single;
  brackets = record { threshold = since n1000; rate = []; amount = since (whole 20 (lit< tt)) } ∷ record { threshold = since n0; rate = []; amount = since (whole 5 (lit< tt)) } ∷ [];
}

marginal_at_its_threshold : scale_sum (amounts false) (day 2016 11 1) n1000 ≡ Ok (whole 5 (lit< tt))
marginal_at_its_threshold = rw (sum_is n0 (whole 5 (lit< tt)) (whole 5 (lit< tt)) refl (lit< tt)) refl

single_at_its_threshold : scale_sum (amounts true) (day 2016 11 1) n1000 ≡ Ok (whole 20 (lit< tt))
single_at_its_threshold = refl

-- two brackets from 0 on
abbrev equal : ScaleText
equal = record {
  is_single_amount = false;
  brackets = record { threshold = since n0; rate = since fiftieth; amount = [] } ∷ record { threshold = since n0; rate = since tenth; amount = [] } ∷ [];
}

two_from_0 : scale_sum equal (day 2016 11 1) n1000 ≡ Err fault.BadScale
two_from_0 = refl
