-- Literals and the numbers that they say, by their only number.
use Rattle.std.proofs.Common.{◌≡◌, [], codes, refl, sym, lit<}
use Rattle.std.specs.Prelude.{pos, negsuc, true, false, Ok}
use Rattle.fisca_num.specs.Literal.{number_of_literal, number_of_parts, digits_ratio}
use Rattle.fisca_num.specs.Number.{Number, one_number, whole_number, zero_number}
use Rattle.fisca_num.specs.Operations.{only_number_of}
use Rattle.std.proofs.Math.Nat.{eq-one_of_dvd-one}

abbrev pub half : Number
half = record {
  numerator = pos 1;
  denominator = 2;
  lowest = record { positive = lit< tt; coprime = λ k p q. eq-one_of_dvd-one p };
  within = record { above = lit< tt; below = lit< tt };
}

pub two : number_of_literal (codes "2") ≡ Ok (whole_number (pos 2) (lit< tt))
unfolding number_of_literal number_of_parts
two = sym (only_number_of (digits_ratio false (codes "2") []) (Ok (whole_number (pos 2) (lit< tt))) (record { some = lit< tt; same = refl; lowest = (whole_number (pos 2) (lit< tt)).lowest }))

pub five : number_of_literal (codes "5") ≡ Ok (whole_number (pos 5) (lit< tt))
unfolding number_of_literal number_of_parts
five = sym (only_number_of (digits_ratio false (codes "5") []) (Ok (whole_number (pos 5) (lit< tt))) (record { some = lit< tt; same = refl; lowest = (whole_number (pos 5) (lit< tt)).lowest }))

pub seven : number_of_literal (codes "7") ≡ Ok (whole_number (pos 7) (lit< tt))
unfolding number_of_literal number_of_parts
seven = sym (only_number_of (digits_ratio false (codes "7") []) (Ok (whole_number (pos 7) (lit< tt))) (record { some = lit< tt; same = refl; lowest = (whole_number (pos 7) (lit< tt)).lowest }))

pub thirty : number_of_literal (codes "30") ≡ Ok (whole_number (pos 30) (lit< tt))
unfolding number_of_literal number_of_parts
thirty = sym (only_number_of (digits_ratio false (codes "30") []) (Ok (whole_number (pos 30) (lit< tt))) (record { some = lit< tt; same = refl; lowest = (whole_number (pos 30) (lit< tt)).lowest }))

pub fifty : number_of_literal (codes "50") ≡ Ok (whole_number (pos 50) (lit< tt))
unfolding number_of_literal number_of_parts
fifty = sym (only_number_of (digits_ratio false (codes "50") []) (Ok (whole_number (pos 50) (lit< tt))) (record { some = lit< tt; same = refl; lowest = (whole_number (pos 50) (lit< tt)).lowest }))

pub hundred : number_of_literal (codes "100") ≡ Ok (whole_number (pos 100) (lit< tt))
unfolding number_of_literal number_of_parts
hundred = sym (only_number_of (digits_ratio false (codes "100") []) (Ok (whole_number (pos 100) (lit< tt))) (record { some = lit< tt; same = refl; lowest = (whole_number (pos 100) (lit< tt)).lowest }))

pub two_hundred : number_of_literal (codes "200") ≡ Ok (whole_number (pos 200) (lit< tt))
unfolding number_of_literal number_of_parts
two_hundred = sym (only_number_of (digits_ratio false (codes "200") []) (Ok (whole_number (pos 200) (lit< tt))) (record { some = lit< tt; same = refl; lowest = (whole_number (pos 200) (lit< tt)).lowest }))

pub eight_hundred : number_of_literal (codes "800") ≡ Ok (whole_number (pos 800) (lit< tt))
unfolding number_of_literal number_of_parts
eight_hundred = sym (only_number_of (digits_ratio false (codes "800") []) (Ok (whole_number (pos 800) (lit< tt))) (record { some = lit< tt; same = refl; lowest = (whole_number (pos 800) (lit< tt)).lowest }))

pub twelve_hundred : number_of_literal (codes "1200") ≡ Ok (whole_number (pos 1200) (lit< tt))
unfolding number_of_literal number_of_parts
twelve_hundred = sym (only_number_of (digits_ratio false (codes "1200") []) (Ok (whole_number (pos 1200) (lit< tt))) (record { some = lit< tt; same = refl; lowest = (whole_number (pos 1200) (lit< tt)).lowest }))

pub wide : number_of_literal (codes "2147483648") ≡ Ok (whole_number (pos 2147483648) (lit< tt))
unfolding number_of_literal number_of_parts
wide = sym (only_number_of (digits_ratio false (codes "2147483648") []) (Ok (whole_number (pos 2147483648) (lit< tt))) (record { some = lit< tt; same = refl; lowest = (whole_number (pos 2147483648) (lit< tt)).lowest }))

pub one : number_of_literal (codes "1") ≡ Ok (one_number)
unfolding number_of_literal number_of_parts
one = sym (only_number_of (digits_ratio false (codes "1") []) (Ok (one_number)) (record { some = lit< tt; same = refl; lowest = (one_number).lowest }))

pub one_point : number_of_literal (codes "1.0") ≡ Ok (one_number)
unfolding number_of_literal number_of_parts
one_point = sym (only_number_of (digits_ratio false (codes "1") (codes "0")) (Ok (one_number)) (record { some = lit< tt; same = refl; lowest = (one_number).lowest }))

pub nothing_more : number_of_literal (codes "+0") ≡ Ok (zero_number)
unfolding number_of_literal number_of_parts
nothing_more = sym (only_number_of (digits_ratio false (codes "0") []) (Ok (zero_number)) (record { some = lit< tt; same = refl; lowest = (zero_number).lowest }))

pub thirty_point : number_of_literal (codes "30.0") ≡ Ok (whole_number (pos 30) (lit< tt))
unfolding number_of_literal number_of_parts
thirty_point = sym (only_number_of (digits_ratio false (codes "30") (codes "0")) (Ok (whole_number (pos 30) (lit< tt))) (record { some = lit< tt; same = refl; lowest = (whole_number (pos 30) (lit< tt)).lowest }))

pub half_literal : number_of_literal (codes "0.5") ≡ Ok (half)
unfolding number_of_literal number_of_parts
half_literal = sym (only_number_of (digits_ratio false (codes "0") (codes "5")) (Ok (half)) (record { some = lit< tt; same = refl; lowest = (half).lowest }))

pub least : number_of_literal (codes "-2147483648") ≡ Ok (whole_number (negsuc 2147483647) (lit< tt))
unfolding number_of_literal number_of_parts
least = sym (only_number_of (digits_ratio true (codes "2147483648") []) (Ok (whole_number (negsuc 2147483647) (lit< tt))) (record { some = lit< tt; same = refl; lowest = (whole_number (negsuc 2147483647) (lit< tt)).lowest }))
