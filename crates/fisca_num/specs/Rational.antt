-- Rational numbers, as pairs of a numerator and a denominator.
use Rattle.std.specs.Prelude.{◌≡◌, Bool, true, false, ℕ, suc, ◌*◌, ◌<◌, ◌^◌, ℤ, pos, negsuc, neg_ℤ, ◌+ℤ◌, ◌-ℤ◌, ◌*ℤ◌, unsigned_abs}
use Rattle.std.specs.Int.{◌∣◌}

-- the rational numerator / denominator
pub record Ratio : Type 0 where
  pub numerator : ℤ
  pub denominator : ℕ

-- both pairs stand for one rational
abbrev pub IsSame : Ratio → Ratio → Type 0
IsSame p q = p.numerator *ℤ pos q.denominator ≡ q.numerator *ℤ pos p.denominator

-- no number above 1 divides both parts
pub record IsLowest (numerator : ℤ) (denominator : ℕ) : Type 0 where
  pub positive : 0 < denominator
  pub coprime : (d : ℕ) → d ∣ unsigned_abs numerator → d ∣ denominator → d ≡ 1

-- both parts are within the limits
pub record IsWithin (numerator : ℤ) (denominator : ℕ) : Type 0 where
  pub above : unsigned_abs numerator < 2 ^ 63
  pub below : denominator < 2 ^ 63

-- v is r in lowest terms
pub record Reduces (r v : Ratio) : Type 0 where
  pub some : 0 < r.denominator
  pub same : IsSame v r
  pub lowest : IsLowest v.numerator v.denominator

-- r in lowest terms has a part beyond the limits
pub record IsTooWide (r : Ratio) : Type 0 where
  pub some : 0 < r.denominator
  pub wide : (v : Ratio) → Reduces r v → ¬ IsWithin v.numerator v.denominator

-- n, or -n
abbrev pub signed : Bool → ℕ → ℤ
signed true n = neg_ℤ (pos n)
signed false n = pos n

-- n over d, where d may be negative
abbrev pub over : ℤ → ℤ → Ratio
over n (pos d) = record { numerator = n; denominator = d }
over n (negsuc d) = record { numerator = neg_ℤ n; denominator = suc d }

abbrev pub ratio_sum : Ratio → Ratio → Ratio
ratio_sum p q = record {
  numerator = p.numerator *ℤ pos q.denominator +ℤ q.numerator *ℤ pos p.denominator;
  denominator = p.denominator * q.denominator;
}

abbrev pub ratio_difference : Ratio → Ratio → Ratio
ratio_difference p q = record {
  numerator = p.numerator *ℤ pos q.denominator -ℤ q.numerator *ℤ pos p.denominator;
  denominator = p.denominator * q.denominator;
}

abbrev pub ratio_product : Ratio → Ratio → Ratio
ratio_product p q = record {
  numerator = p.numerator *ℤ q.numerator;
  denominator = p.denominator * q.denominator;
}

-- over 0 where q is 0
abbrev pub ratio_quotient : Ratio → Ratio → Ratio
ratio_quotient p q = over (p.numerator *ℤ pos q.denominator) (q.numerator *ℤ pos p.denominator)
