-- Writing periods.
use Rattle.std.proofs.Common.{◌≡◌, ℕ, ◌+◌, ◌-◌, ◌/◌, ◌%◌, ◌^◌, List, [], ◌++◌, codes, refl, true, false, ◌∙◌, append_assoc}
use Rattle.std.proofs.Math.Nat.{sub-zero}
use Rattle.std.proofs.lemmas.Bool.{eq-eqb, ne_eqb}
use Rattle.std.proofs.lemmas.List.{append-nil}
use Rattle.std.specs.Fmt.{format_spec, styled_decimal, padded_integral, char_count, decimal}
use Rattle.fisca_time.specs.Instant.{CivilDate}
use Rattle.fisca_time.specs.Period.{months}
use Rattle.fisca_time.specs.PeriodText.{digits_to, year_text, month_text, text_of, counted_text, date_text}
use Rattle.fisca_time.specs.declared.unit.Unit.TheVariants.{Day, Month, Year}

-- `{:04}` and `{:02}`
padded_digits : (count n : ℕ) → padded_integral (format_spec 32 0 4 count (2 ^ 64 - 1)) false [] (decimal n) ≡ digits_to count n
unfolding padded_integral char_count
padded_digits count n = simp (sub-zero, append-nil)

year_digits : (s : _) (n : ℕ) → s ≡ format_spec 32 0 4 4 (2 ^ 64 - 1) → styled_decimal s n ≡ digits_to 4 n
year_digits s n is = rw is (padded_digits 4 n)

short_digits : (s : _) (n : ℕ) → s ≡ format_spec 32 0 4 2 (2 ^ 64 - 1) → styled_decimal s n ≡ digits_to 2 n
short_digits s n is = rw is (padded_digits 2 n)

-- the forms of a period other than eternity, most of them as `format!` lays them out
pub day_alone : (d : CivilDate) (size : ℕ) (bytes : List ℕ) (year month day : _) → year ≡ format_spec 32 0 4 4 (2 ^ 64 - 1) → month ≡ format_spec 32 0 4 2 (2 ^ 64 - 1) → day ≡ format_spec 32 0 4 2 (2 ^ 64 - 1)
    → size ≡ 1
    → bytes ≡ styled_decimal year d.year ++ (codes "-" ++ (styled_decimal month d.month ++ (codes "-" ++ styled_decimal day d.day)))
    → bytes ≡ counted_text Day true (date_text d) size
day_alone d size bytes year month day y m n one is =
    is ∙ rw (year_digits year d.year y, short_digits month d.month m, short_digits day d.day n, eq-eqb size 1 one) (simp append_assoc)

pub days_sized : (d : CivilDate) (size : ℕ) (bytes : List ℕ) (year month day : _) → year ≡ format_spec 32 0 4 4 (2 ^ 64 - 1) → month ≡ format_spec 32 0 4 2 (2 ^ 64 - 1) → day ≡ format_spec 32 0 4 2 (2 ^ 64 - 1)
    → (size ≡ 1 → ⊥)
    → bytes ≡ codes "day:" ++ (styled_decimal year d.year ++ (codes "-" ++ (styled_decimal month d.month ++ (codes "-" ++ (styled_decimal day d.day ++ (codes ":" ++ decimal size))))))
    → bytes ≡ counted_text Day true (date_text d) size
days_sized d size bytes year month day y m n more is =
    is ∙ rw (year_digits year d.year y, short_digits month d.month m, short_digits day d.day n, ne_eqb size 1 more) (simp append_assoc)

pub month_alone : (first size : ℕ) (bytes : List ℕ) → size ≡ 1 → bytes ≡ month_text (first / 12) (first % 12 + 1) → bytes ≡ text_of (months Month first size)
month_alone first size bytes one is = is ∙ rw (eq-eqb size 1 one) refl

pub months_sized : (first size : ℕ) (bytes : List ℕ) (year month : _) → year ≡ format_spec 32 0 4 4 (2 ^ 64 - 1) → month ≡ format_spec 32 0 4 2 (2 ^ 64 - 1)
    → (size ≡ 1 → ⊥)
    → bytes ≡ codes "month:" ++ (styled_decimal year (first / 12) ++ (codes "-" ++ (styled_decimal month (first % 12 + 1) ++ (codes ":" ++ decimal size))))
    → bytes ≡ text_of (months Month first size)
months_sized first size bytes year month y m more is =
    is ∙ rw (year_digits year (first / 12) y, short_digits month (first % 12 + 1) m, ne_eqb size 1 more) (simp append_assoc)

pub year_alone : (first size : ℕ) (bytes : List ℕ) → first % 12 + 1 ≡ 1 → size ≡ 1 → bytes ≡ year_text (first / 12) → bytes ≡ text_of (months Year first size)
year_alone first size bytes january one is = is ∙ rw (eq-eqb size 1 one, eq-eqb (first % 12 + 1) 1 january) refl

pub years_sized : (first size : ℕ) (bytes : List ℕ) (year : _) → year ≡ format_spec 32 0 4 4 (2 ^ 64 - 1)
    → first % 12 + 1 ≡ 1 → (size ≡ 1 → ⊥)
    → bytes ≡ codes "year:" ++ (styled_decimal year (first / 12) ++ (codes ":" ++ decimal size))
    → bytes ≡ text_of (months Year first size)
years_sized first size bytes year y january more is =
    is ∙ rw (year_digits year (first / 12) y, ne_eqb size 1 more, eq-eqb (first % 12 + 1) 1 january) (simp append_assoc)

pub year_from_month : (first size : ℕ) (bytes : List ℕ) (year month : _) → year ≡ format_spec 32 0 4 4 (2 ^ 64 - 1) → month ≡ format_spec 32 0 4 2 (2 ^ 64 - 1)
    → (first % 12 + 1 ≡ 1 → ⊥) → size ≡ 1
    → bytes ≡ codes "year:" ++ (styled_decimal year (first / 12) ++ (codes "-" ++ styled_decimal month (first % 12 + 1)))
    → bytes ≡ text_of (months Year first size)
year_from_month first size bytes year month y m later one is =
    is ∙ rw (year_digits year (first / 12) y, short_digits month (first % 12 + 1) m, eq-eqb size 1 one, ne_eqb (first % 12 + 1) 1 later) (simp append_assoc)

pub years_from_month : (first size : ℕ) (bytes : List ℕ) (year month : _) → year ≡ format_spec 32 0 4 4 (2 ^ 64 - 1) → month ≡ format_spec 32 0 4 2 (2 ^ 64 - 1)
    → (first % 12 + 1 ≡ 1 → ⊥) → (size ≡ 1 → ⊥)
    → bytes ≡ codes "year:" ++ (styled_decimal year (first / 12) ++ (codes "-" ++ (styled_decimal month (first % 12 + 1) ++ (codes ":" ++ decimal size))))
    → bytes ≡ text_of (months Year first size)
years_from_month first size bytes year month y m later more is =
    is ∙ rw (year_digits year (first / 12) y, short_digits month (first % 12 + 1) m, ne_eqb size 1 more, ne_eqb (first % 12 + 1) 1 later) (simp append_assoc)
