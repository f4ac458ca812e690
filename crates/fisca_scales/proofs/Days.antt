-- Dates as numbers have the order of time.
use Rattle.std.proofs.Common.{◌≡◌, ℕ, ◌+◌, ◌*◌, ◌/◌, ◌%◌, ◌<◌, refl, sym, ◌∙◌, ap, arith}
use Rattle.std.proofs.Math.Dec.{leb, ltb}
use Rattle.std.proofs.lemmas.Bool.Decides.{leb_tells}
use Rattle.std.specs.Cmp.{ranks, nat_cmp_is}
use Rattle.std.specs.Ordering.{MatchOrdering, nat_cmp, ordering_then, is_le, is_lt}
use Rattle.std.specs.declared.cmp.Ordering.{Ordering}
use Rattle.std.specs.declared.cmp.Ordering.TheVariants.{Less, Equal, Greater}
use Rattle.fisca_time.specs.Instant.{CivilDate, date_cmp}
use Rattle.fisca_scales.specs.Dates.{date_of_number}
use Rattle.fisca_scales.specs.Steps.Dates.{day_number}

-- how two numbers rank
abbrev Ranks : Ordering → ℕ → ℕ → Type 0
Ranks o x y = MatchOrdering o (x < y) (x ≡ y) (y < x)

-- behind a first part that counts 256 times, a second below 256
below_256 : (o p : Ordering) (x y r s : ℕ) → Ranks o x y → Ranks p r s → r < 256 → s < 256 → Ranks (ordering_then o p) (x * 256 + r) (y * 256 + s)
below_256 Less p x y r s h k b c = omega arith
below_256 Greater p x y r s h k b c = omega arith
below_256 Equal Less x y r s h k b c = omega arith
below_256 Equal Equal x y r s h k b c = omega arith
below_256 Equal Greater x y r s h k b c = omega arith

below_65536 : (o p : Ordering) (x y r s : ℕ) → Ranks o x y → Ranks p r s → r < 65536 → s < 65536 → Ranks (ordering_then o p) (x * 65536 + r) (y * 65536 + s)
below_65536 Less p x y r s h k b c = omega arith
below_65536 Greater p x y r s h k b c = omega arith
below_65536 Equal Less x y r s h k b c = omega arith
below_65536 Equal Equal x y r s h k b c = omega arith
below_65536 Equal Greater x y r s h k b c = omega arith

days-rank : (a b : CivilDate) → a.month < 256 → a.day < 256 → b.month < 256 → b.day < 256 → Ranks (date_cmp a b) (day_number a) (day_number b)
days-rank a b m d m' d' =
    let inner : Ranks (ordering_then (nat_cmp a.month b.month) (nat_cmp a.day b.day)) (a.month * 256 + a.day) (b.month * 256 + b.day) =
    below_256 (nat_cmp a.month b.month) (nat_cmp a.day b.day) a.month b.month a.day b.day (ranks a.month b.month) (ranks a.day b.day) d d' in
    below_65536 (nat_cmp a.year b.year) (ordering_then (nat_cmp a.month b.month) (nat_cmp a.day b.day)) a.year b.year (a.month * 256 + a.day) (b.month * 256 + b.day) (ranks a.year b.year) inner (omega arith) (omega arith)

le_by_rank : (o : Ordering) (x y : ℕ) → Ranks o x y → leb x y ≡ is_le o
le_by_rank Less x y h = grind (arith, leb_tells)
le_by_rank Equal x y h = grind (arith, leb_tells)
le_by_rank Greater x y h = grind (arith, leb_tells)

number-date : (n : ℕ) → day_number (date_of_number n) ≡ n
number-date n = omega arith

pub date_of_its_number : (d : CivilDate) → d.month < 256 → d.day < 256 → date_of_number (day_number d) ≡ d
date_of_its_number d m h =
    let year : day_number d / 65536 ≡ d.year = omega arith in
    let month : day_number d / 256 % 256 ≡ d.month = omega arith in
    let day : day_number d % 256 ≡ d.day = omega arith in
    rw (year, month, day) refl

lt_by_rank : (o : Ordering) (x y : ℕ) → Ranks o x y → ltb x y ≡ is_lt o
lt_by_rank Less x y h = grind (arith, leb_tells)
lt_by_rank Equal x y h = grind (arith, leb_tells)
lt_by_rank Greater x y h = grind (arith, leb_tells)

pub before_by_number : (m n : ℕ) → ltb m n ≡ is_lt (date_cmp (date_of_number m) (date_of_number n))
before_by_number m n =
    let a = date_of_number m in
    let b = date_of_number n in
    ap (λ k. ltb k n) (sym (number-date m)) ∙ ap (λ k. ltb (day_number a) k) (sym (number-date n))
    ∙ lt_by_rank (date_cmp a b) (day_number a) (day_number b) (days-rank a b (omega arith) (omega arith) (omega arith) (omega arith))

pub reached_by_number : (n : ℕ) (b : CivilDate) → b.month < 256 → b.day < 256 → leb n (day_number b) ≡ is_le (date_cmp (date_of_number n) b)
reached_by_number n b m d =
    let date = date_of_number n in
    ap (λ k. leb k (day_number b)) (sym (number-date n))
    ∙ le_by_rank (date_cmp date b) (day_number date) (day_number b) (days-rank date b (omega arith) (omega arith) m d)

pub days_cmp : (m n : ℕ) → date_cmp (date_of_number m) (date_of_number n) ≡ nat_cmp m n
days_cmp m n =
    let a = date_of_number m in
    let b = date_of_number n in
    nat_cmp_is m n (date_cmp a b) (rw (number-date m, number-date n) at (days-rank a b (omega arith) (omega arith) (omega arith) (omega arith)))
