-- What is kept of a period: one number, of its unit above the number of its first month or day above its size, in the order of periods. It gives the period, and the period gives it back.
use Rattle.std.specs.Prelude.{◌≡◌, ℕ, zero, suc, ◌+◌, ◌*◌, ◌/◌, ◌%◌, ◌≤◌, true, Bool, ◌&&◌, ◌==◌, nat_le, refl}
use Rattle.std.proofs.Common.{ap, sym, ◌∙◌, arith}
use Rattle.std.proofs.Math.Dec.{eqb}
use Rattle.std.proofs.lemmas.Bool.{and_parts, eqb-true, leb-true}
use Rattle.std.proofs.lemmas.Cmp.{nat_cmp_total, on_total, then_total}
use Rattle.std.specs.Cmp.{IsTotalOrder, unsigned_ties}
use Rattle.std.specs.Ordering.{nat_cmp, is_eq, ordering_then}
use Rattle.std.specs.declared.cmp.Ordering.{Ordering}
use Rattle.std.specs.declared.cmp.Ordering.TheVariants.{Less, Equal, Greater}
use Rattle.fisca_time.specs.Period.{Span, span_cmp, eternity, months, days, unit_of, first_of, size_of, is_period}
use Rattle.fisca_time.specs.Unit.{rank, unit_ranked}
use Rattle.fisca_time.specs.declared.period.Period.TheInside.{Inside}
use Rattle.fisca_time.specs.declared.unit.Unit.{Unit}
use Rattle.fisca_time.specs.declared.unit.Unit.TheVariants.{Day, Month, Year, Eternity}

abbrev pub span_of : Unit → ℕ → ℕ → Span
span_of Day first size = days first size
span_of Month first size = months Month first size
span_of Year first size = months Year first size
span_of Eternity first size = eternity

-- eternity has neither a start nor a size
abbrev pub is_kept : Unit → ℕ → ℕ → Bool
is_kept Day first size = is_period (days first size)
is_kept Month first size = is_period (months Month first size)
is_kept Year first size = is_period (months Year first size)
is_kept Eternity first size = (first == 0) && (size == 0)

abbrev pub key_from : Unit → ℕ → ℕ → ℕ
key_from unit first size = (rank unit * 4_294_967_296 + first) * 65_536 + size

abbrev pub span_of_key : ℕ → Span
span_of_key key = span_of (unit_ranked (key / 281_474_976_710_656)) (key / 65_536 % 4_294_967_296) (key % 65_536)

abbrev pub is_key : ℕ → Bool
is_key key = nat_le (key / 281_474_976_710_656) 3 && is_kept (unit_ranked (key / 281_474_976_710_656)) (key / 65_536 % 4_294_967_296) (key % 65_536)

abbrev pub key_of : Span → ℕ
key_of p = key_from (unit_of p) (first_of p) (size_of p)

abbrev pub kept_of : Span → Inside
kept_of p = record { key = key_of p }

gives_back : (unit : Unit) (first size : ℕ) → is_kept unit first size ≡ true → key_of (span_of unit first size) ≡ key_from unit first size
gives_back Day first size h = refl
gives_back Month first size h = refl
gives_back Year first size h = refl
gives_back Eternity first size h =
    let both = and_parts (eqb first 0) (eqb size 0) h in
    let start : ℕ → ℕ = λ n. key_from Eternity n 0 in
    let whole : ℕ → ℕ = λ n. key_from Eternity first n in
    ap start (sym (eqb-true first 0 both.0)) ∙ ap whole (sym (eqb-true size 0 both.1))

rank_back : (n : ℕ) → n ≤ 3 → rank (unit_ranked n) ≡ n
rank_back zero h = refl
rank_back (suc zero) h = refl
rank_back (suc (suc zero)) h = refl
rank_back (suc (suc (suc n))) h = omega arith

key_back : (key : ℕ) → key / 281_474_976_710_656 ≤ 3 → key_from (unit_ranked (key / 281_474_976_710_656)) (key / 65_536 % 4_294_967_296) (key % 65_536) ≡ key
key_back key h = rw (rank_back (key / 281_474_976_710_656) h) (omega arith)

pub kept_back : (a : Inside) → is_key a.key ≡ true → kept_of (span_of_key a.key) ≡ a
kept_back a h =
    let key = a.key in
    let both = and_parts (nat_le (key / 281_474_976_710_656) 3) (is_kept (unit_ranked (key / 281_474_976_710_656)) (key / 65_536 % 4_294_967_296) (key % 65_536)) h in
    let kept : ℕ → Inside = λ n. record { key = n } in
    ap kept (gives_back (unit_ranked (key / 281_474_976_710_656)) (key / 65_536 % 4_294_967_296) (key % 65_536) both.1 ∙ key_back key (leb-true (key / 281_474_976_710_656) 3 both.0))

both_equal : (a b : Ordering) → is_eq (ordering_then a b) ≡ true → (is_eq a ≡ true) × (is_eq b ≡ true)
both_equal Less b h = cc
both_equal Equal b h = (refl, h)
both_equal Greater b h = cc

tied : (x y : ℕ) → is_eq (nat_cmp x y) ≡ true → x ≡ y
tied x y h = eqb-true x y (unsigned_ties x y ∙ h)

-- periods that the order does not tell apart have one key
pub same_key : (p q : Span) → is_eq (span_cmp p q) ≡ true → key_of p ≡ key_of q
same_key p q h =
    let units = nat_cmp (rank (unit_of p)) (rank (unit_of q)) in
    let starts = nat_cmp (first_of p) (first_of q) in
    let sizes = nat_cmp (size_of p) (size_of q) in
    let x = both_equal units (ordering_then starts sizes) h in
    let y = both_equal starts sizes x.1 in
    rw (tied (rank (unit_of p)) (rank (unit_of q)) x.0, tied (first_of p) (first_of q) y.0, tied (size_of p) (size_of q) y.1) refl

pub span_total : IsTotalOrder span_cmp
span_total = then_total (on_total unit_of (on_total rank nat_cmp_total)) (then_total (on_total first_of nat_cmp_total) (on_total size_of nat_cmp_total))
