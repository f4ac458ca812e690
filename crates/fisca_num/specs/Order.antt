-- The laws of the order of rationals.
use Rattle.std.proofs.Common.{◌≡◌, ℕ, ◌+◌, ◌*◌, ◌<◌, ℤ, pos, ◌*ℤ◌, unsigned_abs, arith, ap, sym, ◌∙◌, refl, inl, inr, ◌&&◌, ◌==◌, true}
use Rattle.std.proofs.lemmas.Int.{ints, unsigned_abs-mul}
use Rattle.fisca_num.specs.Lowest.{lowest_same}
use borrow.Author.Differences.{up, down, product_is, same_in}
use Rattle.std.proofs.lemmas.Bool.{cases_lt, and_parts}
use Rattle.std.proofs.Math.Nat.{mul-lt-mul_of_pos_left, mul-le-mul_left, eq_of_mul-eq-mul_left}
use Rattle.std.proofs.lemmas.Cmp.{ranked, int_cmp_total, int_ranked}
use Rattle.std.specs.Cmp.{IsTotalOrder, nat_cmp_is, both_ways, Equal-is}
use Rattle.std.proofs.lemmas.Cmp.{tied_itself}
use borrow.Author.Tests.{eqb-true, eq-eqb}
use Rattle.std.specs.declared.cmp.Ordering.{Ordering}
use Rattle.std.specs.declared.cmp.Ordering.TheVariants.{Less, Equal, Greater}
use Rattle.std.specs.Ordering.{int_cmp, nat_cmp, MatchOrdering, int_eq, eq_by_cmp, is_eq}
use Rattle.fisca_num.specs.Number.{Number, number_cmp}

-- the order of integers, by numbers
by_parts : (x y : ℤ) (r : Ordering) → r ≡ int_cmp x y → MatchOrdering r (up x + down y < up y + down x) (up x + down y ≡ up y + down x) (up y + down x < up x + down y)
by_parts x y Less e = let h = int_ranked x y Less e in omega (arith, ints, h)
by_parts x y Equal e = let h = int_ranked x y Equal e in omega (arith, ints, h)
by_parts x y Greater e = let h = int_ranked x y Greater e in omega (arith, ints, h)

pub int_cmp_by_parts : (x y : ℤ) → int_cmp x y ≡ nat_cmp (up x + down y) (up y + down x)
int_cmp_by_parts x y = nat_cmp_is _ _ (int_cmp x y) (by_parts x y (int_cmp x y) refl)

-- the side of a in a comparison with b
abbrev pub side : Number → Number → ℕ
side a b = up a.numerator * b.denominator + down b.numerator * a.denominator

pub by_sides : (a b : Number) → number_cmp a b ≡ nat_cmp (side a b) (side b a)
by_sides a b =
    let p = product_is a.numerator (pos b.denominator) in
    let q = product_is b.numerator (pos a.denominator) in
    let e : up (a.numerator *ℤ pos b.denominator) + down (b.numerator *ℤ pos a.denominator) ≡ side a b = omega (arith, p, q) in
    let f : up (b.numerator *ℤ pos a.denominator) + down (a.numerator *ℤ pos b.denominator) ≡ side b a = omega (arith, p, q) in
    int_cmp_by_parts (a.numerator *ℤ pos b.denominator) (b.numerator *ℤ pos a.denominator) ∙ rw (e, f) refl

less_of : (a b : Number) → number_cmp a b ≡ Less → side a b < side b a
less_of a b e = ranked (side a b) (side b a) Less (sym e ∙ by_sides a b)

equal_of : (a b : Number) → number_cmp a b ≡ Equal → side a b ≡ side b a
equal_of a b e = ranked (side a b) (side b a) Equal (sym e ∙ by_sides a b)

less_by : (k m n : ℕ) → 0 < k → k * m < k * n → m < n
less_by k m n some h = elim (cases_lt m n) [ inl p ↦ p | inr p ↦ absurd (omega (arith, mul-le-mul_left k p)) ]

chain : (a a' b b' c c' A B C : ℕ) → 0 < A → 0 < B → 0 < C → a * B + b' * A < b * A + a' * B → b * C + c' * B < c * B + b' * C → a * C + c' * A < c * A + a' * C
chain a a' b b' c c' A B C hA hB hC h1 h2 =
    let p : C * (a * B + b' * A) < C * (b * A + a' * B) = mul-lt-mul_of_pos_left h1 hC in
    let q : A * (b * C + c' * B) < A * (c * B + b' * C) = mul-lt-mul_of_pos_left h2 hA in
    less_by B _ _ hB (omega (arith, p, q))

tied : (a a' b b' c c' A B C : ℕ) → 0 < A → a * B + b' * A ≡ b * A + a' * B → B * (a * C + c' * A) + A * (c * B + b' * C) ≡ B * (c * A + a' * C) + A * (b * C + c' * B)
tied a a' b b' c c' A B C hA h = omega (arith, ap (λ x. C * x) h)

trans : (x y z : Number) → number_cmp x y ≡ Less → number_cmp y z ≡ Less → number_cmp x z ≡ Less
trans x y z p q = by_sides x z ∙ sym (nat_cmp_is _ _ Less (chain _ _ _ _ _ _ _ _ _ x.lowest.positive y.lowest.positive z.lowest.positive (less_of x y p) (less_of y z q)))

-- two comparisons whose sides differ alike
alike : (k m p q p' q' : ℕ) → 0 < k → 0 < m → k * p + m * q' ≡ k * q + m * p' → (r : Ordering) → MatchOrdering r (p' < q') (p' ≡ q') (q' < p') → MatchOrdering r (p < q) (p ≡ q) (q < p)
alike k m p q p' q' hk hm e Less h = less_by k p q hk (omega (arith, e, mul-lt-mul_of_pos_left h hm))
alike k m p q p' q' hk hm e Equal h = eq_of_mul-eq-mul_left k hk p q (omega (arith, e, ap (λ x. m * x) h))
alike k m p q p' q' hk hm e Greater h = less_by k q p hk (omega (arith, e, mul-lt-mul_of_pos_left h hm))

congr : (x y z : Number) → number_cmp x y ≡ Equal → number_cmp x z ≡ number_cmp y z
congr x y z p =
    let e = tied (up x.numerator) (down x.numerator) (up y.numerator) (down y.numerator) (up z.numerator) (down z.numerator) x.denominator y.denominator z.denominator x.lowest.positive (equal_of x y p) in
    by_sides x z ∙ sym (nat_cmp_is _ _ (number_cmp y z) (alike y.denominator x.denominator (side x z) (side z x) (side y z) (side z y) y.lowest.positive x.lowest.positive e (number_cmp y z) (ranked _ _ (number_cmp y z) (by_sides y z))))

pub number_total : IsTotalOrder number_cmp
number_total = record { antisymm = λ x y. int_cmp_total.antisymm (x.numerator *ℤ pos y.denominator) (y.numerator *ℤ pos x.denominator); trans = trans; congr = congr }

-- numbers that are equal as rationals have equal parts, since both are in lowest terms
equal_parts : (a b : Number) → number_cmp a b ≡ Equal → (a.numerator ≡ b.numerator) × (a.denominator ≡ b.denominator)
equal_parts a b e =
    let x : a.numerator *ℤ pos b.denominator ≡ b.numerator *ℤ pos a.denominator = int_ranked _ _ Equal (sym e) in
    let sizes : unsigned_abs a.numerator * b.denominator ≡ unsigned_abs b.numerator * a.denominator = sym (unsigned_abs-mul a.numerator (pos b.denominator)) ∙ ap unsigned_abs x ∙ unsigned_abs-mul b.numerator (pos a.denominator) in
    let d : a.denominator ≡ b.denominator = (lowest_same (unsigned_abs a.numerator) a.denominator (unsigned_abs b.numerator) b.denominator a.lowest.coprime b.lowest.coprime sizes a.lowest.positive).1 in
    let s : side a b ≡ side b a = equal_of a b e in
    let t : b.denominator * (up a.numerator + down b.numerator) ≡ b.denominator * (up b.numerator + down a.numerator) = omega (arith, rw d at s) in
    (same_in a.numerator b.numerator (eq_of_mul-eq-mul_left b.denominator b.lowest.positive _ _ t), d)

cmp_of_equal : (x y : ℤ) → x ≡ y → int_cmp x y ≡ Equal
cmp_of_equal x y e = ap (λ z. int_cmp z y) e ∙ tied_itself int_cmp_total y

equal_of_is_eq : (r : Ordering) → is_eq r ≡ true → r ≡ Equal
equal_of_is_eq r h = (Equal-is r).0 h

pub matches_number_cmp : (a b : Number) → (int_eq a.numerator b.numerator && (a.denominator == b.denominator)) ≡ eq_by_cmp number_cmp a b
matches_number_cmp a b = both_ways _ _
    (λ h.
    let p = and_parts (int_eq a.numerator b.numerator) (a.denominator == b.denominator) h in
    let n : a.numerator ≡ b.numerator = int_ranked a.numerator b.numerator Equal (sym (equal_of_is_eq _ p.0)) in
    let d : a.denominator ≡ b.denominator = eqb-true a.denominator b.denominator p.1 in
    ap is_eq (cmp_of_equal _ _ (ap (λ x. x *ℤ pos b.denominator) n ∙ ap (λ x. b.numerator *ℤ pos x) (sym d))))
    (λ h.
    let p = equal_parts a b (equal_of_is_eq (number_cmp a b) h) in
    let n : int_eq a.numerator b.numerator ≡ true = ap is_eq (cmp_of_equal _ _ p.0) in
    rw (n) (eq-eqb a.denominator b.denominator p.1))
