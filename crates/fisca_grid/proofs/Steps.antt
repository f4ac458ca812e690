-- The value of an axis at a place, as a fraction of two words.
use Rattle.std.proofs.Common.{◌≤ℤ◌, ◌<ℤ◌, ◌≡◌, ℕ, zero, suc, ◌+◌, ◌*◌, ◌/◌, ◌%◌, ◌<◌, ◌≤◌, ◌^◌, ℤ, pos, ◌+ℤ◌, ◌-ℤ◌, ◌*ℤ◌, unsigned_abs, Result, Ok, Err, arith, ap, ap₂, sym, ◌∙◌, refl, mul_comm, mul_assoc, mul_left_comm, mul-pos, true}
use Rattle.std.proofs.lemmas.Int.{ints, unsigned_abs-mul}
use Rattle.std.proofs.lemmas.Nat.{mul-le}
use Rattle.std.proofs.Math.IntN.{zero-*ℤ}
use Rattle.fisca_num.specs.declared.faults.NumFault.{NumFault}
use Rattle.fisca_num.specs.declared.faults.NumFault.TheVariants.{TooWide, ZeroDivisor, NotANumber, Memory}
use Rattle.fisca_num.specs.Rational.{Ratio, Reduces, IsSame}
use Rattle.fisca_num.specs.Number.{Number, ratio_of}
use Rattle.fisca_num.specs.Value.{IsNumberOf}
use Rattle.fisca_num.specs.Operations.{number_of, is_number_of, only_number_of}
use Rattle.fisca_num.specs.Lowest.{Divisor, divisor_of}
use Rattle.fisca_num.specs.Reduced.{cancel_right, divided, reduces_by_gcd, size-signed_like}
use Rattle.std.specs.Int.{◌∣◌, IsGcd}
use Rattle.std.proofs.lemmas.Nat.Gcd.{dvd_trans}
use Rattle.std.proofs.Math.Nat.{eq-zero_of_zero-dvd, zero-mul, div-le_self, div-mul_cancel, mul-le-mul_left, mul-le-mul_right}
use Rattle.fisca_grid.specs.declared.axes.AxisSpec.{AxisSpec}
use Rattle.fisca_grid.specs.Axes.{steps_of, way_of, step_ratio, step_of, IsLine}
use Rattle.fisca_grid.specs.Steps.Axes.{is_bound}
use Rattle.std.proofs.lemmas.Bool.Decides.{nat_tests}
use Rattle.fisca_num.specs.Integers.{sum-times, difference-times, times_assoc, times_swap, times_pos}

-- two pairs that stand for one rational have the same lowest terms
same_reduced : (p q v : Ratio) → IsSame p q → 0 < q.denominator → Reduces p v → Reduces q v
same_reduced p q v same some x = record {
  some = some;
  same = cancel_right p.denominator x.some (v.numerator *ℤ pos q.denominator) (q.numerator *ℤ pos v.denominator)
      (times_swap v.numerator (pos q.denominator) (pos p.denominator) ∙ ap (λ t. t *ℤ pos q.denominator) x.same
      ∙ times_swap p.numerator (pos v.denominator) (pos q.denominator) ∙ ap (λ t. t *ℤ pos v.denominator) same
      ∙ times_swap q.numerator (pos p.denominator) (pos v.denominator));
  lowest = x.lowest;
}

same_answer : (p q : Ratio) (o : Result Number NumFault) → IsSame p q → 0 < p.denominator → 0 < q.denominator → IsNumberOf p o → IsNumberOf q o
same_answer p q (Ok v) same some_p some_q h = same_reduced p q (ratio_of v) same some_q h
same_answer p q (Err TooWide) same some_p some_q h = record { some = some_q; wide = λ v x. h.wide v (same_reduced q p v (sym same) some_p x) }
same_answer p q (Err ZeroDivisor) same some_p some_q h = absurd (omega arith)
same_answer p q (Err NotANumber) same some_p some_q h = h
same_answer p q (Err Memory) same some_p some_q h = h

-- two pairs that stand for one rational are one number
pub same_number_of : (p q : Ratio) → IsSame p q → 0 < p.denominator → 0 < q.denominator → number_of p ≡ number_of q
same_number_of p q same some_p some_q = only_number_of q (number_of p) (same_answer p q (number_of p) same some_p some_q (is_number_of p))

-- (f + i t) / s is a / b + i (e / m), where f / s is a / b and t / s is e / m
crossed : (a e f t : ℤ) (b m s i : ℕ) → f *ℤ pos b ≡ a *ℤ pos s → t *ℤ pos m ≡ e *ℤ pos s
    → (f +ℤ pos i *ℤ t) *ℤ pos (b * m) ≡ (a *ℤ pos m +ℤ (pos i *ℤ e) *ℤ pos b) *ℤ pos s
crossed a e f t b m s i h k =
    let first : f *ℤ pos (b * m) ≡ (a *ℤ pos m) *ℤ pos s =
    sym (times_pos f b m) ∙ ap (λ z. z *ℤ pos m) h ∙ times_swap a (pos s) (pos m) in
    let turned : t *ℤ pos (b * m) ≡ (t *ℤ pos m) *ℤ pos b = ap (λ n. t *ℤ pos n) (mul_comm b m) ∙ sym (times_pos t m b) in
    let rise : t *ℤ pos (b * m) ≡ (e *ℤ pos b) *ℤ pos s = turned ∙ ap (λ z. z *ℤ pos b) k ∙ times_swap e (pos s) (pos b) in
    let second : (pos i *ℤ t) *ℤ pos (b * m) ≡ ((pos i *ℤ e) *ℤ pos b) *ℤ pos s =
    times_assoc (pos i) t (pos (b * m)) ∙ ap (λ z. pos i *ℤ z) rise ∙ sym (times_assoc (pos i) (e *ℤ pos b) (pos s))
    ∙ ap (λ z. z *ℤ pos s) (sym (times_assoc (pos i) e (pos b))) in
    sum-times f (pos i *ℤ t) (pos (b * m)) ∙ ap₂ (λ x y. x +ℤ y) first second
    ∙ sym (sum-times (a *ℤ pos m) ((pos i *ℤ e) *ℤ pos b) (pos s))

steps_pos : (axis : AxisSpec) → 0 < steps_of axis
steps_pos axis = omega arith

ratio_pos : (axis : AxisSpec) (place : ℕ) → 0 < (step_ratio axis place).denominator
ratio_pos axis place =
    let b = axis.min.lowest.positive in
    let d = axis.max.lowest.positive in
    mul-pos b (mul-pos (steps_pos axis) (mul-pos d b))

-- the value at a place is the number of the line's fraction
pub step_on_line : (axis : AxisSpec) (f t : ℤ) (s : ℕ) → IsLine axis f t s → (place : ℕ) → number_of (record { numerator = f +ℤ pos place *ℤ t; denominator = s }) ≡ step_of axis place
step_on_line axis f t s line place =
    same_number_of (record { numerator = f +ℤ pos place *ℤ t; denominator = s }) (step_ratio axis place)
    (crossed axis.min.numerator (way_of axis).numerator f t axis.min.denominator (steps_of axis * (way_of axis).denominator) s place line.starts line.rises)
    line.positive (ratio_pos axis place)

-- a fraction of words is a number
fits : (n : ℤ) (s : ℕ) (o : Result Number NumFault) → 0 < s → unsigned_abs n < 2 ^ 63 → s < 2 ^ 63 → IsNumberOf (record { numerator = n; denominator = s }) o → (v : Number) × (o ≡ Ok v)
fits n s (Ok v) some above below h = (v, refl)
fits n s (Err TooWide) some above below h =
    let z : Divisor (unsigned_abs n) s = divisor_of (unsigned_abs n) s in
    let r : Ratio = record { numerator = n; denominator = s } in
    let x : Reduces r (divided r z.gcd) = reduces_by_gcd r z.gcd z.is some in
    absurd (h.wide (divided r z.gcd) x (record {
      above = rw (size-signed_like n (unsigned_abs n / z.gcd)) (less_by (unsigned_abs n) z.gcd above);
      below = less_by s z.gcd below;
    }))
  where
    less_by : (a g : ℕ) → a < 2 ^ 63 → a / g < 2 ^ 63
    less_by a g h = omega (arith, div-le_self a g)
fits n s (Err ZeroDivisor) some above below h = absurd (omega arith)
fits n s (Err NotANumber) some above below h = absurd h
fits n s (Err Memory) some above below h = absurd h

pub number_fits : (n : ℤ) (s : ℕ) → 0 < s → unsigned_abs n < 2 ^ 63 → s < 2 ^ 63 → (v : Number) × (number_of (record { numerator = n; denominator = s }) ≡ Ok v)
number_fits n s some above below = fits n s (number_of (record { numerator = n; denominator = s })) some above below (is_number_of (record { numerator = n; denominator = s }))

-- fewer increments stay within what all of them do
pub below_within : (i n f t : ℕ) → i < n → f + n * t < 2 ^ 63 → f + i * t < 2 ^ 63
below_within i n f t less within = let le : i ≤ n = omega arith in omega (arith, mul-le-mul_right t le)

-- the two facts of a bound
pub bound_places : (v : Number) → is_bound v ≡ true → 1000 / v.denominator * v.denominator ≡ 1000
bound_places v h =
    let some : 0 < v.denominator = v.lowest.positive in
    let rest : 1000 % v.denominator ≡ 0 = grind (arith, nat_tests) in
    omega (arith, mul_comm v.denominator (1000 / v.denominator))

pub bound_size : (v : Number) → is_bound v ≡ true → unsigned_abs v.numerator * (1000 / v.denominator) ≤ 1000000000000
bound_size v h =
    let size : unsigned_abs v.numerator ≤ 1000000000 * v.denominator = grind (arith, nat_tests) in
    let k = 1000 / v.denominator in
    let wide : unsigned_abs v.numerator * k ≤ (1000000000 * v.denominator) * k = mul-le-mul_right k size in
    let whole : (1000000000 * v.denominator) * k ≡ 1000000000 * 1000 = mul_assoc 1000000000 v.denominator k ∙ ap (λ n. 1000000000 * n) (mul_comm v.denominator k ∙ bound_places v h) in
    omega arith

pub bound_value : (v : Number) → is_bound v ≡ true → (v.numerator *ℤ pos (1000 / v.denominator)) *ℤ pos v.denominator ≡ v.numerator *ℤ pos 1000
bound_value v h = times_pos v.numerator (1000 / v.denominator) v.denominator ∙ ap (λ n. v.numerator *ℤ pos n) (bound_places v h)

-- x is p thousandths over d
part : (x p : ℤ) (d b n m : ℕ) → m ≡ d * (b * n) → x *ℤ pos d ≡ p *ℤ pos 1000 → x *ℤ pos m ≡ (p *ℤ pos b) *ℤ pos (1000 * n)
part x p d b n m e h =
    ap (λ k. x *ℤ pos k) e ∙ sym (times_pos x d (b * n)) ∙ ap (λ z. z *ℤ pos (b * n)) h ∙ times_pos p 1000 (b * n)
    ∙ ap (λ k. p *ℤ pos k) (mul_left_comm 1000 b n) ∙ sym (times_pos p b (1000 * n))

near : (x y k n s : ℕ) → n ≤ 1048576 → k ≤ 1048576 → x ≤ 1000000000000 → y ≤ 2000000000000 → s ≡ x * n → s + k * y < 2 ^ 63
near x y k n s hn hk hx hy e = omega (arith, mul-le x n 1000000000000 1048576 hx hn, mul-le k y 1048576 2000000000000 hk hy)

line_rises : (a c p q : ℤ) (b d n : ℕ) → a *ℤ pos b ≡ p *ℤ pos 1000 → c *ℤ pos d ≡ q *ℤ pos 1000
    → (c -ℤ a) *ℤ pos (n * (d * b)) ≡ (q *ℤ pos b -ℤ p *ℤ pos d) *ℤ pos (1000 * n)
line_rises a c p q b d n at_min at_max =
    difference-times c a (pos (n * (d * b)))
    ∙ ap₂ (λ x y. x -ℤ y) (part c q d b n (n * (d * b)) (mul_comm n (d * b) ∙ mul_assoc d b n) at_max) (part a p b d n (n * (d * b)) (mul_comm n (d * b) ∙ ap (λ k. k * n) (mul_comm d b) ∙ mul_assoc b d n) at_min)
    ∙ sym (difference-times (q *ℤ pos b) (p *ℤ pos d) (pos (1000 * n)))

-- bounds in thousandths make the line of an axis
pub on_line : (axis : AxisSpec) (a c : ℤ) → axis.count ≤ 1048576
    → a *ℤ pos axis.min.denominator ≡ axis.min.numerator *ℤ pos 1000 → c *ℤ pos axis.max.denominator ≡ axis.max.numerator *ℤ pos 1000
    → unsigned_abs a ≤ 1000000000000 → unsigned_abs (c -ℤ a) ≤ 2000000000000
    → IsLine axis (a *ℤ pos (steps_of axis)) (c -ℤ a) (1000 * steps_of axis)
on_line axis a c few at_min at_max size way = record {
  few = few;
  positive = omega (arith, steps_pos axis);
  small = omega arith;
  starts = times_swap a (pos (steps_of axis)) (pos axis.min.denominator) ∙ ap (λ z. z *ℤ pos (steps_of axis)) at_min ∙ times_pos axis.min.numerator 1000 (steps_of axis);
  rises = line_rises a c axis.min.numerator axis.max.numerator axis.min.denominator axis.max.denominator (steps_of axis) at_min at_max;
  within = near (unsigned_abs a) (unsigned_abs (c -ℤ a)) axis.count (steps_of axis) (unsigned_abs (a *ℤ pos (steps_of axis))) (omega arith) few size way (unsigned_abs-mul a (pos (steps_of axis)));
}

-- a line without a common factor of its numbers is the same line
pub line-divided : (axis : AxisSpec) (first increment : ℤ) (denominator : ℕ) (f t : ℤ) (g : ℕ) → IsLine axis first increment denominator → 0 < g → g ∣ denominator
    → f *ℤ pos g ≡ first → t *ℤ pos g ≡ increment → IsLine axis f t (denominator / g)
line-divided axis first increment denominator f t g line some divides first_is increment_is =
    let first_size : unsigned_abs f * g ≡ unsigned_abs first = sym (unsigned_abs-mul f (pos g)) ∙ ap unsigned_abs first_is in
    let increment_size : unsigned_abs t * g ≡ unsigned_abs increment = sym (unsigned_abs-mul t (pos g)) ∙ ap unsigned_abs increment_is in
    let back : denominator / g * g ≡ denominator = div-mul_cancel g divides in
    let smaller : denominator / g ≤ denominator = div-le_self denominator g in
    record {
      few = line.few;
      positive = some_part (denominator / g) g denominator back line.positive;
      small = omega (arith, line.small);
      starts = over axis.min.denominator first f axis.min.numerator denominator g some back first_is line.starts;
      rises = over (steps_of axis * (way_of axis).denominator) increment t (way_of axis).numerator denominator g some back increment_is line.rises;
      within = nearer (unsigned_abs f) (unsigned_abs first) (unsigned_abs t) (unsigned_abs increment) axis.count g some first_size increment_size line.within;
    }
  where
    over : (k : ℕ) (whole quotient n : ℤ) (d g : ℕ) → 0 < g → d / g * g ≡ d → quotient *ℤ pos g ≡ whole → whole *ℤ pos k ≡ n *ℤ pos d → quotient *ℤ pos k ≡ n *ℤ pos (d / g)
    over k whole quotient n d g some back is same =
        cancel_right g some (quotient *ℤ pos k) (n *ℤ pos (d / g))
        (times_swap quotient (pos k) (pos g) ∙ (ap (λ z. z *ℤ pos k) is ∙ (same ∙ (ap (λ m. n *ℤ pos m) (sym back) ∙ sym (times_pos n (d / g) g)))))

    some_part : (q g d : ℕ) → q * g ≡ d → 0 < d → 0 < q
    some_part zero g d is some = absurd (omega (arith, zero-mul g))
    some_part (suc q) g d is some = omega arith

    no_more : (a b g : ℕ) → 0 < g → a * g ≡ b → a ≤ b
    no_more a b g some is = let e : a * 1 ≤ a * g = mul-le-mul_left a some in omega arith

    nearer : (f first t increment count g : ℕ) → 0 < g → f * g ≡ first → t * g ≡ increment → first + count * increment < 2 ^ 63 → f + count * t < 2 ^ 63
    nearer f first t increment count g some first_is increment_is within =
        let less : f ≤ first = no_more f first g some first_is in
        let slower : count * t ≤ count * increment = mul-le-mul_left count (no_more t increment g some increment_is) in
        omega arith

-- a number from its size divided by a divisor
pub back_above : (a : ℤ) (size g : ℕ) → size ≡ unsigned_abs a → g ∣ size → pos 0 ≤ℤ a → pos (size / g) *ℤ pos g ≡ a
back_above a size g is divides above =
    let whole : pos (unsigned_abs a) ≡ a = omega (arith, ints) in
    ap pos (div-mul_cancel g divides ∙ is) ∙ whole

pub back_below : (a : ℤ) (size g : ℕ) → size ≡ unsigned_abs a → g ∣ size → a <ℤ pos 0 → (pos 0 -ℤ pos (size / g)) *ℤ pos g ≡ a
back_below a size g is divides below =
    let whole : pos 0 -ℤ pos (unsigned_abs a) ≡ a = omega (arith, ints) in
    difference-times (pos 0) (pos (size / g)) (pos g)
    ∙ (ap (λ z. z -ℤ pos (size / g * g)) (zero-*ℤ (pos g)) ∙ (ap (λ n. pos 0 -ℤ pos n) (div-mul_cancel g divides ∙ is) ∙ whole))

-- a divisor of two numbers' common divisor divides both
pub dvd-common : (a b shared g : ℕ) → IsGcd a b shared → g ∣ shared → (g ∣ a) × (g ∣ b)
dvd-common a b shared g is divides = (dvd_trans g divides is.0, dvd_trans g divides is.1)

-- a divisor of a number that is not 0 is not 0
pub some_divisor : (g d : ℕ) → g ∣ d → 0 < d → 0 < g
some_divisor zero d divides some = let none = eq-zero_of_zero-dvd divides in absurd (omega arith)
some_divisor (suc g) d divides some = omega arith

-- the increment of a line with a value is a word
pub increment_within : (axis : AxisSpec) (first increment : ℤ) (denominator : ℕ) → 0 < axis.count → IsLine axis first increment denominator → unsigned_abs increment < 2 ^ 63
increment_within axis first increment denominator some line = below (unsigned_abs first) axis.count (unsigned_abs increment) some line.within
  where
    below : (a count b : ℕ) → 0 < count → a + count * b < 2 ^ 63 → b < 2 ^ 63
    below a count b some within = let e : b * 1 ≤ b * count = mul-le-mul_left b some in omega (arith, mul_comm b count)
