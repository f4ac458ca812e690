-- The whole number that is nearest to a quotient.
use Rattle.std.proofs.Common.{◌≡◌, ◌↔◌, subst, ℕ, suc, ◌+◌, ◌*◌, ◌-◌, ◌/◌, ◌%◌, ◌<◌, ◌≤◌, ℤ, pos, negsuc, neg_ℤ, ◌-ℤ◌, ◌*ℤ◌, ◌≤ℤ◌, unsigned_abs, arith, ap, sym, ◌∙◌, refl, inl, inr, ◌⊎◌}
use lib.Signed.{≤ℤ_refl}
use borrow.Author.Differences.{up, down, product_is}
use Rattle.std.proofs.lemmas.Bool.{cases_lt}
use Rattle.std.proofs.lemmas.Cmp.{ranked}
use Rattle.std.proofs.lemmas.Int.{ints, by_lt_z}
use Rattle.std.proofs.Math.Nat.{mod-add-div', mod-lt, mul-le-mul_left, mul-lt-mul_of_pos_left}
use Rattle.std.specs.Cmp.{nat_cmp_is}
use Rattle.std.specs.declared.cmp.Ordering.{Ordering}
use Rattle.std.specs.declared.cmp.Ordering.TheVariants.{Less, Equal, Greater}
use Rattle.std.specs.Ordering.{nat_cmp, MatchOrdering}
use Rattle.fisca_num.specs.Nearest.{IsAtMost, IsNearest, distance}
use Rattle.fisca_num.specs.Number.{Number, ratio_of}
use Rattle.fisca_num.specs.Rational.{Ratio}
use Rattle.fisca_num.specs.Reduced.{size-signed_like, neg_times}
use Rattle.fisca_num.specs.Rounding.{by_half, nearest_size, nearest, round_of}

-- ---- of naturals

record IsNear (n d k : ℕ) : Type 0 where
  pub above : 2 * n ≤ 2 * (k * d) + d
  pub below : 2 * (k * d) ≤ 2 * n + d
  pub even_above : 2 * n ≡ 2 * (k * d) + d → k % 2 ≡ 0
  pub even_below : 2 * (k * d) ≡ 2 * n + d → k % 2 ≡ 0

parity : (q : ℕ) → (q % 2 ≡ 0) ⊎ (q % 2 ≡ 1)
parity q = elim (cases_lt (q % 2) 1) [ inl h ↦ inl (omega arith) | inr h ↦ inr (omega arith) ]

half_even : (n d k : ℕ) → 0 < d → 2 * (n % d) ≡ d → k ≡ n / d → k % 2 ≡ 0 → IsNear n d k
half_even n d k some h e even = record {
  above = omega (arith, h, mod-add-div' n d, ap (λ z. z * d) e);
  below = omega (arith, h, mod-add-div' n d, ap (λ z. z * d) e);
  even_above = λ q. even;
  even_below = λ q. even;
}

half_odd : (n d k : ℕ) → 0 < d → 2 * (n % d) ≡ d → k ≡ n / d + 1 → k % 2 ≡ 0 → IsNear n d k
half_odd n d k some h e even = record {
  above = omega (arith, h, mod-add-div' n d, ap (λ z. z * d) e);
  below = omega (arith, h, mod-add-div' n d, ap (λ z. z * d) e);
  even_above = λ q. even;
  even_below = λ q. even;
}

near_by : (n d : ℕ) → 0 < d → (r : Ordering) → r ≡ nat_cmp (2 * (n % d)) d → IsNear n d (by_half r (n / d))
near_by n d some Less e =
    let h : 2 * (n % d) < d = ranked (2 * (n % d)) d Less e in
    record {
      above = omega (arith, h, mod-add-div' n d);
      below = omega (arith, h, mod-add-div' n d);
      even_above = λ q. absurd (omega (arith, h, q, mod-add-div' n d));
      even_below = λ q. absurd (omega (arith, h, q, some, mod-add-div' n d));
    }
near_by n d some Equal e =
    let h : 2 * (n % d) ≡ d = ranked (2 * (n % d)) d Equal e in
    elim (parity (n / d)) [
      | inl p ↦ half_even n d (n / d + n / d % 2) some h (omega (arith, p)) (omega (arith, p))
      | inr p ↦ half_odd n d (n / d + n / d % 2) some h (omega (arith, p)) (omega (arith, p))
    ]
near_by n d some Greater e =
    let h : d < 2 * (n % d) = ranked (2 * (n % d)) d Greater e in
    let small : n % d < d = mod-lt n some in
    record {
      above = omega (arith, h, small, mod-add-div' n d);
      below = omega (arith, h, small, mod-add-div' n d);
      even_above = λ q. absurd (omega (arith, h, q, small, mod-add-div' n d));
      even_below = λ q. absurd (omega (arith, h, q, small, mod-add-div' n d));
    }

near_size : (n d : ℕ) → 0 < d → IsNear n d (nearest_size n d)
unfolding nearest_size
near_size n d some = near_by n d some (nat_cmp (2 * (n % d)) d) refl

twice : (rest d : ℕ) → rest < d → (r : Ordering) → MatchOrdering r (rest < d - rest) (rest ≡ d - rest) (d - rest < rest) → MatchOrdering r (2 * rest < d) (2 * rest ≡ d) (d < 2 * rest)
twice rest d small Less h = omega arith
twice rest d small Equal h = omega arith
twice rest d small Greater h = omega arith

-- the comparison without a product
pub by_rest : (n d : ℕ) → 0 < d → (r : Ordering) → r ≡ nat_cmp (n % d) (d - n % d) → by_half r (n / d) ≡ nearest_size n d
unfolding nearest_size
by_rest n d some r e = ap (λ o. by_half o (n / d)) (nat_cmp_is (2 * (n % d)) d r (twice (n % d) d (mod-lt n some) r (ranked (n % d) (d - n % d) r e)))

-- ---- with a sign

apart_pos : (a b : ℕ) → (unsigned_abs (pos a -ℤ pos b) ≡ a - b + (b - a))
apart_pos a b = omega (arith, ints)

apart_neg : (a b : ℕ) → (unsigned_abs (negsuc a -ℤ neg_ℤ (pos b)) ≡ suc a - b + (b - suc a))
apart_neg a b = omega (arith, ints)

size_neg : (m : ℕ) → unsigned_abs (neg_ℤ (pos m)) ≡ m
size_neg m = omega (arith, ints)

far_even : (n d k a : ℕ) → IsNear n d k → a ≡ n - k * d + (k * d - n) → 2 * a ≡ d → k % 2 ≡ 0
far_even n d k a x e h =
    elim (cases_lt n (k * d)) [
      | inl lt ↦ x.even_below (omega (arith, e, h))
      | inr le ↦ x.even_above (omega (arith, e, h))
    ]

nearest_is : (n : ℤ) (d : ℕ) → 0 < d → IsNearest (record { numerator = n; denominator = d }) (nearest (record { numerator = n; denominator = d }))
nearest_is (pos n) d some =
    let k = nearest_size n d in
    let x : IsNear n d k = near_size n d some in
    let e : unsigned_abs (pos n -ℤ pos (k * d)) ≡ n - k * d + (k * d - n) = apart_pos n (k * d) in
    let above = x.above in
    let below = x.below in
    record { near = omega (arith, e, above, below); even = λ h. far_even n d k _ x e h }
nearest_is (negsuc n) d some =
    let k = nearest_size (suc n) d in
    let x : IsNear (suc n) d k = near_size (suc n) d some in
    let e : unsigned_abs (negsuc n -ℤ neg_ℤ (pos k) *ℤ pos d) ≡ suc n - k * d + (k * d - suc n) = rw (neg_times k d) (apart_neg n (k * d)) in
    let above = x.above in
    let below = x.below in
    record { near = omega (arith, e, above, below); even = λ h. ap (λ z. z % 2) (size_neg k) ∙ far_even (suc n) d k _ x e h }

pub nearest_of : (r : Ratio) → 0 < r.denominator → IsNearest r (nearest r)
nearest_of r some = let x = nearest_is r.numerator r.denominator some in record { near = x.near; even = x.even }

-- ---- nearest numbers rise with what they are near to

record IsRise (ku kd lu ld nu nd mu md d e : ℕ) : Type 0 where
  pub next : ku + ld ≡ lu + kd + 1
  pub below : 2 * (ku * d + nd) ≡ 2 * (nu + kd * d) + d
  pub above : 2 * (mu + ld * e) ≡ 2 * (lu * e + md) + e

rise : (ku kd lu ld nu nd mu md d e : ℕ) → 0 < d → 0 < e → 2 * (ku * d + nd) ≤ 2 * (nu + kd * d) + d → 2 * (mu + ld * e) ≤ 2 * (lu * e + md) + e → nu * e + md * d ≤ mu * d + nd * e → lu + kd < ku + ld → IsRise ku kd lu ld nu nd mu md d e
rise ku kd lu ld nu nd mu md d e hd he b c le lt =
    let unit = mul-le-mul_left d he in
    let b' = mul-le-mul_left e b in
    let c' = mul-le-mul_left d c in
    let step = mul-le-mul_left (d * e) lt in
    record {
      next = elim (cases_lt (lu + kd + 1) (ku + ld)) [
        | inl far ↦ absurd (omega (arith, unit, b', c', le, mul-le-mul_left (d * e) far))
        | inr near ↦ omega arith
      ];
      below = elim (cases_lt (2 * (ku * d + nd)) (2 * (nu + kd * d) + d)) [
        | inl far ↦ absurd (omega (arith, mul-lt-mul_of_pos_left far he, c', le, step))
        | inr near ↦ omega arith
      ];
      above = elim (cases_lt (2 * (mu + ld * e)) (2 * (lu * e + md) + e)) [
        | inl far ↦ absurd (omega (arith, mul-lt-mul_of_pos_left far hd, b', le, step))
        | inr near ↦ omega arith
      ];
    }

-- the distance of two integers, by parts
within_half : (x y : ℤ) (d : ℕ) → 2 * unsigned_abs (x -ℤ y) ≤ d → (2 * (up y + down x) ≤ 2 * (up x + down y) + d) × (2 * (up x + down y) ≤ 2 * (up y + down x) + d)
within_half x y d h = omega (arith, ints, h)

half_below : (x y : ℤ) (d : ℕ) → 2 * (up y + down x) ≡ 2 * (up x + down y) + d → 2 * unsigned_abs (x -ℤ y) ≡ d
half_below x y d h = omega (arith, ints, h)

half_above : (x y : ℤ) (d : ℕ) → 2 * (up x + down y) ≡ 2 * (up y + down x) + d → 2 * unsigned_abs (x -ℤ y) ≡ d
half_above x y d h = omega (arith, ints, h)

both_even : (k l : ℤ) → up k + down l ≡ up l + down k + 1 → unsigned_abs k % 2 ≡ 0 → unsigned_abs l % 2 ≡ 0 → ⊥
both_even (pos k) (pos l) e p q = omega arith
both_even (pos k) (negsuc l) e p q = omega arith
both_even (negsuc k) (pos l) e p q = omega arith
both_even (negsuc k) (negsuc l) e p q = omega arith

pub at_most_parts : (n m : ℤ) (d e : ℕ) → (n *ℤ pos e) ≤ℤ (m *ℤ pos d) → up n * e + down m * d ≤ up m * d + down n * e
at_most_parts n m d e h = omega (arith, ints, h, product_is n (pos e), product_is m (pos d))

not_above : (r s : Ratio) (k l : ℤ) → 0 < r.denominator → 0 < s.denominator → IsAtMost r s → IsNearest r k → IsNearest s l → up l + down k < up k + down l → ⊥
not_above r s k l hr hs le x y lt =
    let p = product_is k (pos r.denominator) in
    let q = product_is l (pos s.denominator) in
    let b = (within_half r.numerator (k *ℤ pos r.denominator) r.denominator x.near).0 in
    let c = (within_half s.numerator (l *ℤ pos s.denominator) s.denominator y.near).1 in
    let z : IsRise (up k) (down k) (up l) (down l) (up r.numerator) (down r.numerator) (up s.numerator) (down s.numerator) r.denominator s.denominator = rise (up k) (down k) (up l) (down l) (up r.numerator) (down r.numerator) (up s.numerator) (down s.numerator) r.denominator s.denominator hr hs (omega (arith, b, p)) (omega (arith, c, q)) (at_most_parts r.numerator s.numerator r.denominator s.denominator le) lt in
    let zb = z.below in
    let za = z.above in
    both_even k l z.next
    (x.even (half_below r.numerator (k *ℤ pos r.denominator) r.denominator (omega (arith, zb, p))))
    (y.even (half_above s.numerator (l *ℤ pos s.denominator) s.denominator (omega (arith, za, q))))

pub nearest_rises : (r s : Ratio) (k l : ℤ) → 0 < r.denominator → 0 < s.denominator → IsAtMost r s → IsNearest r k → IsNearest s l → k ≤ℤ l
nearest_rises r s k l hr hs le x y = by_lt_z l k (λ lt. absurd (not_above r s k l hr hs le x y (omega (arith, ints, lt)))) (λ h. h)

pub once : (k l : ℤ) → k ≤ℤ l → l ≤ℤ k → k ≡ l
once k l p q = omega (arith, ints, p, q)

nearest_once : (r : Ratio) (k l : ℤ) → 0 < r.denominator → IsNearest r k → IsNearest r l → k ≡ l
nearest_once r k l some x y = once k l (nearest_rises r r k l some some (≤ℤ_refl _) x y) (nearest_rises r r l k some some (≤ℤ_refl _) y x)

-- `nearest r` is what `IsNearest r` allows, and nothing else is
pub nearest_law : (r : Ratio) → 0 < r.denominator → (k : ℤ) → IsNearest r k ↔ (k ≡ nearest r)
nearest_law r some k = (λ x. nearest_once r k (nearest r) some x (nearest_of r some), λ e. subst (IsNearest r) (sym e) (nearest_of r some))

-- a whole number is the nearest to itself
pub nearest_whole : (r : Ratio) (k : ℤ) → 0 < r.denominator → r.numerator ≡ k *ℤ pos r.denominator → nearest r ≡ k
nearest_whole r k some e = sym ((nearest_law r some k).0 (record { near = omega (arith, none); even = λ h. absurd (omega (arith, none, h)) }))
  where
    none : distance r k ≡ 0
    none = omega (arith, ints, e)

-- ---- sizes

pub nearest_small : (n d : ℕ) → 0 < d → nearest_size n d ≤ n
nearest_small n d some =
    elim (cases_lt n (nearest_size n d)) [
      | inl far ↦
          let below = (near_size n d some).below in
          absurd (omega (arith, below, mul-le-mul_left d far, mul-le-mul_left n some))
      | inr near ↦ near
    ]

pub size_nearest : (r : Ratio) → 0 < r.denominator → unsigned_abs (nearest r) ≤ unsigned_abs r.numerator
size_nearest r some = rw (size-signed_like r.numerator (nearest_size (unsigned_abs r.numerator) r.denominator)) (nearest_small (unsigned_abs r.numerator) r.denominator some)

-- no whole number is nearer
pub none_nearer : (r : Ratio) → 0 < r.denominator → (m : ℤ) → distance r (nearest r) ≤ distance r m
none_nearer r some m =
    elim (cases_lt (distance r m) (distance r (nearest r))) [
      | inl h ↦
          let near = (nearest_of r some).near in
          let e : m ≡ nearest r = (nearest_law r some m).0 (record { near = omega (arith, h, near); even = λ q. absurd (omega (arith, h, near, q)) }) in
          absurd (omega (arith, h, ap (distance r) e))
      | inr h ↦ h
    ]

pub round_of_rises : (v w : Number) → IsAtMost (ratio_of v) (ratio_of w) → round_of v ≤ℤ round_of w
round_of_rises v w h = nearest_rises (ratio_of v) (ratio_of w) (round_of v) (round_of w) v.lowest.positive w.lowest.positive h (nearest_of (ratio_of v) v.lowest.positive) (nearest_of (ratio_of w) w.lowest.positive)
