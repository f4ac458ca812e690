-- Each operation on numerators over one denominator is the operation on numbers, and keeps to its bound.
use Rattle.std.proofs.Common.{◌≡◌, ℕ, ◌+◌, ◌*◌, ◌<◌, ◌≤◌, ◌^◌, ℤ, pos, ◌+ℤ◌, ◌-ℤ◌, ◌*ℤ◌, unsigned_abs, arith, ap, sym, ◌∙◌, refl, Bool, true, false, cond, int_lt, max, Ok}
use Rattle.std.proofs.lemmas.Int.{ints, unsigned_abs-mul}
use Rattle.std.proofs.Math.Nat.{mul-le-mul_left, mul_comm}
use Rattle.fisca_num.specs.Number.{Number}
use Rattle.fisca_vectors.specs.declared.operations.LaneOperation.{LaneOperation}
use Rattle.fisca_vectors.specs.declared.operations.LaneOperation.TheVariants.{Sum, Difference, Rest, Least, Greatest}
use Rattle.fisca_vectors.specs.Vectors.{lesser_of, greater_of}
use Rattle.fisca_vectors.specs.Numerators.{lane_of, on_numbers, on_numerators, on_brought, size_of, IsLevel}
use Rattle.fisca_vectors.proofs.Terms.{Fits, wider_lane}
use Rattle.fisca_vectors.proofs.Level.{sum_lane, difference_lane}
use Rattle.fisca_vectors.proofs.Ordered.{below_lane}

pub level_positive : (d e f g l : ℕ) → 0 < d → IsLevel d e f g l → 0 < l
level_positive d e f g l some h = let p = h.left_some in let q = h.left_is in grind arith

-- one of two numerators is over the common denominator the number that it was over its own
pub chosen : (b : Bool) (l : ℕ) (x y : ℤ) (v w : Number) → lane_of l x ≡ v → lane_of l y ≡ w → cond b v w ≡ lane_of l (cond b x y)
chosen true l x y v w p q = sym p
chosen false l x y v w p q = sym q

least_lane : (n m : ℤ) (d e f g l : ℕ) → Fits n d → Fits m e → 0 < l → IsLevel d e f g l → lesser_of (lane_of d n) (lane_of e m) ≡ Ok (lane_of l (on_brought Least f g n m))
least_lane n m d e f g l hn hm some h =
    ap (λ b. Ok (cond b (lane_of e m) (lane_of d n))) (below_lane m n e d g f l hm hn h.right_is h.left_is some)
    ∙ ap Ok (chosen (int_lt (m *ℤ pos g) (n *ℤ pos f)) l (m *ℤ pos g) (n *ℤ pos f) (lane_of e m) (lane_of d n) (wider_lane m e g l hm.positive some h.right_is) (wider_lane n d f l hn.positive some h.left_is))

greatest_lane : (n m : ℤ) (d e f g l : ℕ) → Fits n d → Fits m e → 0 < l → IsLevel d e f g l → greater_of (lane_of d n) (lane_of e m) ≡ Ok (lane_of l (on_brought Greatest f g n m))
greatest_lane n m d e f g l hn hm some h =
    ap (λ b. Ok (cond b (lane_of d n) (lane_of e m))) (below_lane m n e d g f l hm hn h.right_is h.left_is some)
    ∙ ap Ok (chosen (int_lt (m *ℤ pos g) (n *ℤ pos f)) l (n *ℤ pos f) (m *ℤ pos g) (lane_of d n) (lane_of e m) (wider_lane n d f l hn.positive some h.left_is) (wider_lane m e g l hm.positive some h.right_is))

pub operation_lane : (operation : LaneOperation) (n m : ℤ) (d e f g l : ℕ) → Fits n d → Fits m e → 0 < l → IsLevel d e f g l → Fits (on_brought operation f g n m) l →
    on_numbers operation (lane_of d n) (lane_of e m) ≡ Ok (lane_of l (on_brought operation f g n m))
operation_lane Sum n m d e f g l hn hm some h fits = sum_lane n m d e f g l hn hm h.left_is h.right_is fits
operation_lane Difference n m d e f g l hn hm some h fits = difference_lane n m d e f g l hn hm h.left_is h.right_is fits
operation_lane Rest n m d e f g l hn hm some h fits = difference_lane m n e d g f l hm hn h.right_is h.left_is fits
operation_lane Least n m d e f g l hn hm some h fits = least_lane n m d e f g l hn hm some h
operation_lane Greatest n m d e f g l hn hm some h fits = greatest_lane n m d e f g l hn hm some h

pub scaled_size : (a b f : ℕ) → a ≤ b → a * f ≤ b * f
scaled_size a b f h = omega (arith, mul-le-mul_left f h, mul_comm a f, mul_comm b f)

pub size_rises : (operation : LaneOperation) (a b c d : ℕ) → a ≤ c → b ≤ d → size_of operation a b ≤ size_of operation c d
size_rises Sum a b c d p q = omega arith
size_rises Difference a b c d p q = omega arith
size_rises Rest a b c d p q = omega arith
size_rises Least a b c d p q = omega arith
size_rises Greatest a b c d p q = omega arith

cond_size : (b : Bool) (x y : ℤ) → unsigned_abs (cond b x y) ≤ max (unsigned_abs y) (unsigned_abs x)
cond_size true x y = omega arith
cond_size false x y = omega arith

within_size : (operation : LaneOperation) (x y : ℤ) → unsigned_abs (on_numerators operation x y) ≤ size_of operation (unsigned_abs x) (unsigned_abs y)
within_size Sum x y = omega (arith, ints)
within_size Difference x y = omega (arith, ints)
within_size Rest x y = omega (arith, ints)
within_size Least x y = cond_size (int_lt y x) y x
within_size Greatest x y = let h = cond_size (int_lt y x) x y in omega arith

-- what numerators within bounds give is within the bound
pub brought_size : (operation : LaneOperation) (x y : ℤ) (f g a b : ℕ) → unsigned_abs x ≤ a → unsigned_abs y ≤ b → unsigned_abs (on_brought operation f g x y) ≤ size_of operation (a * f) (b * g)
brought_size operation x y f g a b p q =
    let r = within_size operation (x *ℤ pos f) (y *ℤ pos g) in
    let s : unsigned_abs (x *ℤ pos f) ≤ a * f = omega (arith, unsigned_abs-mul x (pos f), scaled_size (unsigned_abs x) a f p) in
    let t : unsigned_abs (y *ℤ pos g) ≤ b * g = omega (arith, unsigned_abs-mul y (pos g), scaled_size (unsigned_abs y) b g q) in
    omega (arith, r, size_rises operation (unsigned_abs (x *ℤ pos f)) (unsigned_abs (y *ℤ pos g)) (a * f) (b * g) s t)
