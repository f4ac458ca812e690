-- What an operation makes of a vector and what stands beside it.
use Rattle.std.proofs.Common.{◌≡◌, ℕ, ◌*◌, ◌<◌, ◌≤◌, ◌^◌, ℤ, unsigned_abs, arith, ap, sym, ◌∙◌, List, length, Result, Ok}
use Rattle.fisca_num.specs.declared.faults.NumFault.{NumFault}
use Rattle.fisca_num.specs.Number.{Number}
use Rattle.fisca_vectors.specs.declared.operations.LaneOperation.{LaneOperation}
use Rattle.fisca_vectors.specs.Vectors.{lane, IsLanewise, IsOfEach}
use Rattle.fisca_vectors.specs.Numerators.{at, lane_of, lanes_of, on_numbers, on_brought, size_of, IsVector, IsLevel, IsMade, IsOperated}
use Rattle.fisca_vectors.proofs.Terms.{Fits, fits_lane, lane_at, count, own_lane, same_lanes}
use Rattle.fisca_vectors.proofs.Laws.{operation_lane, brought_size, level_positive}

-- what stands beside a vector: numerators within a bound, over a denominator
pub record IsBeside (count d b : ℕ) (ms : ℕ → ℤ) : Type 0 where
  pub positive : 0 < d
  pub below : d < 2 ^ 63
  pub bound_below : b < 2 ^ 63
  pub bounded : (k : ℕ) → k < count → unsigned_abs (ms k) ≤ b

pub beside_fits : (n d b : ℕ) (ms : ℕ → ℤ) → IsBeside n d b ms → (k : ℕ) → k < n → Fits (ms k) d
beside_fits n d b ms h k lt = record { positive = h.positive; below = h.below; above = let p = h.bounded k lt in let q = h.bound_below in omega arith }

-- a vector of numerators that `op` makes, lane by lane what f is of numbers
pub record Makes (f : Number → Number → Result Number NumFault) (d e l c : ℕ) (ns : List ℤ) (ms : ℕ → ℤ) (cs : List ℤ) : Type 0 where
  pub vector : IsVector l c cs
  pub lanes : length cs ≡ length ns
  pub each : (k : ℕ) → k < length ns → f (lane_of d (at ns k)) (lane_of e (ms k)) ≡ Ok (lane_of l (at cs k))

pub makes : (f : Number → Number → Result Number NumFault) (op : ℤ → ℤ → ℤ) (d e l a b c : ℕ) (ns : List ℤ) (ms : ℕ → ℤ) (cs : List ℤ) →
    IsVector d a ns → IsBeside (length ns) e b ms → 0 < l → l < 2 ^ 63 → c < 2 ^ 63 →
    ((n m : ℤ) → unsigned_abs n ≤ a → unsigned_abs m ≤ b → unsigned_abs (op n m) ≤ c) →
    ((n m : ℤ) → Fits n d → Fits m e → Fits (op n m) l → f (lane_of d n) (lane_of e m) ≡ Ok (lane_of l (op n m))) →
    IsMade op ns ms cs → Makes f d e l c ns ms cs
makes f op d e l a b c ns ms cs hn hm some below bound size law made = record {
  vector = record { positive = some; below = below; bound_below = bound; bounded = λ k lt. let lt' : k < length ns = omega (arith, made.lanes) in rw (made.each k lt') (sized k lt') };
  lanes = made.lanes;
  each = each;
}
  where
    sized : (k : ℕ) → k < length ns → unsigned_abs (op (at ns k) (ms k)) ≤ c
    sized k lt = size (at ns k) (ms k) (hn.bounded k lt) (hm.bounded k lt)

    each : (k : ℕ) → k < length ns → f (lane_of d (at ns k)) (lane_of e (ms k)) ≡ Ok (lane_of l (at cs k))
    each k lt =
        let s = sized k lt in
        law (at ns k) (ms k) (fits_lane d a ns hn k lt) (beside_fits (length ns) e b ms hm k lt) (record { positive = some; below = below; above = omega arith })
        ∙ ap (λ z. Ok (lane_of l z)) (sym (made.each k lt))

pub operates : (operation : LaneOperation) (d e f g l a b c : ℕ) (ns : List ℤ) (ms : ℕ → ℤ) (cs : List ℤ) →
    IsVector d a ns → IsBeside (length ns) e b ms → IsLevel d e f g l → l < 2 ^ 63 → c ≡ size_of operation (a * f) (b * g) → c < 2 ^ 63 →
    IsMade (on_brought operation f g) ns ms cs → Makes (on_numbers operation) d e l c ns ms cs
operates operation d e f g l a b c ns ms cs hn hm level below is fits made =
    let some = level_positive d e f g l hn.positive level in
    makes (on_numbers operation) (on_brought operation f g) d e l a b c ns ms cs hn hm some below fits
    (λ n m p q. rw is (brought_size operation n m f g a b p q))
    (λ n m p q r. operation_lane operation n m d e f g l p q some level r)
    made

-- with what stands at the right side
pub made_operated : (operation : LaneOperation) (d e l c : ℕ) (ns : List ℤ) (ms : ℕ → ℤ) (cs : List ℤ) → Makes (on_numbers operation) d e l c ns ms cs → IsOperated operation (lanes_of d ns) (λ k. lane_of e (ms k)) (lanes_of l cs)
made_operated operation d e l c ns ms cs h = record { lanes = count l cs ∙ h.lanes ∙ sym (count d ns); each = each }
  where
    each : (k : ℕ) → k < length (lanes_of d ns) → on_numbers operation (lane (lanes_of d ns) k) (lane_of e (ms k)) ≡ Ok (lane (lanes_of l cs) k)
    each k lt =
        let p : k < length ns = omega (arith, count d ns) in
        let q : k < length cs = omega (arith, h.lanes) in
        rw (lane_at d ns k p, lane_at l cs k q) (h.each k p)

-- with a vector
pub by_vector : (operation : LaneOperation) (e : ℕ) (ms : List ℤ) (a b c : List Number) → length a ≡ length b → lanes_of e ms ≡ b → IsOperated operation a (λ k. lane_of e (at ms k)) c → IsLanewise (on_numbers operation) a b c
by_vector operation e ms a b c same is h = record { lanes = h.lanes; each = each }
  where
    each : (k : ℕ) → k < length a → on_numbers operation (lane a k) (lane b k) ≡ Ok (lane c k)
    each k lt =
        let p : k < length ms = omega (arith, count e ms, ap length is) in
        ap (λ z. on_numbers operation (lane a k) (lane z k)) (sym is) ∙ ap (on_numbers operation (lane a k)) (lane_at e ms k p) ∙ h.each k lt

-- with one number
pub by_uniform : (operation : LaneOperation) (v : Number) (a c : List Number) → IsOperated operation a (λ _. lane_of v.denominator v.numerator) c → IsOfEach (λ x. on_numbers operation x v) a c
by_uniform operation v a c h = record { lanes = h.lanes; each = λ k lt. ap (on_numbers operation (lane a k)) (sym (own_lane v)) ∙ h.each k lt }
