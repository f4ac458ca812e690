-- Numerators within a bound have room over a common denominator where the bound has.
use Rattle.std.proofs.Common.{◌≡◌, ℕ, ◌*◌, ◌<◌, ◌≤◌, ◌^◌, ℤ, unsigned_abs, arith, List, length}
use Rattle.fisca_vectors.specs.declared.operations.LaneOperation.{LaneOperation}
use Rattle.fisca_vectors.specs.Numerators.{at, size_of, IsVector}
use Rattle.fisca_vectors.proofs.Laws.{scaled_size, size_rises}
use Rattle.fisca_vectors.proofs.Operated.{IsBeside}

pub left_fits : (d a f b : ℕ) (ns : List ℤ) → IsVector d a ns → b ≡ a * f → b < 2 ^ 63 → (k : ℕ) → k < length ns → unsigned_abs (at ns k) * f < 2 ^ 63
left_fits d a f b ns h is fits k lt = omega (arith, scaled_size (unsigned_abs (at ns k)) a f (h.bounded k lt))

pub right_fits : (n d a f b : ℕ) (ms : ℕ → ℤ) → IsBeside n d a ms → b ≡ a * f → b < 2 ^ 63 → (k : ℕ) → k < n → unsigned_abs (ms k) * f < 2 ^ 63
right_fits n d a f b ms h is fits k lt = omega (arith, scaled_size (unsigned_abs (ms k)) a f (h.bounded k lt))

pub both_fit : (operation : LaneOperation) (d a e b f g c : ℕ) (ns : List ℤ) (ms : ℕ → ℤ) → IsVector d a ns → IsBeside (length ns) e b ms → c ≡ size_of operation (a * f) (b * g) → c < 2 ^ 63 →
    (k : ℕ) → k < length ns → size_of operation (unsigned_abs (at ns k) * f) (unsigned_abs (ms k) * g) < 2 ^ 63
both_fit operation d a e b f g c ns ms hn hm is fits k lt =
    let r = size_rises operation (unsigned_abs (at ns k) * f) (unsigned_abs (ms k) * g) (a * f) (b * g) (scaled_size (unsigned_abs (at ns k)) a f (hn.bounded k lt)) (scaled_size (unsigned_abs (ms k)) b g (hm.bounded k lt)) in
    omega (arith, r, is)
