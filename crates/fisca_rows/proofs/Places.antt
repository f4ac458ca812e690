-- Items that are looked up by their places.
use Rattle.std.proofs.Common.{◌≡◌, ℕ, zero, suc, ◌<◌, List, [], ◌∷◌, length, Some, slice_get, slice_index_or, sym, ap, arith}

pub get_there : {X : Type 0} (xs : List X) (i : ℕ) (x : X) → i < length xs → x ≡ slice_index_or xs i x → slice_get xs i ≡ Some x
get_there [] i x less is = absurd (omega arith)
get_there (y ∷ xs) zero x less is = ap Some (sym is)
get_there (y ∷ xs) (suc i) x less is = get_there xs i x (omega arith) is
