-- A number has ASCII alone.
use Rattle.std.proofs.Common.{◌≡◌, ◌<◌, ◌+◌, ◌==◌, ℕ, List, [], ◌∷◌, ◌++◌, take, drop, Bool, true, false, arith}
use Rattle.std.proofs.lemmas.Bool.Decides.{nat_tests}
use Rattle.std.proofs.Math.Seq.{take-add}
use Rattle.std.proofs.lemmas.Str.{IsAscii-append}
use Rattle.std.proofs.lemmas.Str.Ascii.{IsAscii-cons, IsAscii-nil}
use Rattle.std.specs.Str.{IsAscii}
use Rattle.fisca_ast.specs.Steps.Strings.{begins}

one_ascii : (bs : List ℕ) → begins 46 bs ≡ true → IsAscii (take 1 bs)
one_ascii [] h = IsAscii-nil
one_ascii (b ∷ bs) h = IsAscii-cons b [] (grind (arith, nat_tests)) IsAscii-nil

pub point_ascii : (w p : ℕ) (bs : List ℕ) → begins 46 (drop w bs) ≡ true → IsAscii (take w bs) → IsAscii (take p (drop (w + 1) bs)) → IsAscii (take (w + 1 + p) bs)
point_ascii w p bs h whole places =
    rw (take-add (w + 1) p bs) (IsAscii-append (take (w + 1) bs) (take p (drop (w + 1) bs)) (rw (take-add w 1 bs) (IsAscii-append (take w bs) (take 1 (drop w bs)) whole (one_ascii (drop w bs) h))) places)
