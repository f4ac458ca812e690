use Rattle.std.proofs.Common.{arith}
use mir.Syntax.{w64}
use Rattle.std.proofs.lemmas.Nat.Bits.{bit_at-trailing_zeros}
use Rattle.fisca_num.proofs.Halving.{halved}
use Rattle.fisca_num.proofs.divisors.halvings.Goals as goal

pub returns : goal.returns
returns c =
    let t = bit_at-trailing_zeros w64 c.args.number c.requires (omega arith) in
    halved _ _ t.0 t.1 t.2
