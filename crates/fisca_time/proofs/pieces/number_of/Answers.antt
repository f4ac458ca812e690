use Rattle.std.proofs.Common.{◌≡◌, ◌∙◌, sym, arith, get_or, true}
use Rattle.std.specs.Char.{is_ascii_digit}
use Rattle.fisca_time.proofs.Numerals.{digit_step}
use Rattle.fisca_time.proofs.pieces.number_of.Goals as goal

pub loop-byte-preserved : goal.loop-byte-preserved
loop-byte-preserved c =
    let d : is_ascii_digit (get_or c.args.text.now c.loop-byte.byte-index 0) ≡ true = sym c.is_ascii_digit.ensures.value ∙ c.if-not-is_ascii_digit.false in
    let s = digit_step _ _ _ _ _ _ c.loop-byte-test.true d c.loop-byte.invariant.digits c.loop-byte.invariant.same in
    record { small = omega (arith, c.min-number.ensures); digits = s.0; same = rw (c.min-number.ensures, c.from.ensures) s.1 }
