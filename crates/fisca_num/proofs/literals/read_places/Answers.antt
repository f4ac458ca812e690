use Rattle.std.proofs.Common.{◌≡◌, arith, sym, ◌∙◌, true, get_or}
use Rattle.std.specs.Char.{is_ascii_digit}
use Rattle.fisca_num.proofs.Reading.{form_digit, form_bar}
use Rattle.fisca_num.proofs.Places.{read_more, read_past_zero, read_past_other, next_read, next_skipped, room_below, digit_small}
use Rattle.fisca_num.proofs.literals.read_places.Goals as goal
use Rattle.fisca_num.proofs.literals.read_places.Goals.{then-is_ascii_digit+then-count-lt-MOST_PLACES, then-is_ascii_digit+else-count-lt-MOST_PLACES+then-byte-ne48, then-is_ascii_digit+else-count-lt-MOST_PLACES+else-byte-ne48, else-is_ascii_digit+then-digit+then-byte-eq95}

pub overflow_mul-number : goal.overflow_mul-number
overflow_mul-number c =
    let small = room_below c.loop-byte.number c.loop-byte.count c.loop-byte.invariant.read.small c.if-count-lt-MOST_PLACES.true in
    omega arith

pub overflow_add-number : goal.overflow_add-number
overflow_add-number c =
    let small = room_below c.loop-byte.number c.loop-byte.count c.loop-byte.invariant.read.small c.if-count-lt-MOST_PLACES.true in
    let digit = digit_small (get_or c.args.text.now c.loop-byte.byte-index 0) (sym c.is_ascii_digit.ensures.value ∙ c.if-is_ascii_digit.true) in
    omega (arith, c.from.ensures)

pub loop-byte-preserved : goal.loop-byte-preserved
loop-byte-preserved c = elim c.if-is_ascii_digit.branch [
  | then-is_ascii_digit+then-count-lt-MOST_PLACES w ↦
      let is : is_ascii_digit (get_or c.args.text.now c.loop-byte.byte-index 0) ≡ true = sym c.is_ascii_digit.ensures.value ∙ w.if-is_ascii_digit.true in
      record {
        form = rw w.digit-is (form_digit c.args.text.now _ _ _ c.loop-byte-test.true is c.loop-byte.invariant.form);
        read = rw (next_read c.args.text.now c.loop-byte.byte-index c.loop-byte-test.true is, w.number-is, w.count-is, w.few-is, w.from.ensures) (read_more _ _ _ _ _ is w.if-count-lt-MOST_PLACES.true c.loop-byte.invariant.read);
      }
  | then-is_ascii_digit+else-count-lt-MOST_PLACES+then-byte-ne48 w ↦
      let is : is_ascii_digit (get_or c.args.text.now c.loop-byte.byte-index 0) ≡ true = sym c.is_ascii_digit.ensures.value ∙ w.if-is_ascii_digit.true in
      record {
        form = rw w.digit-is (form_digit c.args.text.now _ _ _ c.loop-byte-test.true is c.loop-byte.invariant.form);
        read = rw (next_read c.args.text.now c.loop-byte.byte-index c.loop-byte-test.true is, w.number-is, w.count-is, w.few-is) (read_past_other _ _ _ _ _ w.if-count-lt-MOST_PLACES.false w.if-byte-ne48.true c.loop-byte.invariant.read);
      }
  | then-is_ascii_digit+else-count-lt-MOST_PLACES+else-byte-ne48 w ↦
      let is : is_ascii_digit (get_or c.args.text.now c.loop-byte.byte-index 0) ≡ true = sym c.is_ascii_digit.ensures.value ∙ w.if-is_ascii_digit.true in
      record {
        form = rw w.digit-is (form_digit c.args.text.now _ _ _ c.loop-byte-test.true is c.loop-byte.invariant.form);
        read = rw (next_read c.args.text.now c.loop-byte.byte-index c.loop-byte-test.true is, w.number-is, w.count-is, w.few-is) (read_past_zero _ _ _ _ _ w.if-count-lt-MOST_PLACES.false w.if-byte-ne48.false c.loop-byte.invariant.read);
      }
  | else-is_ascii_digit+then-digit+then-byte-eq95 w ↦ record {
    form = rw w.digit-is (form_bar c.args.text.now _ _ c.loop-byte-test.true w.if-byte-eq95.true (rw w.if-digit.true at c.loop-byte.invariant.form));
    read = rw (next_skipped c.args.text.now c.loop-byte.byte-index c.loop-byte-test.true w.if-byte-eq95.true, w.number-is, w.count-is, w.few-is) c.loop-byte.invariant.read;
  }
]
