use Rattle.std.proofs.Common.{◌≡◌, ◌&&◌, ◌==◌, arith, sym, ◌∙◌, true, false, length, get_or, refl}
use Rattle.std.specs.Char.{is_ascii_digit}
use Rattle.std.specs.List.{before_first}
use Rattle.std.proofs.lemmas.Bool.{ne_eqb, eq-eqb}
use Rattle.fisca_num.specs.Literal.{is_point}
use Rattle.fisca_num.proofs.Before.{IsBefore, next_before, more_without, not_point, bar_no_point, some_digits, ended, whole_ended}
use Rattle.fisca_num.proofs.Reading.{form_digit, form_bar, form_other, value_digit, value_bar}
use Rattle.fisca_num.proofs.literals.read_whole.Goals as goal
use Rattle.fisca_num.proofs.literals.read_whole.Goals.{else-digit-via-then-digit+else-byte-eq95, else-digit-via-else-digit, then-is_ascii_digit, else-is_ascii_digit+then-digit+then-byte-eq95}

pub returns-then-byte-eq46 : goal.returns-then-byte-eq46
returns-then-byte-eq46 c = whole_ended _ _ _ _
    (ended c.args.text.now c.loop-index.index c.loop-index.number c.loop-index.digit (omega arith) c.loop-index.invariant.none (λ h. eq-eqb _ 46 c.if-byte-eq46.true) c.loop-index.invariant.small c.loop-index.invariant.form c.loop-index.invariant.value)
    c.ended.result c.ended.ensures

pub returns-else-byte-eq46 : goal.returns-else-byte-eq46
returns-else-byte-eq46 c =
    let at : IsBefore c.args.text.now c.loop-index.index = next_before _ _ c.loop-index-test.true c.loop-index.invariant.none (ne_eqb _ 46 c.if-byte-eq46.false) in
    let is : is_ascii_digit (get_or c.args.text.now c.loop-index.index 0) ≡ false = sym c.is_ascii_digit.ensures.value ∙ c.if-is_ascii_digit.false in
    let bar : (c.loop-index.digit && (get_or c.args.text.now c.loop-index.index 0 == 95)) ≡ false = elim c.else-digit.branch [
      | else-digit-via-then-digit+else-byte-eq95 w ↦ rw (w.if-digit.true, ne_eqb _ 95 w.if-byte-eq95.false) refl
      | else-digit-via-else-digit w ↦ rw w.if-digit.false refl
    ] in
    some_digits (before_first is_point c.args.text.now) (omega (arith, at.within)) ∙ form_other (before_first is_point c.args.text.now) _ _ _ at.within (rw at.same is) (rw at.same bar) c.loop-index.invariant.form

pub loop-index-preserved : goal.loop-index-preserved
loop-index-preserved c = elim c.if-is_ascii_digit.branch [
  | then-is_ascii_digit w ↦
      let is : is_ascii_digit (get_or c.args.text.now c.loop-index.index 0) ≡ true = sym c.is_ascii_digit.ensures.value ∙ w.if-is_ascii_digit.true in
      let at : IsBefore c.args.text.now c.loop-index.index = next_before _ _ c.loop-index-test.true c.loop-index.invariant.none (not_point _ is) in
      record {
        small = omega (arith, w.number-is, w.next_capped-number.ensures);
        none = more_without _ _ c.loop-index.invariant.none (not_point _ is);
        form = rw w.digit-is (form_digit (before_first is_point c.args.text.now) _ _ _ at.within (rw at.same is) c.loop-index.invariant.form);
        value = rw w.number-is (value_digit (before_first is_point c.args.text.now) _ _ _ _ _ at.within (rw at.same is) (rw at.same w.next_capped-number.ensures) c.loop-index.invariant.value);
      }
  | else-is_ascii_digit+then-digit+then-byte-eq95 w ↦
      let at : IsBefore c.args.text.now c.loop-index.index = next_before _ _ c.loop-index-test.true c.loop-index.invariant.none (bar_no_point _ w.if-byte-eq95.true) in
      record {
        small = rw w.number-is c.loop-index.invariant.small;
        none = more_without _ _ c.loop-index.invariant.none (bar_no_point _ w.if-byte-eq95.true);
        form = rw w.digit-is (form_bar (before_first is_point c.args.text.now) _ _ at.within (rw at.same w.if-byte-eq95.true) (rw w.if-digit.true at c.loop-index.invariant.form));
        value = rw w.number-is (value_bar (before_first is_point c.args.text.now) _ _ _ _ at.within (rw at.same w.if-byte-eq95.true) c.loop-index.invariant.value);
      }
]

pub returns : goal.returns
returns c =
    let e : c.loop-index.index ≡ length c.args.text.now = omega arith in
    whole_ended c.args.text.now (length c.args.text.now) c.loop-index.number c.loop-index.digit
    (rw (← e) (ended c.args.text.now c.loop-index.index c.loop-index.number c.loop-index.digit (omega arith) c.loop-index.invariant.none (λ h. absurd (omega arith)) c.loop-index.invariant.small c.loop-index.invariant.form c.loop-index.invariant.value))
    c.ended-2.result c.ended-2.ensures
