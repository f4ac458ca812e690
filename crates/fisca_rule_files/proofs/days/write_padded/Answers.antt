use Rattle.std.proofs.Common.{◌≡◌, ◌-◌, length, arith}
use Rattle.fisca_rule_files.proofs.DayTexts.{padded, zero_more}
use Rattle.fisca_rule_files.proofs.days.write_padded.Goals as goal

pub loop-zero-preserved : goal.loop-zero-preserved
unfolding lib.Utf8.encode
loop-zero-preserved c = zero_more _ _ _ _ c.in_ok-push.ensures.bytes c.loop-zero.invariant

pub returns : goal.returns
returns c =
    let all : c.loop-zero._zero ≡ c.args.width - length c.format-digits.result.now = omega (arith, c.loop-zero-test.false, c.loop-zero.auto._zero-end, c.saturating_sub-zero-end.ensures) in
    padded c.push_str.result _ _ _ _ c.args.width c.args.number _ c.format-digits.ensures.text all c.loop-zero.invariant c.push_str.ensures.bytes
