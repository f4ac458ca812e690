use Rattle.std.proofs.Common.{◌∙◌, append_assoc}
use Rattle.std.proofs.lemmas.Result.{on_ok_weaker}
use Rattle.fisca_time.proofs.Digits.{two_digits}
use Rattle.fisca_time.proofs.text.push_two_digits.Goals as goal

pub returns : goal.returns
returns c =
    on_ok_weaker c.push_digit-2.result
    (λ is. is ∙ rw (c.in_ok-push_digit.ensures, two_digits c.args.number c.requires) (simp append_assoc)) c.push_digit-2.ensures
