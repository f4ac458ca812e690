use Rattle.std.proofs.Common.{◌∙◌, append_assoc}
use Rattle.std.proofs.lemmas.Result.{on_ok_weaker}
use Rattle.fisca_time.proofs.Digits.{four_digits}
use Rattle.fisca_time.proofs.text.push_year.Goals as goal

pub returns : goal.returns
returns c =
    on_ok_weaker c.push_two_digits-2.result
    (λ is. is ∙ rw (c.in_ok-push_two_digits.ensures, four_digits c.args.year c.requires) (simp append_assoc)) c.push_two_digits-2.ensures
