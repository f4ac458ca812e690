use Rattle.std.proofs.Common.{◌++◌, ap, ◌∙◌}
use Rattle.std.proofs.lemmas.Result.{on_ok_weaker}
use Rattle.fisca_time.specs.PeriodText.{digits_to}
use Rattle.fisca_rule_files.proofs.DayTexts.{date_behind}
use Rattle.fisca_rule_files.proofs.days.write_day.Goals as goal

pub returns : goal.returns
unfolding lib.Utf8.encode
returns c =
    on_ok_weaker c.write_padded-3.result
    (λ last. date_behind c.args.day _ _ _ _ _ _ _ _ _ (c.from.ensures ∙ c.year.ensures.value) (c.from-2.ensures ∙ c.month.ensures.value) (c.from-3.ensures ∙ c.day.ensures.value)
    (c.in_ok-write_padded.ensures ∙ ap (λ t. t ++ digits_to 4 c.from.result) c.in_ok-reserve.ensures.bytes) c.in_ok-push.ensures.bytes c.in_ok-write_padded-2.ensures c.in_ok-push-2.ensures.bytes last)
    c.write_padded-3.ensures
