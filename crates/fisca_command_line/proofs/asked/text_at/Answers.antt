use Rattle.std.proofs.Common.{◌∙◌, ap, unwrap_or, []}
use Rattle.fisca_command_line.proofs.Matches.{text_or}
use Rattle.fisca_command_line.proofs.asked.text_at.Goals as goal

pub returns : goal.returns
returns c = ap (λ text. text.now) c.unwrap_or.ensures ∙ (text_or c.text_in.result _ ∙ ap (λ text. unwrap_or text []) c.text_in.ensures)
