use Rattle.std.proofs.Common.{◌∙◌, ap, option_and_then}
use Rattle.fisca_command_line.specs.Asked.{format_of}
use Rattle.fisca_command_line.proofs.asked.form_in.Goals as goal

pub returns : goal.returns
returns c = (c.flag.ensures, c.decimals_in.ensures, c.format_in.ensures ∙ ap (option_and_then format_of) c.text_in.ensures)
