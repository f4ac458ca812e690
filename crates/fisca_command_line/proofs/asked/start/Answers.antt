use Rattle.fisca_command_line.proofs.asked.start.Goals as goal

pub returns : goal.returns
returns c = (c.number_in.result, c.number_in.ensures, c.unwrap_or.ensures)
