use Rattle.fisca_command_line.proofs.asked.decimals_in.Goals as goal

pub returns : goal.returns
returns c = (c.number_in.result, c.number_in.ensures, c.places_of.ensures)
