use Rattle.clap.specs.Matches.{found_of}
use Rattle.fisca_command_line.proofs.Matches.{number_read}
use Rattle.fisca_command_line.proofs.asked.number_in.Goals as goal

pub returns : goal.returns
returns c = number_read (found_of c.args.matches.now) c.args.id.now c.get_one.result c.get_one.ensures.none c.get_one.ensures.value
