use Rattle.fisca_grid.proofs.Cuts.{around_first_is}
use Rattle.fisca_grid.proofs.words.around_first.Goals as goal

pub returns : goal.returns
returns c = around_first_is c.args.mark.now c.args.text.now c.split_once.result c.requires c.split_once.ensures.cases
