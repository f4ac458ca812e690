use Rattle.fisca_grid.proofs.Cuts.{around_last_is}
use Rattle.fisca_grid.proofs.words.around_last.Goals as goal

pub returns : goal.returns
returns c = around_last_is c.args.mark.now c.args.text.now c.rsplit_once.result c.requires c.rsplit_once.ensures.cases
