use Rattle.fisca_grid.proofs.Prefixes.{after_is}
use Rattle.fisca_grid.proofs.condition.after.Goals as goal

pub returns : goal.returns
returns c = after_is c.args.beginning.now c.args.text.now c.strip_prefix.result c.strip_prefix.ensures.cases
