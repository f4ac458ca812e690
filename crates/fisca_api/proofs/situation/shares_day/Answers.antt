use Rattle.fisca_inputs.proofs.Days.{shares_is}
use Rattle.fisca_api.proofs.situation.shares_day.Goals as goal

pub returns : goal.returns
returns c = shares_is c.args.ours c.args.theirs c.overlaps.result c.overlaps.ensures
