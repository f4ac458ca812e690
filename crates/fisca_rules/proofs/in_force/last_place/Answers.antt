use Rattle.fisca_rules.proofs.Search.{last_of, none_of}
use Rattle.fisca_rules.proofs.in_force.last_place.Goals as goal

pub returns-in-Some : goal.returns-in-Some
returns-in-Some c = last_of c.args.day c.args.starts.now _ _ _ (c.range.ensures.in_range tt) c.in-Some.ensures.steps

pub returns-in-None : goal.returns-in-None
returns-in-None c = none_of c.args.day c.args.starts.now _ (c.range.ensures.in_range tt) c.in-None.ensures.steps.0
