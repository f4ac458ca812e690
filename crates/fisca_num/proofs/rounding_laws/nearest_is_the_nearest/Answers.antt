use Rattle.fisca_num.proofs.Near.{nearest_law, none_nearer}
use Rattle.fisca_num.proofs.rounding_laws.nearest_is_the_nearest.Goals as goal

pub returns-clause-only : goal.returns-clause-only
returns-clause-only c = nearest_law

pub returns-clause-none_nearer : goal.returns-clause-none_nearer
returns-clause-none_nearer c = none_nearer
