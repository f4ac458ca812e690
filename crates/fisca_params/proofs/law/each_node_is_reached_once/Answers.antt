use Rattle.fisca_params.proofs.Origins.{reached-once}
use Rattle.fisca_params.proofs.law.each_node_is_reached_once.Goals as goal

pub returns : goal.returns
returns c = reached-once
