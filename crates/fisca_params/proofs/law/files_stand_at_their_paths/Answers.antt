use Rattle.fisca_params.proofs.Standing.{each-stands}
use Rattle.fisca_params.proofs.law.files_stand_at_their_paths.Goals as goal

pub returns : goal.returns
returns c = each-stands
