use Rattle.fisca_params.proofs.Made.{all-made}
use Rattle.fisca_params.proofs.law.files_that_fit_make_a_tree.Goals as goal

pub returns : goal.returns
returns c = all-made
