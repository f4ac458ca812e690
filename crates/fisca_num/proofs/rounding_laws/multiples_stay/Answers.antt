use Rattle.fisca_num.proofs.Rounded.{multiple_kept, rounded_kept}
use Rattle.fisca_num.proofs.rounding_laws.multiples_stay.Goals as goal

pub returns-clause-multiple : goal.returns-clause-multiple
returns-clause-multiple c = λ places k v. multiple_kept places v k

pub returns-clause-again : goal.returns-clause-again
returns-clause-again c = rounded_kept
