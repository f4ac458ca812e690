use Rattle.fisca_explanation.proofs.Followed.{followed_is_work}
use Rattle.fisca_explanation.proofs.law.formulas_that_are_followed_are_the_work.Goals as goal

pub returns : goal.returns
returns c src key k v e = followed_is_work src key k v e
