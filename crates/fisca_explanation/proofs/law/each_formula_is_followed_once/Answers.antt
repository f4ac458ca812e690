use Rattle.fisca_explanation.proofs.Different.{all_different}
use Rattle.fisca_explanation.proofs.law.each_formula_is_followed_once.Goals as goal

pub returns : goal.returns
returns c src key = all_different src 100 key
