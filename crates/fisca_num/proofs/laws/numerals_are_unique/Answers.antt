use Rattle.fisca_num.specs.TextAnswer.{numeral_once}
use Rattle.fisca_num.proofs.laws.numerals_are_unique.Goals as goal

pub returns : goal.returns
returns c = λ v s t. numeral_once s t v
