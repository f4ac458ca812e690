use Rattle.fisca_num.specs.Operations.{number_of_law}
use Rattle.fisca_num.proofs.laws.number_of_is_the_number.Goals as goal

pub returns : goal.returns
returns c = number_of_law
