use Rattle.fisca_num.specs.Text.{text_of_law}
use Rattle.fisca_num.proofs.laws.text_of_is_the_text.Goals as goal

pub returns : goal.returns
returns c = text_of_law
