use Rattle.fisca_num.proofs.RoundTrip.{read_back}
use Rattle.fisca_num.proofs.laws.numerals_are_read_back.Goals as goal

pub returns : goal.returns
returns c = read_back
