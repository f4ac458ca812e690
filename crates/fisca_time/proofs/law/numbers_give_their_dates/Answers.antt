use Rattle.fisca_time.proofs.Days.{date_of_number}
use Rattle.fisca_time.proofs.law.numbers_give_their_dates.Goals as goal

pub returns : goal.returns
returns c = date_of_number
