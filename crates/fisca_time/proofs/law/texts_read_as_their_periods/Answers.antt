use Rattle.fisca_time.proofs.ReadBack.{text_reads_back}
use Rattle.fisca_time.proofs.law.texts_read_as_their_periods.Goals as goal

pub returns : goal.returns
returns c = text_reads_back
