use Rattle.fisca_columns.proofs.ReadBack.{read_back}
use Rattle.fisca_columns.proofs.law.columns_are_read_back.Goals as goal

pub returns : goal.returns
returns c = read_back c.texts_read_as_their_periods.ensures
