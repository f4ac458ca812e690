use Rattle.fisca_columns.proofs.Readings.{written_once}
use Rattle.fisca_columns.proofs.law.columns_are_written_in_one_way.Goals as goal

pub returns : goal.returns
returns c = written_once
