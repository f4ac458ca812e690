use Rattle.fisca_time.proofs.Laws.{days_by_place}
use Rattle.fisca_time.proofs.law.subperiods_by_day_are_its_days.Goals as goal

pub returns : goal.returns
returns c = days_by_place
