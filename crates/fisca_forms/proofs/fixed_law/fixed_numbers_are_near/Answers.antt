use Rattle.fisca_forms.proofs.Near.{away_law, near_law}
use Rattle.fisca_forms.proofs.fixed_law.fixed_numbers_are_near.Goals as goal

pub returns : goal.returns
returns c = record { near = near_law; away = away_law }
