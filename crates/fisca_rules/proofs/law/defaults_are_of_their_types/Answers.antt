use Rattle.fisca_rules.proofs.Defaults.{defaults_fit}
use Rattle.fisca_rules.proofs.law.defaults_are_of_their_types.Goals as goal

pub returns : goal.returns
returns c = defaults_fit
