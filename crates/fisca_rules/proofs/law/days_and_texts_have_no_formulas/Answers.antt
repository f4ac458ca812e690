use Rattle.fisca_rules.proofs.Defaults.{uncomputed}
use Rattle.fisca_rules.proofs.law.days_and_texts_have_no_formulas.Goals as goal

pub returns : goal.returns
returns c = uncomputed
