use Rattle.fisca_forms.proofs.Near.{zero_law}
use Rattle.fisca_forms.proofs.fixed_law.no_zero_has_a_sign.Goals as goal

pub returns : goal.returns
returns c = zero_law
