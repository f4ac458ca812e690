use Rattle.std.proofs.Common.{refl}
use Rattle.fisca_folder.proofs.LaidOver.{last_has, last_told, others_have, others_told}
use Rattle.fisca_folder.proofs.layer_laws.layers_are_laid_over.Goals as goal

pub returns-clause-last : goal.returns-clause-last
returns-clause-last c = last_has

pub returns-clause-others : goal.returns-clause-others
returns-clause-others c = others_have

pub returns-clause-alone : goal.returns-clause-alone
returns-clause-alone c = λ rules path. (refl, refl)

pub returns-clause-told_last : goal.returns-clause-told_last
returns-clause-told_last c = last_told

pub returns-clause-told_others : goal.returns-clause-told_others
returns-clause-told_others c = others_told
