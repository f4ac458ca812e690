use Rattle.fisca_explanation.proofs.Answered.{fault_of}
use Rattle.fisca_explanation.proofs.law.faults_are_those_of_what_is_explained.Goals as goal

pub returns : goal.returns
returns c src key line f i e = fault_of src key line f i e
