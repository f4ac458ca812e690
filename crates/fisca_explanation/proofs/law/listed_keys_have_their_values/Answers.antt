use Rattle.fisca_explanation.proofs.Answered.{value_of}
use Rattle.fisca_explanation.proofs.Lines.{answered}
use Rattle.std.proofs.Common.{[]}
use Rattle.fisca_explanation.proofs.law.listed_keys_have_their_values.Goals as goal

pub returns : goal.returns
returns c src key line v i e = value_of src line v (answered src 100 [] [] key line i) e
