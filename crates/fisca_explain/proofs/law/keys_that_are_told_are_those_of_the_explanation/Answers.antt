use Rattle.std.proofs.Common.{[], refl}
use Rattle.fisca_explain.proofs.ToldKeys.{told_same}
use Rattle.fisca_explain.proofs.law.keys_that_are_told_are_those_of_the_explanation.Goals as goal

pub returns : goal.returns
returns c src N needs key = (told_same src N needs 100 [] [] key refl).lines
