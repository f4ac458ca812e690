use Rattle.std.proofs.Common.{[]}
use Rattle.fisca_explanation.proofs.Lines.{is_path}
use Rattle.fisca_explanation.proofs.law.listed_keys_are_asked_for.Goals as goal

pub returns : goal.returns
returns c src key line i = is_path src 100 [] [] key line tt i
