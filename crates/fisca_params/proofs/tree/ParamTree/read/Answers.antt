use Rattle.std.proofs.Common.{ap, subst}
use Rattle.std.proofs.lemmas.Result.{IfErr-weaker}
use Rattle.fisca_params.specs.Answers.{Refuses}
use Rattle.fisca_params.specs.Files.{root_alone, with_files}
use Rattle.fisca_params.proofs.Refusals.{file-within}
use Rattle.fisca_params.proofs.tree.ParamTree.read.Goals as goal

pub returns-clause-file : goal.returns-clause-file
returns-clause-file c =
    IfErr-weaker c.read_in_order.result _ _
    (λ fault refused. file-within c.args.files.now fault (subst (Refuses fault) (ap (with_files root_alone) c.in_ok-sorted.ensures) refused))
    c.read_in_order.ensures.refused
