use Rattle.std.proofs.Common.{◌≤◌, ap, rules, subst}
use Rattle.std.proofs.lemmas.Result.{err_from_is_err_and}
use Rattle.fisca_params.proofs.Refusals.{file-within}
use Rattle.fisca_params.specs.Answers.{Refuses}
use Rattle.fisca_params.specs.Files.{root_alone, with_files}
use Rattle.fisca_rule_files.specs.RuleFiles.{count_of_files}
use Rattle.fisca_rule_files.proofs.Telling.{without_memory}
use Rattle.fisca_rule_files.proofs.rule_files.rules_of.Goals as goal

pub returns-in_err-sorted-clause-err : goal.returns-in_err-sorted-clause-err
returns-in_err-sorted-clause-err c =
    let told = err_from_is_err_and c.from_residual.result c.from_residual.ensures.1 in
    let few : count_of_files c.args.files.now ≤ 1000 = search rules in
    rw told.1 (without_memory c.args.files.now told.0 few told.2)

pub refuse-requires-clause-file : goal.refuse-requires-clause-file
refuse-requires-clause-file c =
    file-within c.args.files.now c.in-Err.fault (subst (Refuses c.in-Err.fault) (ap (with_files root_alone) c.in_ok-sorted.ensures) c.in-Err.ensures.refused)

pub refuse-requires-clause-told : goal.refuse-requires-clause-told
refuse-requires-clause-told c = subst (Refuses c.in-Err.fault) (ap (with_files root_alone) c.in_ok-sorted.ensures) c.in-Err.ensures.refused
