use Rattle.std.proofs.Common.{◌≡◌, ◌<◌, ◌∙◌, Some, ap, sym, subst, length, rules}
use Rattle.std.proofs.lemmas.Option.{slice_get-get_or}
use Rattle.fisca_rule_files.specs.RuleFiles.{IsToldAt, path_of, place_of}
use Rattle.fisca_rule_files.proofs.Telling.{stands}
use Rattle.fisca_rule_files.proofs.rule_files.refuse.Goals as goal

pub returns-in-Yaml : goal.returns-in-Yaml
returns-in-Yaml c =
    let files = c.args.files.now in
    let there = c.index-files-file in
    let at : place_of c.args.fault ≡ Some (c.in-Yaml.file, c.in-Yaml.yaml.line) = search rules in
    let below : c.in-Yaml.file < length files = search rules in
    let path = ap path_of (slice_get-get_or files c.in-Yaml.file there.result below) ∙ sym (ap (λ source. source.path) there.is) ∙ sym c.path.ensures in
    let told = subst (λ fault. IsToldAt c.path.result.now c.in-Yaml.yaml.line fault c.tell.result) (sym c.in-Yaml.is) c.tell.ensures in
    stands files c.args.fault c.in-Yaml.file c.in-Yaml.yaml.line c.path.result.now c.tell.result at path told

pub returns-in-BadParameter : goal.returns-in-BadParameter
returns-in-BadParameter c =
    let files = c.args.files.now in
    let there = c.index-files-file-in-BadParameter in
    let at : place_of c.args.fault ≡ Some (c.in-BadParameter.file, c.in-BadParameter.line) = search rules in
    let below : c.in-BadParameter.file < length files = search rules in
    let path = ap path_of (slice_get-get_or files c.in-BadParameter.file there.result below) ∙ sym (ap (λ source. source.path) there.is) ∙ sym c.path-in-BadParameter.ensures in
    let told = subst (λ fault. IsToldAt c.path-in-BadParameter.result.now c.in-BadParameter.line fault c.tell-in-BadParameter.result) c.in-BadParameter.fault-is c.tell-in-BadParameter.ensures in
    stands files c.args.fault c.in-BadParameter.file c.in-BadParameter.line c.path-in-BadParameter.result.now c.tell-in-BadParameter.result at path told
