use Rattle.std.proofs.Common.{ap, ◌∙◌, option_map, rules}
use Rattle.std.proofs.lemmas.Fn.{filter_same}
use Rattle.std.specs.List.{filter, flat_map}
use Rattle.fisca_expected.proofs.Kept.{kept_outputs}
use Rattle.fisca_expected.specs.Outputs.{Output}
use Rattle.fisca_expected.specs.Steps.Tested.{is_tested}
use Rattle.fisca_expected.specs.Views.{expected_outputs}
use Rattle.fisca_yaml.specs.Views.{node}
use Rattle.fisca_expected.proofs.outputs.Outputs.tested.Goals as goal

pub returns : goal.returns
returns c =
    let test = is_tested c.args.tables.now (option_map (λ tree. node tree.now) c.args.only) (option_map (λ tree. node tree.now) c.args.ignored) in
    ap (flat_map expected_outputs) (filter_same _ (λ output. test output.variable) _ (λ x b f' k. search rules) _ _ c.retain.ensures.filtered)
    ∙ kept_outputs test _
    ∙ ap (filter (λ (o : Output). test o.0.variable)) c.self.view_is
