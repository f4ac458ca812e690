use Rattle.std.proofs.Common.{◌≡◌, ap, sym, ◌∙◌, codes, option_map, None}
use Rattle.fisca_params.specs.Steps.Paths.{first_of, without_ending}
use Rattle.fisca_params.proofs.PathTexts.{ending_is}
use Rattle.fisca_params.proofs.source.without_yaml.Goals as goal

pub returns-in-None : goal.returns-in-None
returns-in-None c =
    let longer = ending_is (codes ".yaml") c.args.name.now c.strip_suffix.result c.strip_suffix.ensures.cases in
    let shorter = ending_is (codes ".yml") c.args.name.now c.strip_suffix-in-None.result c.strip_suffix-in-None.ensures.cases in
    let none : without_ending (codes ".yaml") c.args.name.now ≡ None = sym longer ∙ ap (option_map (λ x. x.now)) c.in-None.is in
    shorter ∙ ap (λ o. first_of o (without_ending (codes ".yml") c.args.name.now)) (sym none)
