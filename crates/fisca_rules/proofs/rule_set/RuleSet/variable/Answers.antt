use Rattle.std.proofs.Common.{◌∙◌, ap, map, option_map}
use Rattle.std.specs.Str.{bytes_eq}
use Rattle.fisca_symbols.specs.KnownVariables.{variable}
use Rattle.fisca_rules.proofs.Named.{place_of_first, place_of_name}
use Rattle.fisca_rules.proofs.rule_set.RuleSet.variable.Goals as goal

pub returns-in-Some : goal.returns-in-Some
returns-in-Some c =
    let all = c.args.self.now.tables.variables in
    let name = c.args.name.now in
    ap (option_map (λ p. p.0)) c.in-Some.ensures ∙ place_of_first (λ v. bytes_eq v.name name) 0 (map variable all)
    ∙ place_of_name name 0 all

pub returns-in-None : goal.returns-in-None
returns-in-None c =
    let all = c.args.self.now.tables.variables in
    let name = c.args.name.now in
    ap (option_map (λ p. p.0)) c.in-None.ensures ∙ place_of_first (λ v. bytes_eq v.name name) 0 (map variable all)
    ∙ place_of_name name 0 all
