use Rattle.std.proofs.Common.{◌≢◌, inr, refl, rules, arith}
use Rattle.fisca_yaml.specs.declared.fault.YamlKind.TheVariants as yaml
use Rattle.fisca_grid_run.specs.Yaml.{IsYamlFault}
use Rattle.fisca_grid_run.proofs.text.read_tree.Goals as goal

pub returns-in-Err-2-clause-err : goal.returns-in-Err-2-clause-err
returns-in-Err-2-clause-err c =
    let fault = c.in-Err.fault in
    let known : fault.kind ≢ yaml.Memory = search rules in
    let some : fault.line ≢ 0 = λ none. known (c.in-Err.ensures.memory.0 none) in
    let is : IsYamlFault c.args.text.now fault = record {
      known = known;
      none = c.in-Err.ensures.none known;
      long = (λ long. c.in-Err.ensures.long long, λ more. (c.in-Err.ensures.too_long more).0);
      first = λ long. (c.in-Err.ensures.too_long (c.in-Err.ensures.long long)).1;
      there = λ short. (omega (arith, some), c.in-Err.ensures.line short);
    } in
    inr (fault, refl, is)
