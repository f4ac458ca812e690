use Rattle.std.proofs.Common.{◌∙◌, map}
use Rattle.fisca_ast.specs.ModuleViews.{statements}
use Rattle.fisca_rules.proofs.Scans.{constants_placed, enums_placed}
use Rattle.fisca_rules.proofs.constants.declared_in.Goals as goal

pub returns : goal.returns
returns c =
    let ms = map statements c.args.modules.now in
    λ i. record {
      constants = (c.in_ok-constants_in.ensures ∙ constants_placed 0 ms) i;
      enums = (c.in_ok-enums_in.ensures ∙ enums_placed 0 ms) i;
    }
