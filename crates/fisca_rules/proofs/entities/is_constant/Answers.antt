use Rattle.std.proofs.Common.{◌∙◌}
use Rattle.fisca_rules.proofs.Among.{among_like}
use Rattle.fisca_rules.proofs.entities.is_constant.Goals as goal

pub returns : goal.returns
returns c = c.contains.ensures ∙ among_like c.args.name.now c.args.declared.now.constants
