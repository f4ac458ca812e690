use Rattle.std.proofs.Common.{◌∙◌}
use Rattle.fisca_declarations.proofs.Named.{enum_seen}
use Rattle.fisca_declarations.proofs.needed.enum_named.Goals as goal

pub returns : goal.returns
returns c = c.of_name.ensures ∙ enum_seen c.args.name.now c.args.declared.now.enums
