use Rattle.std.proofs.Common.{◌∙◌}
use Rattle.fisca_declarations.proofs.Named.{member_seen}
use Rattle.fisca_declarations.proofs.members.member_named.Goals as goal

pub returns : goal.returns
returns c = c.of_name.ensures ∙ member_seen c.args.name.now c.args.choices.now.members
