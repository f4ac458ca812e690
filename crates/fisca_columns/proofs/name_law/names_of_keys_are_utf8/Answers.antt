use Rattle.std.proofs.Common.{◌∙◌, subst, IsUtf8}
use Rattle.fisca_columns.proofs.name_law.names_of_keys_are_utf8.Goals as goal

pub returns-clause-variable : goal.returns-clause-variable
returns-clause-variable c = subst IsUtf8 (c.as_bytes-name.ensures.value ∙ c.names_of.ensures.variable) c.as_bytes-name.ensures.utf8

pub returns-clause-member : goal.returns-clause-member
returns-clause-member c = subst IsUtf8 (c.as_bytes-member.ensures.value ∙ c.names_of.ensures.member) c.as_bytes-member.ensures.utf8
