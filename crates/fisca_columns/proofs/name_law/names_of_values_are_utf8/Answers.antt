use Rattle.std.proofs.Common.{◌∙◌, subst, IsUtf8}
use Rattle.fisca_columns.proofs.name_law.names_of_values_are_utf8.Goals as goal

pub returns : goal.returns
returns c = subst IsUtf8 (c.as_bytes-bytes.ensures.value ∙ c.choice_at-name.ensures) c.as_bytes-bytes.ensures.utf8
