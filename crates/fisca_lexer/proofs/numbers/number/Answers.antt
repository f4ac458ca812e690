use Rattle.std.proofs.Common.{take}
use Rattle.std.proofs.lemmas.Str.{IsUtf8-from_ascii}
use Rattle.fisca_lexer.proofs.numbers.number.Goals as goal

pub returns-in_default-clause-value : goal.returns-in_default-clause-value
returns-in_default-clause-value c = absurd (c.in_default.ensures.cases.0 (rw c.split_at.ensures.front (IsUtf8-from_ascii (take c.args.size c.args.text.now) c.requires.ascii)))
