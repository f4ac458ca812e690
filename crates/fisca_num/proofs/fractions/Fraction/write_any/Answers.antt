use Rattle.fisca_num.proofs.Written.{utf8_tail}
use Rattle.fisca_num.proofs.fractions.Fraction.write_any.Goals as goal

pub from_utf8_unchecked-requires : goal.from_utf8_unchecked-requires
from_utf8_unchecked-requires c = utf8_tail c.args.self _ _ c.put_text-start.ensures.text
