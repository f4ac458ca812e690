use Rattle.std.proofs.Common.{arith}
use Rattle.fisca_check.proofs.Shapes.{options_more}
use Rattle.fisca_check.proofs.asks.one_option.Goals as goal

pub returns-in-len2-up : goal.returns-in-len2-up
returns-in-len2-up c = λ _. options_more c.args.things.now (omega (arith, c.in-len2-up.len_at_least))
