use Rattle.std.proofs.Common.{◌∙◌}
use Rattle.fisca_time.proofs.Spans.{kept_order}
use Rattle.fisca_time.proofs.period.PeriodOrd.cmp.Goals as goal

pub returns : goal.returns
returns c = c.cmp.ensures ∙ kept_order c.self.inside.key c.other.inside.key c.args.self.now c.args.other.now c.self.invariant c.self.view_is c.other.invariant c.other.view_is
