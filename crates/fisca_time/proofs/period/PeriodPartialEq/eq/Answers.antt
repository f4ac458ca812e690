use Rattle.std.proofs.Common.{◌∙◌, ap}
use Rattle.std.specs.Cmp.{unsigned_ties}
use Rattle.std.specs.Ordering.{is_eq}
use Rattle.fisca_time.proofs.Spans.{kept_order}
use Rattle.fisca_time.proofs.period.PeriodPartialEq.eq.Goals as goal

pub returns : goal.returns
returns c =
    let a = c.self.inside.key in
    let b = c.other.inside.key in
    unsigned_ties a b ∙ ap is_eq (kept_order a b c.args.self.now c.args.other.now c.self.invariant c.self.view_is c.other.invariant c.other.view_is)
