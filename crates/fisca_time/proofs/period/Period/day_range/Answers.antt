use Rattle.std.proofs.Common.{◌≡◌, false, arith, rules}
use Rattle.fisca_time.specs.Period.{is_eternal}
use Rattle.fisca_time.proofs.Spans.{IsSpread, spread}
use Rattle.fisca_time.proofs.period.Period.day_range.Goals as goal

pub returns-in-Day-clause-order : goal.returns-in-Day-clause-order
returns-in-Day-clause-order c =
    let e : is_eternal c.args.self ≡ false = search rules in
    let k : IsSpread c.args.self = spread c.args.self c.start_day.ensures.period e in
    omega (arith, k.some, c.start_day.ensures.value, c.stop_day.ensures)
