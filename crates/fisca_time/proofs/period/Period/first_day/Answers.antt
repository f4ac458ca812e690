use Rattle.std.proofs.Common.{◌≡◌, false, arith, rules}
use Rattle.fisca_time.specs.Period.{is_eternal}
use Rattle.fisca_time.proofs.Spans.{IsSpread, spread}
use Rattle.fisca_time.proofs.period.Period.first_day.Goals as goal

pub day_at-requires : goal.day_at-requires
day_at-requires c =
    let e : is_eternal c.args.self ≡ false = search rules in
    let k : IsSpread c.args.self = spread c.args.self c.start_day.ensures.period e in
    record { from = omega (arith, k.from, c.start_day.ensures.value); to = omega (arith, k.some, k.to, c.start_day.ensures.value) }
