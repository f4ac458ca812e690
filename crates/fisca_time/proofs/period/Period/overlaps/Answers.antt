use Rattle.std.proofs.Common.{refl}
use Rattle.fisca_time.proofs.Spans.{months_answer, days_answer, eternal_from_days, eternal_overlaps, overlaps_eternal}
use Rattle.fisca_time.proofs.period.Period.overlaps.Goals as goal

pub returns-in-Some-Some : goal.returns-in-Some-Some
returns-in-Some-Some c =
    months_answer c.args.self c.args.other.now c.month_range.result c.month_range-2.result c.in-Some-Some.ours c.in-Some-Some.theirs c.meet.result
    c.month_range.ensures.period c.month_range-2.ensures.period c.in-Some-Some.is-0 c.month_range.ensures.value c.in-Some-Some.is-1 c.month_range-2.ensures.value c.meet.ensures

pub returns-in_default-2 : goal.returns-in_default-2
returns-in_default-2 c =
    let e = eternal_from_days c.args.other.now c.day_range-2.result c.in_default-2.is-1 c.day_range-2.ensures.value in
    (λ _. overlaps_eternal c.args.self c.args.other.now e c.day_range.ensures.period, λ _. refl)

pub returns-in_default-2-2 : goal.returns-in_default-2-2
returns-in_default-2-2 c =
    let e = eternal_from_days c.args.self c.day_range.result c.in_default-2.is-0 c.day_range.ensures.value in
    (λ _. eternal_overlaps c.args.self c.args.other.now e c.day_range-2.ensures.period, λ _. refl)

pub returns : goal.returns
returns c =
    days_answer c.args.self c.args.other.now c.day_range.result c.day_range-2.result c.in-Some-Some-2.ours c.in-Some-Some-2.theirs c.meet-2.result
    c.day_range.ensures.period c.day_range-2.ensures.period c.in-Some-Some-2.is-0 c.day_range.ensures.value c.in-Some-Some-2.is-1 c.day_range-2.ensures.value c.meet-2.ensures
