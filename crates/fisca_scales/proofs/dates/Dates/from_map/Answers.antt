use Rattle.std.proofs.Common.{ap, sym, ◌∙◌, rules, append-nil}
use Rattle.std.specs.Map.Iter.{deref_pair}
use Rattle.std.proofs.lemmas.Map.Iter.{rest_all}
use Rattle.fisca_scales.specs.Dates.{is_in_order}
use Rattle.fisca_scales.proofs.DateMaps.{in_order-numbers}
use Rattle.fisca_scales.proofs.dates.Dates.from_map.Goals as goal

pub invariant_of-result : goal.invariant_of-result
invariant_of-result g c =
    let ordered = in_order-numbers c.args.sorted.now.entries c.iter-day-items.ensures.ordered in
    let none = rest_all deref_pair c.loop-day.day-iterator c.next.new.self c.next.result c.in-None.is c.next.ensures.steps in
    let left = rw none at c.loop-day.invariant in
    let whole = sym (append-nil c.loop-day.items.items) ∙ left in
    let order = ap is_in_order whole ∙ ordered in
    search (rules, order)
