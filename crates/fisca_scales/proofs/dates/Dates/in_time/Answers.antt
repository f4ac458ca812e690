use Rattle.std.proofs.Common.{rules, ◌≡◌, ◌∷◌, ◌∙◌, true, sym, ap, map, drop, drop-cons, add-one, suc, get_or, arith}
use Rattle.std.proofs.lemmas.Fn.{always_returns_same}
use Rattle.fisca_scales.specs.Dates.{is_before, is_in_order}
use Rattle.fisca_scales.specs.Steps.Dates.{in_time_with, put_in_time}
use Rattle.fisca_scales.specs.Dates.{numbered_pair}
use Rattle.fisca_scales.proofs.DateMaps.{in_order-answer, in_time-in_order, map-put}
use Rattle.fisca_scales.proofs.dates.Dates.in_time.Goals as goal

pub invariant_of-result : goal.invariant_of-result
invariant_of-result g c =
    let answer = rw c.deref.ensures.value at (c.is_sorted_by.ensures.cases (λ x y. is_before x.date y.date) (always_returns_same _ _ _ (λ a r f' k. search rules))) in
    let order : is_in_order c.args.items.items ≡ true = in_order-answer c.args.items.items c.is_sorted_by.result answer c.if-is_sorted_by.true in
    search (rules, order)

pub returns-then-is_sorted_by : goal.returns-then-is_sorted_by
returns-then-is_sorted_by g c =
    let answer = rw c.deref.ensures.value at (c.is_sorted_by.ensures.cases (λ x y. is_before x.date y.date) (always_returns_same _ _ _ (λ a r f' k. search rules))) in
    let order : is_in_order c.args.items.items ≡ true = in_order-answer c.args.items.items c.is_sorted_by.result answer c.if-is_sorted_by.true in
    let same = sym (in_time-in_order c.args.items.items order) in
    search (rules, same)

pub loop-dated-preserved : goal.loop-dated-preserved
loop-dated-preserved g c =
    let ds = c.deref-dated-items.result.now in
    let i = c.loop-dated.dated-index in
    let sorted = map numbered_pair c.loop-dated.sorted.entries in
    let cut : drop i ds ≡ get_or ds i c.dated-item.result ∷ drop (suc i) ds = drop-cons ds i c.dated-item.result (omega arith) in
    let item : get_or ds i c.dated-item.result ≡ numbered_pair (c.dated.inside.day, c.dated.inside.value) = sym c.dated-item.is ∙ sym c.dated.view_is in
    c.loop-dated.invariant
    ∙ ap (in_time_with sorted) cut
    ∙ ap (λ e. in_time_with (put_in_time e sorted) (drop (suc i) ds)) item
    ∙ ap (λ s. in_time_with s (drop (suc i) ds)) (sym (ap (map numbered_pair) c.in_ok-insert.ensures.entries ∙ map-put c.loop-dated.sorted.entries c.dated.inside.day c.dated.inside.value))
    ∙ ap (λ k. in_time_with (map numbered_pair c.insert.new.self.entries) (drop k ds)) (sym (add-one i))
