use Rattle.std.proofs.Common.{List, ap, sym, ◌∙◌, Some}
use Rattle.std.specs.List.{filter_map}
use Rattle.fisca_scales.specs.declared.bracket.CompleteBracket.{CompleteBracket}
use Rattle.fisca_scales.specs.Scale.{in_order}
use Rattle.fisca_scales.specs.Steps.Scale.{complete_at}
use Rattle.fisca_scales.specs.Steps.Tally.{sum_if_distinct, tally_with}
use Rattle.fisca_scales.proofs.Thresholds.{above_none, none_if_not, above_only, sum-at_end, sum-at_shared, sum-at_lowest, fewer-above_lowest}
use Rattle.fisca_scales.proofs.scale.sum_in_order.Goals as goal

pub loop-lowest-init : goal.loop-lowest-init
loop-lowest-init c = ap (sum_if_distinct c.new-tally.result) (sym (above_none (in_order (filter_map (complete_at c.args.kind c.args.instant) c.args.brackets.now))))

pub returns-then-lowest : goal.returns-then-lowest
returns-then-lowest c =
    let written : List CompleteBracket = filter_map (complete_at c.args.kind c.args.instant) c.args.brackets.now in
    let found = sum-at_shared c.loop-lowest.tally c.loop-lowest.above written c.in-Some.lowest (sym c.lowest_above.ensures ∙ c.in-Some.is) c.if-lowest.true in
    sym (ap (λ t. sum_if_distinct t (in_order written)) (sym c.new-tally.ensures) ∙ c.loop-lowest.invariant ∙ found)

pub loop-lowest-smaller : goal.loop-lowest-smaller
loop-lowest-smaller c =
    let written : List CompleteBracket = filter_map (complete_at c.args.kind c.args.instant) c.args.brackets.now in
    rw c.threshold.ensures (fewer-above_lowest c.loop-lowest.above written c.in-Some.lowest (sym c.lowest_above.ensures ∙ c.in-Some.is) c.if-lowest.false)

pub loop-lowest-preserved : goal.loop-lowest-preserved
loop-lowest-preserved c =
    let written : List CompleteBracket = filter_map (complete_at c.args.kind c.args.instant) c.args.brackets.now in
    let found = sum-at_lowest c.loop-lowest.tally c.loop-lowest.above written c.in-Some.lowest (sym c.lowest_above.ensures ∙ c.in-Some.is) c.if-lowest.false in
    let taken = c.take.ensures ∙ ap (tally_with c.loop-lowest.tally) c.bracket.ensures in
    c.loop-lowest.invariant ∙ found
    ∙ ap (λ t. sum_if_distinct t (above_only (Some c.in-Some.lowest.bracket.threshold) (in_order written))) (sym taken)
    ∙ ap (λ n. sum_if_distinct c.take.new.self (above_only (Some n) (in_order written))) (sym c.threshold.ensures)

pub returns : goal.returns
returns c =
    let written : List CompleteBracket = filter_map (complete_at c.args.kind c.args.instant) c.args.brackets.now in
    let found = sum-at_end c.loop-lowest.tally c.loop-lowest.above written (sym c.lowest_above.ensures ∙ none_if_not c.lowest_above.result c.in_default.not-Some) in
    c.answer.ensures ∙ sym (ap (λ t. sum_if_distinct t (in_order written)) (sym c.new-tally.ensures) ∙ c.loop-lowest.invariant ∙ found)
