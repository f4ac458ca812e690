use Rattle.std.proofs.Common.{List, Err, ap, refl, ◌∙◌}
use Rattle.std.specs.List.{filter_map}
use Rattle.std.specs.Option.{unwrap_or}
use Rattle.fisca_scales.specs.declared.bracket.CompleteBracket.{CompleteBracket}
use Rattle.fisca_scales.specs.declared.fault.ParamFault.TheVariants as fault
use Rattle.fisca_scales.specs.Scale.{in_order}
use Rattle.fisca_scales.specs.Steps.Scale.{complete_at}
use Rattle.fisca_scales.specs.Tally.{empty_tally}
use Rattle.fisca_scales.specs.Steps.Tally.{sum_if_rising}
use Rattle.fisca_scales.proofs.BracketMaps.{sum-or_shared}
use Rattle.fisca_scales.proofs.Thresholds.{Sorted-in_order}
use Rattle.fisca_scales.proofs.sorted.sum_sorted.Goals as goal

pub returns : goal.returns
returns c =
    let written : List CompleteBracket = filter_map (complete_at c.args.kind c.args.instant) c.args.brackets.now in
    let tally = empty_tally c.args.kind c.args.base in
    c.unwrap_or.ensures
    ∙ ap (λ sum. unwrap_or sum (Err fault.BadScale)) (c.sum_if_rising.ensures ∙ ap (sum_if_rising tally) c.in_ok-sorted.ensures)
    ∙ sum-or_shared tally (in_order written) refl (Sorted-in_order written)
