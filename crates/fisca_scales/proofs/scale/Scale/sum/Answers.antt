use Rattle.std.proofs.Common.{◌≡◌, ap, sym, ◌∙◌, List}
use Rattle.std.specs.List.{filter_map}
use Rattle.fisca_scales.specs.declared.bracket.Bracket.{Bracket}
use Rattle.fisca_scales.specs.Scale.{sum_of_sorted, in_order}
use Rattle.fisca_scales.specs.Steps.Scale.{complete_at}
use Rattle.fisca_scales.proofs.Thresholds.{sum-distinct, sum-rising}
use Rattle.fisca_scales.proofs.scale.Scale.sum.Goals as goal

pub returns-in-Some : goal.returns-in-Some
returns-in-Some c =
    let k = c.kind_at-kind.ensures in
    let found = sum-rising c.kind_at-kind.result c.args.base (filter_map (complete_at c.kind_at-kind.result c.args.instant) c.deref.result.now) c.in-Some.sum (sym c.sum_as_written.ensures ∙ c.in-Some.is) in
    let written : c.deref.result.now ≡ c.args.self.now.brackets = c.deref.ensures.value ∙ ap (λ s. s.brackets) c.self.view_is in
    found ∙ ap (λ (bs : List Bracket). sum_of_sorted c.kind_at-kind.result c.args.base (in_order (filter_map (complete_at c.kind_at-kind.result c.args.instant) bs))) written
    ∙ ap (λ kind. sum_of_sorted kind c.args.base (in_order (filter_map (complete_at kind c.args.instant) c.args.self.now.brackets))) k

pub returns-in-None : goal.returns-in-None
returns-in-None c =
    let k = c.kind_at-kind.ensures in
    let found = sum-distinct c.kind_at-kind.result c.args.base (in_order (filter_map (complete_at c.kind_at-kind.result c.args.instant) c.deref-in-None.result.now)) in
    let written : c.deref-in-None.result.now ≡ c.args.self.now.brackets = c.deref-in-None.ensures.value ∙ ap (λ s. s.brackets) c.self.view_is in
    c.sum_by_threshold.ensures ∙ found ∙ ap (λ (bs : List Bracket). sum_of_sorted c.kind_at-kind.result c.args.base (in_order (filter_map (complete_at c.kind_at-kind.result c.args.instant) bs))) written
    ∙ ap (λ kind. sum_of_sorted kind c.args.base (in_order (filter_map (complete_at kind c.args.instant) c.args.self.now.brackets))) k
