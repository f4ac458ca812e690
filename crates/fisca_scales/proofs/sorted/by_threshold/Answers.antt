use Rattle.std.proofs.Common.{◌≡◌, ◌+◌, ◌-◌, ◌<◌, ℕ, List, None, ap, sym, ◌∙◌, subst, drop, length, map, arith}
use Rattle.std.specs.List.{filter_map}
use Rattle.fisca_scales.specs.declared.bracket.Bracket.{Bracket}
use Rattle.fisca_scales.specs.Scale.{in_order}
use Rattle.fisca_scales.specs.Steps.Scale.{complete_at}
use Rattle.fisca_scales.specs.Sorted.{bracket_of}
use Rattle.fisca_scales.proofs.BracketMaps.{Kept, Kept-insert, Kept-less, none_more, one_more}
use Rattle.fisca_scales.proofs.Thresholds.{none_if_not}
use Rattle.fisca_scales.proofs.sorted.by_threshold.Goals as goal

pub loop-at-preserved-in_ok-insert : goal.loop-at-preserved-in_ok-insert
loop-at-preserved-in_ok-insert c =
    let bs : List Bracket = c.args.brackets.now in
    let i : ℕ = c.loop-at.at - 1 in
    let es = c.loop-at.sorted.entries in
    let inside : i < length bs = omega (arith, c.loop-at-test.true, c.loop-at.invariant.0) in
    let same : c.loop-at.at ≡ i + 1 = omega (arith, c.loop-at-test.true) in
    let entries = c.in_ok-insert.ensures.entries in
    let before : map bracket_of es ≡ in_order (filter_map (complete_at c.args.kind c.args.instant) (drop (i + 1) bs)) =
    subst (λ k. map bracket_of es ≡ in_order (filter_map (complete_at c.args.kind c.args.instant) (drop k bs))) same c.loop-at.invariant.1 in
    let kept : Kept (i + 1) es = subst (λ k. Kept k es) same c.loop-at.invariant.2 in
    let whole = one_more (complete_at c.args.kind c.args.instant) bs i c.index-brackets-at.result c.in-Some.bracket es inside c.index-brackets-at.is (sym c.complete_at.ensures ∙ c.in-Some.is) kept before in
    (omega (arith, inside), ap (map bracket_of) entries ∙ whole, rw entries (Kept-insert es (c.in-Some.bracket.threshold, i) c.in-Some.bracket.value kept))

pub loop-at-preserved : goal.loop-at-preserved
loop-at-preserved c =
    let bs : List Bracket = c.args.brackets.now in
    let i : ℕ = c.loop-at.at - 1 in
    let es = c.loop-at.sorted.entries in
    let inside : i < length bs = omega (arith, c.loop-at-test.true, c.loop-at.invariant.0) in
    let same : c.loop-at.at ≡ i + 1 = omega (arith, c.loop-at-test.true) in
    let none : complete_at c.args.kind c.args.instant c.index-brackets-at.result ≡ None = sym c.complete_at.ensures ∙ none_if_not c.complete_at.result c.in_default.not-Some in
    let before : map bracket_of es ≡ in_order (filter_map (complete_at c.args.kind c.args.instant) (drop (i + 1) bs)) =
    subst (λ k. map bracket_of es ≡ in_order (filter_map (complete_at c.args.kind c.args.instant) (drop k bs))) same c.loop-at.invariant.1 in
    let kept : Kept (i + 1) es = subst (λ k. Kept k es) same c.loop-at.invariant.2 in
    let whole = none_more (complete_at c.args.kind c.args.instant) bs i c.index-brackets-at.result es inside c.index-brackets-at.is none before in
    (omega (arith, inside), whole, Kept-less i (i + 1) es (omega arith) kept)
