use Rattle.std.proofs.Common.{◌≡◌, suc, ◌+◌, List, ◌∷◌, ap, sym, ◌∙◌, subst, drop, drop-cons, add-one, map, arith}
use Rattle.fisca_inputs.specs.Steps.Order.{in_order_with, put_in_order}
use Rattle.fisca_inputs.specs.Rules.{Rule, rule_of}
use Rattle.fisca_inputs.specs.declared.given.Given.{Given}
use Rattle.fisca_inputs.proofs.Ordered.{IsRank, Kept, given_of, insert-in_order, Kept-insert}
use Rattle.fisca_inputs.proofs.order.in_order.Goals as goal

pub loop-place-preserved : goal.loop-place-preserved
loop-place-preserved c =
    let rules : List Rule = map rule_of c.args.variables.now in
    let givens = c.args.givens.now in
    let i = c.loop-place.place in
    let old = c.loop-place.sorted.entries in
    let new = c.insert.new.sorted.entries in
    let rank = c.rank_of-rank.result in
    let g : Given = c.index-givens-place.result in
    let own : IsRank rules rank g = record { length = c.rank_of-rank.ensures.length; start = c.rank_of-rank.ensures.start; unit = c.rank_of-rank.ensures.unit } in
    let kept : Kept rules rank.1.1.1 old = subst (λ n. Kept rules n old) (sym c.rank_of-rank.ensures.place) c.loop-place.invariant.kept in
    let put : map given_of new ≡ put_in_order rules g (map given_of old) = ap (map given_of) c.in_ok-insert.ensures ∙ insert-in_order rules old rank _ kept own in
    let cut : drop i givens ≡ g ∷ drop (i + 1) givens =
    rw add-one (drop-cons givens i g c.loop-place-test.true ∙ ap (λ (h : Given). h ∷ drop (suc i) givens) (sym c.index-givens-place.is)) in
    record {
      whole = ap (λ gs. in_order_with rules gs (drop (i + 1) givens)) put ∙ sym (ap (in_order_with rules (map given_of old)) cut) ∙ c.loop-place.invariant.whole;
      kept = rw c.in_ok-insert.ensures (Kept-insert rules old rank _ (i + 1) kept own (omega (arith, c.rank_of-rank.ensures.place)));
    }
