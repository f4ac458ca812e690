use Rattle.std.proofs.Common.{◌≡◌, ◌<◌, ◌+◌, ap, sym, ◌∙◌, drop, drop-cons, add-one, length, get_or, map, [], ◌∷◌, suc, arith}
use Rattle.std.proofs.lemmas.List.{get_or_default}
use Rattle.std.specs.List.{enumerate_from}
use Rattle.fisca_params.specs.Source.{Source}
use Rattle.fisca_params.specs.Steps.Files.{in_path_order_with, put_by_path}
use Rattle.fisca_params.proofs.Ordered.{placed_of, insert-in_order, Kept-insert}
use Rattle.fisca_params.proofs.read.in_path_order.Goals as goal

pub loop-place-preserved : goal.loop-place-preserved
loop-place-preserved c =
    let files = c.args.files.now in
    let i = c.loop-place.place in
    let done = c.loop-place.sorted.entries in
    let file : Source = c.index-files-place.result in
    let none : Source = record { path = []; text = [] } in
    let inside : i < length files = c.loop-place-test.true in
    let same : get_or files i none ≡ file = sym (c.index-files-place.is ∙ get_or_default files i c.index-files-place.result none inside) in
    let entries = c.in_ok-insert.ensures.entries in
    let put : map placed_of c.insert.new.self.entries ≡ put_by_path (i, file) (map placed_of done) =
    ap (map placed_of) entries ∙ insert-in_order done (c.path.result, i) _ c.loop-place.invariant.1 c.path.ensures in
    let cut : drop i files ≡ get_or files i none ∷ drop (suc i) files = drop-cons files i none inside in
    let whole = c.loop-place.invariant.0
    ∙ ap (λ fs. in_path_order_with (map placed_of done) (enumerate_from i fs)) cut
    ∙ ap (λ s. in_path_order_with (put_by_path (i, s) (map placed_of done)) (enumerate_from (i + 1) (drop (suc i) files))) same
    ∙ ap (λ s. in_path_order_with s (enumerate_from (i + 1) (drop (suc i) files))) (sym put)
    ∙ ap (λ k. in_path_order_with (map placed_of c.insert.new.self.entries) (enumerate_from (i + 1) (drop k files))) (sym (add-one i)) in
    (whole, rw entries (Kept-insert done (c.path.result, i) _ (i + 1) c.loop-place.invariant.1 c.path.ensures (omega arith)))
