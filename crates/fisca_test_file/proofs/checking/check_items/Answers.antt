use Rattle.std.proofs.Common.{◌≡◌, ◌∙◌, ◌+◌, ◌<◌, [], ◌∷◌, ◌++◌, drop, length, ap, arith}
use Rattle.fisca_num.specs.Results.{and_then}
use Rattle.fisca_yaml.specs.Views.{items_view}
use Rattle.fisca_test_file.proofs.Items.{items-drop}
use Rattle.fisca_test_file.specs.Tests.{Test}
use Rattle.fisca_test_file.specs.Steps.Tests.{tests_from}
use Rattle.fisca_test_file.specs.Views.{test}
use Rattle.fisca_test_file.proofs.checking.check_items.Goals as goal

pub loop-item-preserved : goal.loop-item-preserved
loop-item-preserved c =
    let l = c.loop-item in
    let items = c.args.items.now in
    let told = l.invariant.0 in
    let here = test c.in_ok-_test._test in
    let left = items_view (drop (l.item-index + 1) items) in
    let inside : l.item-index < length items = omega (arith, c.loop-item-test.true, l.auto.item-index-end) in
    let cut = items-drop items l.item-index c.item-item.result inside c.item-item.is in
    let read = l.invariant.1 ∙ ap (λ is. tests_from c.args.tables.now told is) cut
    ∙ ap (λ r. and_then r (λ (t : Test). tests_from c.args.tables.now (told ++ t ∷ []) left)) c.in_ok-_test.ensures in
    (told ++ here ∷ [], read)
