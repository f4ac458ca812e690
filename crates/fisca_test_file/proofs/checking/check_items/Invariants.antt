use Rattle.std.proofs.Common.{◌≡◌, List, [], drop}
use Rattle.fisca_yaml.specs.Views.{items_view}
use Rattle.fisca_test_file.specs.Tests.{Test}
use Rattle.fisca_test_file.specs.Steps.Tests.{tests_from}
use Rattle.fisca_test_file.proofs.checking.check_items.Given as goal

abbrev pub invariant-loop-item : goal.invariant-loop-item
invariant-loop-item l =
    (told : List Test)
    × (tests_from l.tables [] (items_view l.items) ≡ tests_from l.tables told (items_view (drop l.item-index l.items)))
