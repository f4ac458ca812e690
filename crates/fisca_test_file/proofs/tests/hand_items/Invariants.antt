use Rattle.std.proofs.Common.{◌≡◌, List, [], drop, length}
use Rattle.fisca_symbols.specs.Known.{tables as known}
use Rattle.fisca_yaml.specs.Views.{items_view}
use Rattle.fisca_test_file.proofs.Reports.{Told}
use Rattle.fisca_test_file.specs.Report.{test_context_of}
use Rattle.fisca_test_file.specs.Tests.{Test}
use Rattle.fisca_test_file.specs.Steps.Tests.{tests_from}
use Rattle.fisca_test_file.proofs.tests.hand_items.Given as goal

abbrev pub invariant-loop-item : goal.invariant-loop-item
invariant-loop-item g l =
    let test_context = test_context_of (known l.tables) (g.M.SimulationBuilder.answer_in l.builder) g.F.KeyFault.fault_name g.F.KeyFault.fault_key in
    (told : List Test)
    × (tests_from l.tables [] (items_view l.items) ≡ tests_from l.tables told (items_view (drop l.item-index l.items)))
    × Told test_context told l.verdict (g.S.RowSink.taken l.initial.sink) (g.S.RowSink.taken l.sink)
    × (length told ≡ l.item-index)
    × (g.S.RowSink.failures l.sink ≡ g.S.RowSink.failures l.initial.sink)
