use Rattle.std.proofs.Common.{◌≡◌, drop}
use Rattle.fisca_yaml.specs.Views.{items_view}
use Rattle.fisca_expected.specs.Steps.Reading.{items_read}
use Rattle.fisca_expected.specs.Views.{subject}
use Rattle.fisca_expected.proofs.values.items_read.Given as goal

abbrev pub invariant-loop-member : goal.invariant-loop-member
invariant-loop-member l =
    items_read l.tables (subject l.subject) l.period 0 l.fn.outputs (items_view l.items)
    ≡ items_read l.tables (subject l.subject) l.period l.member l.found (items_view (drop l.member l.items))
