use Rattle.std.proofs.Common.{◌≡◌, drop}
use Rattle.fisca_yaml.specs.Views.{entries_view}
use Rattle.fisca_expected.specs.Steps.Reading.{all_dated}
use Rattle.fisca_expected.specs.Views.{subject}
use Rattle.fisca_expected.proofs.variables.all_dated.Given as goal

abbrev pub invariant-loop-entry : goal.invariant-loop-entry
invariant-loop-entry l =
    all_dated l.tables (subject l.subject) l.fn.outputs (entries_view l.entries)
    ≡ all_dated l.tables (subject l.subject) l.found (entries_view (drop l.entry-index l.entries))
