use Rattle.std.proofs.Common.{◌≡◌, drop}
use Rattle.fisca_yaml.specs.Views.{entries_view}
use Rattle.fisca_situations.specs.Steps.Reading.{all_dated}
use Rattle.fisca_situations.specs.Views.{place}
use Rattle.fisca_situations.proofs.given.all_dated.Given as goal

abbrev pub invariant-loop-entry : goal.invariant-loop-entry
invariant-loop-entry l =
    all_dated l.tables (place l.place) l.fn.given (entries_view l.entries) ≡ all_dated l.tables (place l.place) l.found (entries_view (drop l.entry-index l.entries))
