use Rattle.std.proofs.Common.{◌≡◌, drop, map}
use Rattle.fisca_yaml.specs.Views.{entries_view}
use Rattle.fisca_params.specs.Content.{first_line}
use Rattle.fisca_params.specs.Steps.Content.{written_values}
use Rattle.fisca_params.specs.FaultLines.{is_dated}
use Rattle.fisca_params.specs.Written.{seen}
use Rattle.fisca_params.proofs.Walks.{after}
use Rattle.fisca_params.proofs.written.read_written.Given as goal

-- what is read, before what is left, is the whole
abbrev pub invariant-loop-entry : goal.invariant-loop-entry
invariant-loop-entry l =
    (written_values (entries_view l.entries) ≡ after (map seen l.values.items) (written_values (entries_view (drop l.entry-index l.entries))))
    × (first_line is_dated (entries_view l.entries) ≡ first_line is_dated (entries_view (drop l.entry-index l.entries)))
