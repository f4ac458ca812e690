use Rattle.std.proofs.Common.{◌≡◌, drop}
use Rattle.fisca_yaml.specs.Views.{entries_view}
use Rattle.fisca_params.specs.Steps.Content.{are_instants}
use Rattle.fisca_params.proofs.written.are_instants.Given as goal

abbrev pub invariant-loop-entry : goal.invariant-loop-entry
invariant-loop-entry l = are_instants (entries_view l.entries) ≡ are_instants (entries_view (drop l.entry-index l.entries))
