use Rattle.std.proofs.Common.{◌≡◌, drop}
use Rattle.fisca_yaml.specs.Views.{entries_view}
use Rattle.fisca_params.specs.Content.{first_line}
use Rattle.fisca_params.specs.Steps.Tree.{names_description}
use Rattle.fisca_params.proofs.build.first_child.Given as goal

abbrev pub invariant-loop-entry : goal.invariant-loop-entry
invariant-loop-entry l = first_line names_description (entries_view l.entries) ≡ first_line names_description (entries_view (drop l.entry-index l.entries))
