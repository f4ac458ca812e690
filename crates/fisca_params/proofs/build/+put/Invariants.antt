use Rattle.std.proofs.Common.{◌≡◌, ◌≤◌, drop, length}
use Rattle.fisca_yaml.specs.Views.{entries_view}
use Rattle.fisca_params.specs.Steps.Tree.{put_children}
use Rattle.fisca_params.proofs.build.+put.Given as goal

-- what is left, put into the tree so far, gives the whole
abbrev pub invariant-put_children-loop-entry : goal.invariant-put_children-loop-entry
invariant-put_children-loop-entry l =
    (put_children l.initial.nodes l.place (entries_view l.entries) ≡ put_children l.nodes l.place (entries_view (drop l.entry-index l.entries)))
    × (length l.initial.nodes ≤ length l.nodes)
