use Rattle.std.proofs.Common.{◌≡◌, ◌<◌, length}
use Rattle.fisca_yaml.specs.Views.{node}
use Rattle.fisca_params.specs.Paths.{names_in}
use Rattle.fisca_params.specs.Steps.Tree.{put_below}
use Rattle.fisca_params.proofs.build.put_below.Given as goal
use denote.Text.{Utf8}
use denote.Shadow.{shadow}

-- the rest of the path, put below the folder so far, gives the whole
abbrev pub invariant-loop-name : goal.invariant-loop-name
invariant-loop-name l =
    shadow (Utf8 l.rest)
    × (put_below l.initial.nodes 0 (names_in l.fn.path) (node l.tree) ≡ put_below l.nodes l.folder (names_in l.rest) (node l.tree))
    × (l.folder < length l.nodes)

abbrev pub decreases-loop-name : goal.decreases-loop-name
decreases-loop-name l = length l.rest
